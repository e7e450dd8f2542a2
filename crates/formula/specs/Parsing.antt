-- What the parts of the reader answer: contracts of its own, in the words of grammar and names.
use Rattle.std.specs.Prelude.{◌≡◌, ℕ, ◌+◌, ◌-◌, ◌*◌, ◌<◌, ◌≤◌, ◌⊎◌, Bool, true, false, List, [], ◌∷◌, ◌++◌, length, take, drop, Some, None, Ok, Err, Option, Result, ◌≢◌}
use Rattle.catalogue.specs.Names.{Name}
use Rattle.catalogue.specs.Entries.{Entry}
use Rattle.std.specs.List.{AllByRecursion}
use Rattle.grammar.specs.Grammar.{Tree, named, nodes, Kind, Is, FirstBad}
use Rattle.grammar.specs.Machine.{Frames, State, start, binder, after, Halts}
use Rattle.term.specs.declared.TermNode.{TermNode}
use Rattle.term.specs.declared.Symbol.{Symbol}
use Rattle.term.specs.Symbols.{node_of}
use Rattle.term.specs.Terms.{Term, prefix}
use Rattle.text.specs.Tokens.{Sign, Token, token, lambda, dot, closing, name, Rest, Tokens}
use Rattle.text.specs.Lexing.{Found, NotAllTokens, sign_of}
use Rattle.text.specs.declared.token.Lexeme.{Lexeme}
use Rattle.text.specs.declared.token.Token.{Token as Cut}
use Rattle.text.specs.declared.fault.TextFault.{TextFault}
use Rattle.text.specs.declared.fault.TextFault.TheVariants.{Stray, Misplaced}
use Rattle.formula.specs.Firsts.{Fails}
use Rattle.formula.specs.Names.{Resolves, uses, Known, references, Filed}
use Rattle.formula.specs.Reading.{Parses, Formula}
use Rattle.formula.specs.declared.expected.Head.{Head}
use Rattle.formula.specs.declared.names.Scope.{Scope, Top, One', Two'}
use Rattle.formula.specs.declared.parser.Reach.{Reach}

-- the names of the binders in a scope, the innermost first
abbrev pub names_in : Scope → List Name
names_in Top = []
names_in (One' v p s) = v.now ∷ names_in s
names_in (Two' v w p s) = v.now ∷ w.now ∷ names_in s

-- no abstraction begins here
abbrev pub NoLambda : List Token → Type 0
NoLambda ts = (a : ℕ) (us : List Token) → ts ≢ token lambda a ∷ us

-- an application or an expression ends here: at the end, or at a closing bracket
abbrev pub Ends : List Token → Type 0
Ends ts = (x : Token) (us : List Token) → ts ≡ x ∷ us → x.sign ≡ closing

-- one more atom is to follow here
abbrev pub GoesOn : List Token → Type 0
GoesOn ts = (x : Token) × (us : List Token) × (ts ≡ x ∷ us) × (x.sign ≢ closing)

-- a fault that is found from the state q on
abbrev pub Blames : State → List Token → ℕ → TextFault → Type 0
Blames q ts end (Misplaced p) = Halts q ts end p
Blames q ts end (Stray p) = ⊥

-- the token x stands here, and the text goes on at `end`
pub record Reads (text : List ℕ) (from : ℕ) (x : Sign) (end : ℕ) : Type 0 where
  pub less : from < end
  pub within : end ≤ length text
  pub reads : (ts : List Token) → Rest text from ts → (o : ℕ) × (us : List Token) × (ts ≡ token x o ∷ us) × Rest text end us

-- the token that has to stand here
abbrev pub Expected : List ℕ → ℕ → Result Lexeme TextFault → Type 0
Expected text from (Ok x) = Found text from x
Expected text from (Err f) = (ts : List Token) → Rest text from ts → (ts ≡ []) × (f ≡ Misplaced (length text))

-- what is made of the token that stands here, and where it ends; if nothing can be made of it, it is misplaced
abbrev pub Taken : {T : Type 0} → (Cut → Option T → Type 0) → List ℕ → ℕ → Result (T × ℕ) TextFault → Type 0
Taken Makes text from (Ok r) = (x : Cut) × Makes x (Some r.0) × Reads text from (sign_of x) r.1
Taken Makes text from (Err f) = (ts : List Token) → Rest text from ts → ((ts ≡ []) × (f ≡ Misplaced (length text))) ⊎ ((x : Cut) × (o : ℕ) × (us : List Token) × (ts ≡ token (sign_of x) o ∷ us) × (f ≡ Misplaced o) × Makes x None)

-- the name and the dot of a binder
pub record BinderRead (text : List ℕ) (from : ℕ) (h : Head) : Type 0 where
  pub less : from < h.end
  pub within : h.end ≤ length text
  pub reads : (ts : List Token) → Rest text from ts → (b : ℕ) × (c : ℕ) × (us : List Token) × (ts ≡ token (name h.name.now) b ∷ (token dot c ∷ us)) × Rest text h.end us

abbrev pub Bindered : List ℕ → ℕ → Result Head TextFault → Type 0
Bindered text from (Ok h) = BinderRead text from h
Bindered text from (Err f) = (ts : List Token) → Rest text from ts → (k : Frames) → Blames (binder k) ts (length text) f

-- the head of an abstraction, `\`, a name and a dot, if the tokens begin with a `\`
pub record HeadRead (text : List ℕ) (from : ℕ) (h : Head) : Type 0 where
  pub less : from + 1 < h.end
  pub within : h.end ≤ length text
  pub reads : (ts : List Token) → Rest text from ts → (a : ℕ) × (b : ℕ) × (c : ℕ) × (us : List Token) × (ts ≡ token lambda a ∷ (token (name h.name.now) b ∷ (token dot c ∷ us))) × Rest text h.end us

abbrev pub Headed : List ℕ → ℕ → Result (Option Head) TextFault → Type 0
Headed text from (Ok (Some h)) = HeadRead text from h
Headed text from (Ok None) = (ts : List Token) → Rest text from ts → NoLambda ts
Headed text from (Err f) = (ts : List Token) → Rest text from ts → (k : Frames) → Blames (start k) ts (length text) f

-- whether another atom follows
abbrev pub Follows : List ℕ → ℕ → Result Bool TextFault → Type 0
Follows text from (Ok true) = (ts : List Token) → Rest text from ts → GoesOn ts
Follows text from (Ok false) = (ts : List Token) → Rest text from ts → Ends ts
Follows text from (Err f) = (ts : List Token) → Rest text from ts → ⊥

-- where the closing bracket ends that is to stand here
abbrev pub Closed : List ℕ → ℕ → Result ℕ TextFault → Type 0
Closed text from (Ok end) = Reads text from closing end
Closed text from (Err f) = (ts : List Token) → Rest text from ts → Ends ts → (ts ≡ []) × (f ≡ Misplaced (length text))

-- what a name means, where it means anything: the term that it is, unless too many binders stand around it
abbrev pub Leaf : List Entry → List Name → Name → Option Symbol → Type 0
Leaf es scope w (Some v) = ((o : ℕ) → Known es (record { name = w; at = o; scope = scope })) × (length scope ≤ 65535 → (t : Term) × (prefix t ≡ node_of v ∷ []) × ((o : ℕ) → Resolves es scope (named w o) t))
Leaf es scope w None = (o : ℕ) → Known es (record { name = w; at = o; scope = scope }) → ⊥

-- a name settled: its node is written where there is room, or its place is answered
abbrev pub Settled : List Entry → List Name → Name → ℕ → List TermNode → List TermNode → Option ℕ → Type 0
Settled es scope w place out out' None = ((o : ℕ) → Known es (record { name = w; at = o; scope = scope })) × (length scope ≤ 65535 → 0 < length out → (t : Term) × ((o : ℕ) → Resolves es scope (named w o) t) × (out' ≡ prefix t ++ drop 1 out))
Settled es scope w place out out' (Some p) = (p ≡ place) × ((o : ℕ) → Known es (record { name = w; at = o; scope = scope }) → ⊥)

-- where a reference is not filed, its place
abbrev pub Unfiled : ℕ → ℕ → ℕ → Option ℕ → Type 0
Unfiled filed n place None = n < filed
Unfiled filed n place (Some p) = (p ≡ place) × (n < filed → ⊥)

-- How far was read, and how many nodes at most.
pub record Advance (text : List ℕ) (from : ℕ) (r : Reach) : Type 0 where
  pub less : from < r.end
  pub within : r.end ≤ length text
  pub small : r.count + 1 ≤ 2 * (r.end - from)

-- The tokens ts from here on begin with one of the kind. Its names are settled, and its term is written at the front of
-- the memory where it has room for it.
pub record Made (kind : Kind) (text : List ℕ) (es : List Entry) (filed : ℕ) (scope : List Name) (out out' : List TermNode) (r : Reach) (ts : List Token) : Type 0 where
  pub tree : Tree
  pub front : List Token
  pub rest : List Token
  pub split : ts ≡ front ++ rest
  pub is : Is kind front tree
  pub remains : Rest text r.end rest
  pub count : r.count ≡ nodes tree
  pub filing : Fails (Filed filed) (λ x. x.at) (references tree) r.unfiled
  pub naming : Fails (Known es) (λ u. u.at) (uses scope tree) r.unknown
  pub writing : length scope + nodes tree ≤ 65536 → r.unknown ≡ None → nodes tree ≤ length out → (t : Term) × Resolves es scope tree t × (out' ≡ prefix t ++ drop (nodes tree) out)

-- One of the kind was read from here on, over whichever tokens the text has.
pub record Covered (kind : Kind) (text : List ℕ) (es : List Entry) (filed : ℕ) (scope : List Name) (out out' : List TermNode) (from : ℕ) (r : Reach) : Type 0 where
  pub advance : Advance text from r
  pub made : (ts : List Token) → Rest text from ts → Made kind text es filed scope out out' r ts

-- the same of an expression or an application, which goes on as far as it can
pub record Ended (kind : Kind) (text : List ℕ) (es : List Entry) (filed : ℕ) (scope : List Name) (out out' : List TermNode) (from : ℕ) (r : Reach) : Type 0 where
  pub covered : Covered kind text es filed scope out out' from r
  pub ends : (ts : List Token) → Rest text r.end ts → Ends ts

-- the same reach, with another first unknown name
abbrev pub with_unknown : Reach → Option ℕ → Reach
with_unknown r u = record { end = r.end; count = r.count; unknown = u; unfiled = r.unfiled }

-- P holds of the reach with the first unknown name of all that was read. The reader answers that name where there was
-- room for all nodes; a name without room for its node isn't looked up.
pub record InRoom (room : ℕ) (P : Reach → Type 0) (r : Reach) : Type 0 where
  pub unknown : Option ℕ
  pub read : P (with_unknown r unknown)
  pub looked_up : r.count ≤ room → unknown ≡ r.unknown

abbrev pub BlamesExpression : List ℕ → ℕ → TextFault → Type 0
BlamesExpression text from f = (ts : List Token) → Rest text from ts → (k : Frames) → Blames (start k) ts (length text) f

abbrev pub BlamesApplication : List ℕ → ℕ → TextFault → Type 0
BlamesApplication text from f = (ts : List Token) → Rest text from ts → NoLambda ts → (k : Frames) → Blames (start k) ts (length text) f

abbrev pub BlamesNext : List ℕ → ℕ → TextFault → Type 0
BlamesNext text from f = (ts : List Token) → Rest text from ts → GoesOn ts → (g : Tree) (k : Frames) → Blames (after g k) ts (length text) f

-- The whole text was read. Its names are settled, and its term is written where the memory has room for it, up to 1,024
-- nodes.
pub record Parsed (text : List ℕ) (es : List Entry) (filed : ℕ) (out out' : List TermNode) (r : Reach) : Type 0 where
  pub tree : Tree
  pub parses : Parses text tree
  pub count : r.count ≡ nodes tree
  pub filing : Fails (Filed filed) (λ x. x.at) (references tree) r.unfiled
  pub naming : Fails (Known es) (λ u. u.at) (uses [] tree) r.unknown
  pub writing : nodes tree ≤ 1024 → r.unknown ≡ None → nodes tree ≤ length out → (t : Term) × Resolves es [] tree t × (out' ≡ prefix t ++ drop (nodes tree) out)

-- why the text is no expression
abbrev pub NotParsed : List ℕ → TextFault → Type 0
NotParsed text (Stray p) = NotAllTokens text p
NotParsed text (Misplaced p) = (ts : List Token) × Tokens text ts × FirstBad ts (length text) p

-- the front of the memory is the text's term, the only one that it has
pub record Drafted (es : List Entry) (filed : ℕ) (text : List ℕ) (memory : List TermNode) (n : ℕ) : Type 0 where
  pub term : Term
  pub formula : Formula es text term
  pub only : (t : Term) → Formula es text t → t ≡ term
  pub below : AllByRecursion (Filed filed) (references formula.tree)
  pub count : n ≡ length (prefix term)
  pub few : n ≤ 1024
  pub fits : n ≤ length memory
  pub front : take n memory ≡ prefix term
