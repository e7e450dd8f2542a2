-- What the reader sees of the next token, in the words of the tokens that are left.
use Rattle.std.proofs.Common.{◌≡◌, ℕ, List, [], ◌∷◌, length, Some, None, Ok, Err, Option, sym, refl, ap, ◌∙◌, subst, inr, arith}
use Rattle.std.specs.Option.{ok_or}
use Rattle.text.specs.Tokens.{Sign, Token, token, lambda, closing, Rest}
use Rattle.text.specs.Lexing.{Next, Found, sign_of}
use Rattle.text.specs.declared.token.Token.{Token as Cut}
use Rattle.text.specs.declared.token.Lexeme.{Lexeme}
use Rattle.text.specs.declared.token.Token.TheVariants as cut
use Rattle.text.specs.declared.fault.TextFault.{TextFault}
use Rattle.text.specs.declared.fault.TextFault.TheVariants.{Stray, Misplaced}
use Rattle.text.proofs.Ahead.{rest_none, rest_some}
use Rattle.grammar.specs.Machine.{Frames, State, start, dead, step, result, none, Live, Halts}
use Rattle.grammar.proofs.Halting.{halts_here, halts_end, halts_later}
use Rattle.formula.specs.Parsing.{Reads, BinderRead, HeadRead, Ends, GoesOn, NoLambda, Blames, Expected, Taken}
use Rattle.formula.specs.declared.expected.Head.{Head}

-- one token off a list
pub same_head : (x y : Token) (us vs : List Token) → x ∷ us ≡ y ∷ vs → x ≡ y
same_head x y us vs e = cc

pub cons_not_nil : (x : Token) (us : List Token) → x ∷ us ≡ [] → ⊥
cons_not_nil x us e = let z : ◌≡◌ {A = ℕ} 0 1 = cc in omega arith

module _ (text : List ℕ) (from : ℕ) (f : Lexeme) (found : Found text from f) where
  -- the next token says x
  pub reads_sign : (x : Sign) → sign_of f.token ≡ x → Reads text from x f.end
  reads_sign x s =
      record {
        less = found.less;
        within = found.within;
        reads = λ ts r. let m = rest_some text from ts r (Some f) f refl found in (f.at, m.0, m.1 ∙ ap (λ y. token y f.at ∷ m.0) s, m.2);
      }

  -- it cannot follow, from a state that takes no such token
  pub blames_here : (q : State) (ts : List Token) → Live q → step q (sign_of f.token) f.at ≡ dead → Rest text from ts → Blames q ts (length text) (Misplaced f.at)
  blames_here q ts l d r =
      let m = rest_some text from ts r (Some f) f refl found in
      subst (λ l. Halts q l (length text) f.at) (sym m.1) (halts_here q (token (sign_of f.token) f.at) m.0 (length text) l d)

  pub ends_closing : sign_of f.token ≡ closing → (ts : List Token) → Rest text from ts → Ends ts
  ends_closing s ts r x us d =
      let m = rest_some text from ts r (Some f) f refl found in
      let z : x ≡ token (sign_of f.token) f.at = same_head x _ us m.0 (sym d ∙ m.1) in
      ap (λ (y : Token). y.sign) z ∙ s

  pub goes_on : (sign_of f.token ≡ closing → ⊥) → (ts : List Token) → Rest text from ts → GoesOn ts
  goes_on s ts r = let m = rest_some text from ts r (Some f) f refl found in (token (sign_of f.token) f.at, m.0, m.1, s)

  pub no_lambda : (sign_of f.token ≡ lambda → ⊥) → (ts : List Token) → Rest text from ts → NoLambda ts
  no_lambda s ts r a us d =
      let m = rest_some text from ts r (Some f) f refl found in
      s (ap (λ (y : Token). y.sign) (same_head (token (sign_of f.token) f.at) (token lambda a) m.0 us (sym m.1 ∙ d)))

  -- what the tokens rule out of it
  pub not_lambda : (ts : List Token) → Rest text from ts → NoLambda ts → f.token ≡ cut.Lambda → ⊥
  not_lambda ts r l x = let m = rest_some text from ts r (Some f) f refl found in l f.at m.0 (m.1 ∙ ap (λ y. token (sign_of y) f.at ∷ m.0) x)

  pub not_close : (ts : List Token) → Rest text from ts → GoesOn ts → f.token ≡ cut.Close → ⊥
  not_close ts r g x =
      let m = rest_some text from ts r (Some f) f refl found in
      let z : g.0 ≡ token closing f.at = same_head g.0 (token closing f.at) g.1 m.0 (sym g.2 ∙ m.1 ∙ ap (λ y. token (sign_of y) f.at ∷ m.0) x) in
      g.3 (ap (λ (y : Token). y.sign) z)

-- there is none, and something is left open
pub blames_end : (q : State) (ts : List Token) (end : ℕ) (f : TextFault) → (ts ≡ []) × (f ≡ Misplaced end) → Live q → result q ≡ none → Blames q ts end f
blames_end q ts end f e l d = subst (λ t. Blames q t end f) (sym e.0) (subst (Blames q [] end) (sym e.1) (halts_end q end l d))

pub nothing_starts : (ts : List Token) (end : ℕ) (f : TextFault) → (ts ≡ []) × (f ≡ Misplaced end) → (k : Frames) → Blames (start k) ts end f
nothing_starts ts end f e k = blames_end (start k) ts end f e tt refl

pub nothing_follows : (ts : List Token) → ts ≡ [] → GoesOn ts → ⊥
nothing_follows ts e g = cons_not_nil g.0 g.1 (sym g.2 ∙ e)

pub nothing_ends : (ts : List Token) → ts ≡ [] → Ends ts
nothing_ends ts e x us d = absurd (cons_not_nil x us (sym d ∙ e))

pub no_lambda_at_end : (ts : List Token) → ts ≡ [] → NoLambda ts
no_lambda_at_end ts e a us d = cons_not_nil (token lambda a) us (sym d ∙ e)

-- the next token, where it has to stand
pub expected_of : (text : List ℕ) (from : ℕ) (n : Option Lexeme) → Next text from (Ok n) → Expected text from (ok_or n (Misplaced (length text)))
expected_of text from (Some x) next = next
expected_of text from None next = λ ts r. (rest_none text from ts r None refl next, refl)

-- a token of which nothing is made
pub nothing_made : {T : Type 0} (Makes : Cut → Option T → Type 0) (text : List ℕ) (from : ℕ) (f : Lexeme) (g : TextFault) → Found text from f → Makes f.token None → g ≡ Misplaced f.at → Taken Makes text from (Err g)
nothing_made Makes text from f g found made e ts r = let m = rest_some text from ts r (Some f) f refl found in inr (f.token, f.at, m.0, m.1, e, made)

-- a token stands here that the state does not take
pub blames_other : (q : State) (ts : List Token) (end : ℕ) (f : TextFault) (x : Cut) (o : ℕ) (us : List Token) → ts ≡ token (sign_of x) o ∷ us → f ≡ Misplaced o → Live q → step q (sign_of x) o ≡ dead → Blames q ts end f
blames_other q ts end f x o us e g l d = subst (λ t. Blames q t end f) (sym e) (subst (Blames q (token (sign_of x) o ∷ us) end) (sym g) (halts_here q (token (sign_of x) o) us end l d))

-- What is found after a token that the state takes.
pub blames_later : (text : List ℕ) (from : ℕ) (x : Sign) (end : ℕ) → Reads text from x end → (q : State) (f : TextFault) {p : ℕ → State} → ((o : ℕ) → step q x o ≡ p o) → (ts : List Token) → Rest text from ts → ((o : ℕ) (us : List Token) → Rest text end us → Blames (p o) us (length text) f) → Blames q ts (length text) f
blames_later text from x end h q (Misplaced a) {p} e ts r b =
    let m = h.reads ts r in
    subst (λ l. Halts q l (length text) a) (sym m.2) (halts_later q (p m.0) (token x m.0 ∷ []) m.1 (length text) a (e m.0) (b m.0 m.1 m.3))
blames_later text from x end h q (Stray a) {p} e ts r b = let m = h.reads ts r in b m.0 m.1 m.3

-- a `\`, and a name and a dot behind it
pub head_read : (text : List ℕ) (from mid : ℕ) (h : Head) → Reads text from lambda mid → BinderRead text mid h → HeadRead text from h
head_read text from mid h l b =
    record {
      less = omega (arith, l.less, b.less);
      within = b.within;
      reads = λ ts r. let a = l.reads ts r in let c = b.reads a.1 a.3 in (a.0, c.0, c.1, c.2, a.2 ∙ ap (λ l. token lambda a.0 ∷ l) c.3, c.4);
    }
