-- Where the reader finds a fault, the machine halts.
use Rattle.std.proofs.Common.{◌≡◌, ℕ, List, [], ◌∷◌, ◌++◌, length, sym, refl, ◌∙◌, subst}
use Rattle.catalogue.specs.Names.{Name}
use Rattle.catalogue.specs.Entries.{Entry}
use Rattle.grammar.specs.Grammar.{Tree, expression, application}
use Rattle.grammar.specs.Machine.{Frames, body, first, next, State, start, after, takes, finish, none, Halts}
use Rattle.grammar.proofs.Walks.{walks}
use Rattle.grammar.proofs.Halting.{halts_end, halts_later}
use Rattle.term.specs.declared.TermNode.{TermNode}
use Rattle.text.specs.Tokens.{Token, token, lambda, dot, opening, name, Rest}
use Rattle.text.specs.declared.fault.TextFault.{TextFault}
use Rattle.text.specs.declared.fault.TextFault.TheVariants.{Stray, Misplaced}
use Rattle.formula.specs.Parsing.{Blames, Reads, HeadRead, Made, GoesOn, BlamesExpression, BlamesApplication, BlamesNext}
use Rattle.formula.specs.declared.expected.Head.{Head}
use Rattle.formula.specs.declared.parser.Reach.{Reach}
use Rattle.formula.proofs.Tokens.{blames_later}

-- a fault after tokens that lead from one state to another
pub blames_from : (q r : State) (us vs ts : List Token) (end : ℕ) (f : TextFault) → ts ≡ us ++ vs → takes q us ≡ r → Blames r vs end f → Blames q ts end f
blames_from q r us vs ts end (Misplaced p) e t b = subst (λ l. Halts q l end p) (sym e) (halts_later q r us vs end p t b)
blames_from q r us vs ts end (Stray p) e t b = b

-- in the body of an abstraction
pub blames_body : (text : List ℕ) (from : ℕ) (h : Head) (f : TextFault) → HeadRead text from h → BlamesExpression text h.end f → BlamesExpression text from f
blames_body text from h f head b ts r k =
    let a = head.reads ts r in
    let w = h.name.now in
    blames_from (start k) (start (body w a.1 k)) (token lambda a.0 ∷ (token (name w) a.1 ∷ (token dot a.2 ∷ []))) a.3 ts (length text) f a.4 refl (b a.3 a.5 (body w a.1 k))

-- in a later atom of an application
pub blames_more : (text : List ℕ) (es : List Entry) (filed : ℕ) (scope : List Name) (out out' : List TermNode) (from : ℕ) (r : Reach) (f : TextFault) → ((ts : List Token) → Rest text from ts → Made application text es filed scope out out' r ts) → ((ts : List Token) → Rest text r.end ts → GoesOn ts) → BlamesNext text r.end f → BlamesApplication text from f
blames_more text es filed scope out out' from r f made goes b ts rest nl k =
    let m = made ts rest in
    blames_from (start k) (after m.tree k) m.front m.rest ts (length text) f m.split (walks m.is k) (b m.rest m.remains (goes m.rest m.remains) m.tree k)

-- inside brackets
pub blames_inside : (text : List ℕ) (from mid : ℕ) (f : TextFault) → Reads text from opening mid → BlamesExpression text mid f → BlamesApplication text from f × BlamesNext text from f
blames_inside text from mid f o b = (
  λ ts r nl k. blames_later text from opening mid o (start k) f (λ a. refl) ts r (λ a us s. b us s (first k)),
  λ ts r go g k. blames_later text from opening mid o (after g k) f (λ a. refl) ts r (λ a us s. b us s (next g k)),
)

-- brackets that nothing closes
pub blames_open : (text : List ℕ) (es : List Entry) (filed : ℕ) (scope : List Name) (out out' : List TermNode) (from mid : ℕ) (r : Reach) (f : TextFault) → Reads text from opening mid → ((ts : List Token) → Rest text mid ts → Made expression text es filed scope out out' r ts) → ((ts : List Token) → Rest text r.end ts → (ts ≡ []) × (f ≡ Misplaced (length text))) → BlamesApplication text from f × BlamesNext text from f
blames_open text es filed scope out out' from mid r f o made closed =
    blames_inside_frames
  where
    stops : (k : Frames) → ((t : Tree) → finish t k ≡ none) → (us : List Token) → Rest text mid us → Blames (start k) us (length text) f
    stops k never us s =
        let m = made us s in
        let c = closed m.rest m.remains in
        let w = walks m.is k in
        blames_from (start k) (after w.0 w.1) m.front m.rest us (length text) f m.split w.2
        (subst (λ l. Blames (after w.0 w.1) l (length text) f) (sym c.0) (subst (Blames (after w.0 w.1) [] (length text)) (sym c.1) (halts_end (after w.0 w.1) (length text) tt (w.4 ∙ never m.tree))))

    blames_inside_frames : BlamesApplication text from f × BlamesNext text from f
    blames_inside_frames = (
      λ ts r nl k. blames_later text from opening mid o (start k) f (λ a. refl) ts r (λ a us s. stops (first k) (λ t. refl) us s),
      λ ts r go g k. blames_later text from opening mid o (after g k) f (λ a. refl) ts r (λ a us s. stops (next g k) (λ t. refl) us s),
    )
