-- Where the machine halts is the first token that cannot follow.
use mathlib.Core.Path.{◌≡◌, refl, sym, ap, subst, ◌∙◌}
use mathlib.Core.List.{List, [], ◌∷◌, ◌++◌, append-nil, append_assoc}
use Prim.Native.Nat.{ℕ}
use native.Mathlib.Omega.{arith}
use Rattle.text.specs.Tokens.{Sign, Token, token, lambda, dot, opening, closing, name, reference}
use Rattle.grammar.specs.Grammar.{Tree, named, abstracted, applied, expression, application, Is, of_lambda, of_application, of_atom, of_atoms, of_name, of_reference, of_brackets, CanContinue, FirstBad}
use Rattle.grammar.specs.Machine.{Frames, top, body, first, next, State, start, binder, before_dot, after, dead, close, step, takes, Done, none, done, result, Live, Halts}
use Rattle.grammar.proofs.Walks.{takes-++, takes_dead, accepts}

-- what stands to the left of the place, by the frames
abbrev Fit : Frames → List Token → Type 0
Fit top pre = pre ≡ []
Fit (body w o k) pre = (us : List Token) × (Fit k us) × (a : ℕ) × (c : ℕ) × (pre ≡ us ++ (token lambda a ∷ (token (name w) o ∷ (token dot c ∷ []))))
Fit (first k) pre = (us : List Token) × (Fit k us) × (a : ℕ) × (pre ≡ us ++ (token opening a ∷ []))
Fit (next g k) pre = (us : List Token) × (vs : List Token) × (Fit k us) × (Is application vs g) × (a : ℕ) × (pre ≡ us ++ (vs ++ (token opening a ∷ [])))

-- what the tokens read so far are, by the state
abbrev Means : State → List Token → Type 0
Means (start k) pre = Fit k pre
Means (binder k) pre = (us : List Token) × (Fit k us) × (a : ℕ) × (pre ≡ us ++ (token lambda a ∷ []))
Means (before_dot w o k) pre = (us : List Token) × (Fit k us) × (a : ℕ) × (pre ≡ us ++ (token lambda a ∷ (token (name w) o ∷ [])))
Means (after f k) pre = (us : List Token) × (vs : List Token) × (Fit k us) × (Is application vs f) × (pre ≡ us ++ vs)
Means dead pre = Unit {0}

-- one more token at the end
snoc : (pre us vs : List Token) (x : Token) → pre ≡ us ++ vs → pre ++ (x ∷ []) ≡ us ++ (vs ++ (x ∷ []))
snoc pre us vs x e = ap (λ l. l ++ (x ∷ [])) e ∙ append_assoc us vs (x ∷ [])

-- an abstraction's head before a body
under : (us pre vs : List Token) (w : List ℕ) (a o c : ℕ) → pre ≡ us ++ (token lambda a ∷ (token (name w) o ∷ (token dot c ∷ []))) → us ++ (token lambda a ∷ (token (name w) o ∷ (token dot c ∷ vs))) ≡ pre ++ vs
under us pre vs w a o c e = sym (ap (λ l. l ++ vs) e ∙ append_assoc us (token lambda a ∷ (token (name w) o ∷ (token dot c ∷ []))) vs)

shut : (k : Frames) (f : Tree) (us vs : List Token) (b : ℕ) → Fit k us → Is expression vs f → Means (close f k) ((us ++ vs) ++ (token closing b ∷ []))
shut top f us vs b m e = tt
shut (body w o k) f us vs b m e =
    subst (λ l. Means (close (abstracted w o f) k) (l ++ (token closing b ∷ []))) (under m.0 us vs w m.2 o m.3 m.4)
    (shut k (abstracted w o f) m.0 (token lambda m.2 ∷ (token (name w) o ∷ (token dot m.3 ∷ vs))) b m.1 (of_lambda w m.2 o m.3 e))
shut (first k) f us vs b m e =
    (m.0, token opening m.2 ∷ (vs ++ (token closing b ∷ [])), m.1, of_atom (of_brackets m.2 b e), ap (λ l. (l ++ vs) ++ (token closing b ∷ [])) m.3 ∙ simp append_assoc)
shut (next g k) f us vs b m e =
    (m.0, m.1 ++ (token opening m.4 ∷ (vs ++ (token closing b ∷ []))), m.2, of_atoms m.3 (of_brackets m.4 b e), ap (λ l. (l ++ vs) ++ (token closing b ∷ [])) m.5 ∙ simp append_assoc)

means_step : (q : State) (x : Sign) (o : ℕ) (pre : List Token) → Means q pre → Means (step q x o) (pre ++ (token x o ∷ []))
means_step (start k) lambda o pre m = (pre, m, o, refl)
means_step (start k) dot o pre m = tt
means_step (start k) opening o pre m = (pre, m, o, refl)
means_step (start k) closing o pre m = tt
means_step (start k) (name w) o pre m = (pre, token (name w) o ∷ [], m, of_atom (of_name w o), refl)
means_step (start k) (reference n) o pre m = (pre, token (reference n) o ∷ [], m, of_atom (of_reference n o), refl)
means_step (binder k) lambda o pre m = tt
means_step (binder k) dot o pre m = tt
means_step (binder k) opening o pre m = tt
means_step (binder k) closing o pre m = tt
means_step (binder k) (name w) o pre m = (m.0, m.1, m.2, snoc pre m.0 (token lambda m.2 ∷ []) (token (name w) o) m.3)
means_step (binder k) (reference n) o pre m = tt
means_step (before_dot v p k) lambda o pre m = tt
means_step (before_dot v p k) dot o pre m = (m.0, m.1, m.2, o, snoc pre m.0 (token lambda m.2 ∷ (token (name v) p ∷ [])) (token dot o) m.3)
means_step (before_dot v p k) opening o pre m = tt
means_step (before_dot v p k) closing o pre m = tt
means_step (before_dot v p k) (name w) o pre m = tt
means_step (before_dot v p k) (reference n) o pre m = tt
means_step (after f k) lambda o pre m = tt
means_step (after f k) dot o pre m = tt
means_step (after f k) opening o pre m = (m.0, m.1, m.2, m.3, o, snoc pre m.0 m.1 (token opening o) m.4)
means_step (after f k) closing o pre m =
    subst (λ l. Means (close f k) (l ++ (token closing o ∷ []))) (sym m.4) (shut k f m.0 m.1 o m.2 (of_application m.3))
means_step (after f k) (name w) o pre m =
    (m.0, m.1 ++ (token (name w) o ∷ []), m.2, of_atoms m.3 (of_name w o), snoc pre m.0 m.1 (token (name w) o) m.4)
means_step (after f k) (reference n) o pre m =
    (m.0, m.1 ++ (token (reference n) o ∷ []), m.2, of_atoms m.3 (of_reference n o), snoc pre m.0 m.1 (token (reference n) o) m.4)
means_step dead x o pre m = tt

means_takes : (q : State) (xs pre : List Token) → Means q pre → Means (takes q xs) (pre ++ xs)
means_takes q [] pre m = subst (λ l. Means q l) (sym (append-nil pre)) m
means_takes q (x ∷ xs) pre m =
    subst (λ l. Means (takes (step q x.sign x.at) xs) l) (append_assoc pre (x ∷ []) xs)
    (means_takes (step q x.sign x.at) xs (pre ++ (x ∷ [])) (means_step q x.sign x.at pre m))

-- an expression inside the frames can be gone on from
goes_on : (k : Frames) (f : Tree) (us vs : List Token) → Fit k us → Is expression vs f → CanContinue (us ++ vs)
goes_on top f us vs m e = ([], (f, subst (λ l. Is expression l f) (sym (ap (λ l. (l ++ vs) ++ []) m ∙ append-nil vs)) e))
goes_on (body w o k) f us vs m e =
    subst CanContinue (under m.0 us vs w m.2 o m.3 m.4)
    (goes_on k (abstracted w o f) m.0 (token lambda m.2 ∷ (token (name w) o ∷ (token dot m.3 ∷ vs))) m.1 (of_lambda w m.2 o m.3 e))
goes_on (first k) f us vs m e =
    let c = goes_on k f m.0 (token opening m.2 ∷ (vs ++ (token closing 0 ∷ []))) m.1 (of_application (of_atom (of_brackets m.2 0 e))) in
    (token closing 0 ∷ c.0, (c.1.0, subst (λ l. Is expression l c.1.0) (sym (ap (λ l. (l ++ vs) ++ (token closing 0 ∷ c.0)) m.3 ∙ simp append_assoc)) c.1.1))
goes_on (next g k) f us vs m e =
    let c = goes_on k (applied g f) m.0 (m.1 ++ (token opening m.4 ∷ (vs ++ (token closing 0 ∷ [])))) m.2 (of_application (of_atoms m.3 (of_brackets m.4 0 e))) in
    (token closing 0 ∷ c.0, (c.1.0, subst (λ l. Is expression l c.1.0) (sym (ap (λ l. (l ++ vs) ++ (token closing 0 ∷ c.0)) m.5 ∙ simp append_assoc)) c.1.1))

-- what can be gone on from after more tokens can be gone on from
pub back : (ts us : List Token) → CanContinue (ts ++ us) → CanContinue ts
back ts us c = (us ++ c.0, (c.1.0, subst (λ l. Is expression l c.1.0) (append_assoc ts us c.0) c.1.1))

-- a name, x, and a binder's dot before it
an_x : Token
an_x = token (name (120 ∷ [])) 0

x_is : Is expression (an_x ∷ []) (named (120 ∷ []) 0)
unfolding an_x
x_is = of_application (of_atom (of_name (120 ∷ []) 0))

live_on : (q : State) (pre : List Token) → Live q → Means q pre → CanContinue pre
unfolding an_x
live_on (start k) pre l m = back pre (an_x ∷ []) (goes_on k _ pre (an_x ∷ []) m x_is)
live_on (binder k) pre l m =
    back pre (an_x ∷ (token dot 0 ∷ (an_x ∷ [])))
    (subst CanContinue (sym (ap (λ l. l ++ (an_x ∷ (token dot 0 ∷ (an_x ∷ [])))) m.3 ∙ append_assoc m.0 (token lambda m.2 ∷ []) (an_x ∷ (token dot 0 ∷ (an_x ∷ [])))))
    (goes_on k _ m.0 (token lambda m.2 ∷ (an_x ∷ (token dot 0 ∷ (an_x ∷ [])))) m.1 (of_lambda (120 ∷ []) m.2 0 0 x_is)))
live_on (before_dot w o k) pre l m =
    back pre (token dot 0 ∷ (an_x ∷ []))
    (subst CanContinue (sym (ap (λ l. l ++ (token dot 0 ∷ (an_x ∷ []))) m.3 ∙ append_assoc m.0 (token lambda m.2 ∷ (token (name w) o ∷ [])) (token dot 0 ∷ (an_x ∷ []))))
    (goes_on k _ m.0 (token lambda m.2 ∷ (token (name w) o ∷ (token dot 0 ∷ (an_x ∷ [])))) m.1 (of_lambda w m.2 o 0 x_is)))
live_on (after f k) pre l m = subst CanContinue (sym m.4) (goes_on k f m.0 m.1 m.2 (of_application m.3))
live_on dead pre l m = absurd l

done_none : (d : Done) (t : Tree) → d ≡ done t → d ≡ none → ⊥
done_none d t p q = let z : ◌≡◌ {A = ℕ} 0 1 = cc in omega arith

pub first_bad : (ts : List Token) (end p : ℕ) → Halts (start top) ts end p → FirstBad ts end p
first_bad ts end p h =
    record {
      before = h.before;
      rest = h.rest;
      split = h.split;
      stands = h.stands;
      continues = live_on (takes (start top) h.before) h.before h.live (means_takes (start top) h.before [] refl);
      stuck = λ x us e c.
          done_none (result (takes (start top) ((h.before ++ (x ∷ [])) ++ c.0))) c.1.0 (accepts _ c.1.0 c.1.1)
          (ap result (takes-++ (start top) (h.before ++ (x ∷ [])) c.0 ∙ ap (λ q. takes q c.0) (takes-++ (start top) h.before (x ∷ []) ∙ h.stuck x us e) ∙ takes_dead c.0));
      short = λ e x.
          done_none (result (takes (start top) ts)) x.0 (accepts ts x.0 x.1)
          (ap (λ l. result (takes (start top) l)) (h.split ∙ ap (λ l. h.before ++ l) e ∙ append-nil h.before) ∙ h.short e);
    }

-- the machine goes on from the state that it has come to
pub halts_later : (q r : State) (us ts : List Token) (end p : ℕ) → takes q us ≡ r → Halts r ts end p → Halts q (us ++ ts) end p
halts_later q r us ts end p e h =
    let there : takes q (us ++ h.before) ≡ takes r h.before = takes-++ q us h.before ∙ ap (λ s. takes s h.before) e in
    record {
      before = us ++ h.before;
      rest = h.rest;
      split = ap (λ l. us ++ l) h.split ∙ sym (append_assoc us h.before h.rest);
      stands = h.stands;
      live = subst Live (sym there) h.live;
      stuck = λ x vs f. ap (λ s. step s x.sign x.at) there ∙ h.stuck x vs f;
      short = λ f. ap result there ∙ h.short f;
    }

-- it halts at once at a token that cannot follow, and at the end where something is left open
pub halts_here : (q : State) (x : Token) (ts : List Token) (end : ℕ) → Live q → step q x.sign x.at ≡ dead → Halts q (x ∷ ts) end x.at
halts_here q x ts end l d =
    record {
      before = [];
      rest = x ∷ ts;
      split = refl;
      stands = refl;
      live = l;
      stuck = λ y us e. let z : y ≡ x = cc in ap (λ (y : Token). step q y.sign y.at) z ∙ d;
      short = λ e. let z : ◌≡◌ {A = ℕ} 0 1 = cc in absurd (omega arith);
    }

pub halts_end : (q : State) (end : ℕ) → Live q → result q ≡ none → Halts q [] end end
halts_end q end l d =
    record {
      before = [];
      rest = [];
      split = refl;
      stands = refl;
      live = l;
      stuck = λ y us e. let z : ◌≡◌ {A = ℕ} 0 1 = cc in absurd (omega arith);
      short = λ e. d;
    }
