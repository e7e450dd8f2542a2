-- The steps of a term's nodes are its typings.
use Rattle.std.proofs.Common.{◌≡◌, ℕ, zero, suc, ◌+◌, ◌<◌, ◌≤◌, ◌≢◌, List, [], ◌∷◌, ◌++◌, map, length, get_or, Some, sym, refl, ap, ◌∙◌, subst, ⊎_elim, arith, length-append}
use Rattle.std.specs.List.{slice_get}
use Rattle.std.proofs.lemmas.List.{append-nil}
use Rattle.std.proofs.lemmas.Bool.{cases_eq, cases_lt}
use Rattle.types.specs.Types.{Ty, base, arrow}
use Rattle.term.specs.Terms.{Term, variable, abstraction, application, primitive, reference, prefix, zero_node}
use Rattle.term.specs.Symbols.{symbol_of}
use Rattle.term.specs.declared.TermNode.{TermNode}
use Rattle.copy.specs.Instances.{Lists}
use Rattle.infer.specs.Typing.{Typing}
use Rattle.instance.proofs.Places.{left_of}
use Rattle.derivation_check.specs.Prefixes.{is_abstraction, end}
use Rattle.derivation_check.specs.Steps.{StepOf, Step, StepsAreTypings}
use Rattle.derivation_check.proofs.Standing.{some_nodes, At, Scope, here, at_inside, end_term, scope_more, parts_of}

-- the types of the binders at bs: those from which their abstractions have arrows
abbrev context : (ℕ → Ty) → List ℕ → List Ty
context T bs = map (λ (b : ℕ). left_of (T b)) bs

context_at : (T : ℕ → Ty) (bs : List ℕ) (n b : ℕ) → slice_get bs n ≡ Some b → (n < length (context T bs)) × (get_or (context T bs) n (base 0) ≡ left_of (T b))
context_at T [] n b e = cc
context_at T (c ∷ bs) zero b e = (omega arith, ap (λ (x : ℕ). left_of (T x)) (let q : c ≡ b = cc in q))
context_at T (c ∷ bs) (suc n) b e =
    let w = context_at T bs n b e in
    (omega (arith, w.0), w.1)

-- the abstractions at bs have arrows from the types of Γ
abbrev Arrows : (ℕ → Ty) → List Ty → List ℕ → Type 0
Arrows T Γ bs = (n : ℕ) → n < length Γ → (b : ℕ) × (slice_get bs n ≡ Some b) × ((β : Ty) × (T b ≡ arrow (get_or Γ n (base 0)) β))

arrows_more : (T : ℕ → Ty) (Γ : List Ty) (bs : List ℕ) (i : ℕ) (α β : Ty) → T i ≡ arrow α β → Arrows T Γ bs → Arrows T (α ∷ Γ) (i ∷ bs)
arrows_more T Γ bs i α β e f zero h = (i, refl, (β, e))
arrows_more T Γ bs i α β e f (suc n) h = f n (omega (arith, h))

module _ (E K : Lists) (ts : List TermNode) (T : ℕ → Ty) where
  step_of : (i : ℕ) (x : TermNode) → get_or ts i zero_node ≡ x → Step E K ts T i → StepOf (symbol_of x) E K ts T i
  step_of i x e s = subst (λ (y : TermNode). StepOf (symbol_of y) E K ts T i) e s

  step_from : (i : ℕ) (x : TermNode) → get_or ts i zero_node ≡ x → StepOf (symbol_of x) E K ts T i → Step E K ts T i
  step_from i x e s = subst (λ (y : TermNode). StepOf (symbol_of y) E K ts T i) (sym e) s

  -- the nodes from i up to j have their steps
  abbrev Between : ℕ → ℕ → Type 0
  Between i j = (k : ℕ) → i ≤ k → k < j → Step E K ts T k

  typing_from : (u : Term) (i : ℕ) (rest : List TermNode) (bs : List ℕ) → At ts u i rest → Scope ts i bs → Between i (i + length (prefix u)) → Typing E K (context T bs) u T i
  typing_from (variable n) i rest bs at sc all =
      let s = step_of i _ (here ts i _ _ at).is (all i (omega arith) (omega arith)) in
      let w = context_at T bs n s.abstraction (sym (sc n) ∙ s.binds) in
      (w.0, w.1 ∙ ap left_of s.typed)
  typing_from (primitive k) i rest bs at sc all = step_of i _ (here ts i _ _ at).is (all i (omega arith) (omega arith))
  typing_from (reference n) i rest bs at sc all = step_of i _ (here ts i _ _ at).is (all i (omega arith) (omega arith))
  typing_from (abstraction u) i rest bs at sc all =
      let h = here ts i _ _ at in
      let s = step_of i _ h.is (all i (omega arith) (omega arith)) in
      let l : i + 1 < end ts i = omega (arith, end_term ts (abstraction u) i rest at, some_nodes u) in
      let r = typing_from u (i + 1) rest (i ∷ bs) h.behind (scope_more ts i bs l (ap (λ (x : TermNode). is_abstraction (symbol_of x)) h.is) sc) (λ k a b. all k (omega arith) (omega arith)) in
      (s.from, s.typed, subst (λ (a : Ty). Typing E K (a ∷ context T bs) u T (i + 1)) (ap left_of s.typed) r)
  typing_from (application f x) i rest bs at sc all =
      let s = step_of i _ (here ts i _ _ at).is (all i (omega arith) (omega arith)) in
      let long = length-append (prefix f) (prefix x) in
      let p = parts_of ts f x i rest bs at sc in (
        s.typed ∙ ap (λ (k : ℕ). arrow (T k) (T i)) (sym p.between),
        typing_from f (i + 1) (prefix x ++ rest) bs p.function p.function_scope (λ k a b. all k (omega arith) (omega (arith, long))),
        typing_from x (i + 1 + length (prefix f)) rest bs p.argument p.argument_scope (λ k a b. all k (omega arith) (omega (arith, long))),
      )

  -- a node without parts
  leaf_step : (i : ℕ) → Step E K ts T i → Between i (i + 1)
  leaf_step i s k a b =
      let q : i ≡ k = omega arith in
      subst (Step E K ts T) q s

  steps_from : (u : Term) (Γ : List Ty) (i : ℕ) (rest : List TermNode) (bs : List ℕ) → At ts u i rest → Scope ts i bs → Arrows T Γ bs → Typing E K Γ u T i → Between i (i + length (prefix u))
  steps_from (variable n) Γ i rest bs at sc f d k a b =
      let w = f n d.0 in
      leaf_step i (step_from i _ (here ts i _ _ at).is (record { abstraction = w.0; binds = sc n ∙ w.1; to = w.2.0; typed = w.2.1 ∙ ap (λ (x : Ty). arrow x w.2.0) d.1 })) k a b
  steps_from (primitive n) Γ i rest bs at sc f d k a b = leaf_step i (step_from i _ (here ts i _ _ at).is d) k a b
  steps_from (reference n) Γ i rest bs at sc f d k a b = leaf_step i (step_from i _ (here ts i _ _ at).is d) k a b
  steps_from (abstraction u) Γ i rest bs at sc f d k a b =
      let h = here ts i _ _ at in
      let l : i + 1 < end ts i = omega (arith, end_term ts (abstraction u) i rest at, some_nodes u) in
      ⊎_elim
      (λ (q : k ≡ i). subst (Step E K ts T) (sym q) (step_from i _ h.is (record { inside = at_inside ts u (i + 1) rest h.behind; from = d.0; typed = d.1 })))
      (λ (q : k ≢ i). steps_from u (d.0 ∷ Γ) (i + 1) rest (i ∷ bs) h.behind (scope_more ts i bs l (ap (λ (x : TermNode). is_abstraction (symbol_of x)) h.is) sc) (arrows_more T Γ bs i d.0 (T (i + 1)) d.1 f) d.2 k (omega arith) (omega arith))
      (cases_eq k i)
  steps_from (application g x) Γ i rest bs at sc f d k a b =
      let p = parts_of ts g x i rest bs at sc in
      let j = i + 1 + length (prefix g) in
      let long = length-append (prefix g) (prefix x) in
      ⊎_elim
      (λ (q : k ≡ i).
      subst (Step E K ts T) (sym q)
      (step_from i _ (here ts i _ _ at).is (record { inside = omega (arith, p.between, at_inside ts x j rest p.argument); typed = d.0 ∙ ap (λ (m : ℕ). arrow (T m) (T i)) p.between })))
      (λ (q : k ≢ i).
      ⊎_elim
      (λ (l : k < j). steps_from g Γ (i + 1) (prefix x ++ rest) bs p.function p.function_scope f d.1 k (omega arith) (omega arith))
      (λ (l : j ≤ k). steps_from x Γ j rest bs p.argument p.argument_scope f d.2 k l (omega (arith, long)))
      (cases_lt k j))
      (cases_eq k i)

pub steps_are_typings : StepsAreTypings
steps_are_typings E K t T =
    let at : At (prefix t) t 0 [] = sym (append-nil (prefix t)) in (
      λ all. typing_from E K (prefix t) T t 0 [] [] at (λ n. refl) (λ k a b. all k (omega arith)),
      λ d i h. steps_from E K (prefix t) T t [] 0 [] [] at (λ n. refl) (λ n l. absurd (omega arith)) d i (omega arith) (omega arith),
    )
