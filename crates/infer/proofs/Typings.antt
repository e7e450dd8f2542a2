-- Typings look only at a term's own nodes; types of terms are those that typings give the root.
use Rattle.std.proofs.Common.{◌≡◌, ℕ, ◌+◌, ◌<◌, ◌≤◌, cond, eqb, ltb, List, ◌∷◌, sym, refl, ap, ◌∙◌, subst, ap₂, arith}
use Rattle.std.proofs.lemmas.List.{length-append}
use Rattle.std.proofs.lemmas.Bool.{cond-true, cond-false, eq-eqb, ne_eqb, lt-ltb, le-ltb}
use Rattle.types.specs.Types.{Ty, arrow}
use Rattle.term.specs.Terms.{Term, variable, abstraction, application, primitive, reference, prefix}
use Rattle.copy.specs.Instances.{Lists, OfList}
use Rattle.infer.specs.Typing.{size, Typing, HasType}

pub size_application : (f a : Term) → size (application f a) ≡ 1 + size f + size a
size_application f a = omega (arith, length-append (prefix f) (prefix a))

pub some_node : (t : Term) → 1 ≤ size t
some_node (variable n) = omega arith
some_node (abstraction b) = omega arith
some_node (application f a) = omega arith
some_node (primitive k) = omega arith
some_node (reference n) = omega arith

-- T and S are the same from i up to j
abbrev pub Same : (ℕ → Ty) → (ℕ → Ty) → ℕ → ℕ → Type 0
Same T S i j = (p : ℕ) → i ≤ p → p < j → T p ≡ S p

module _ (E K : Lists) where
  pub typing_same : (t : Term) (Γ : List Ty) (T S : ℕ → Ty) (i : ℕ) → Same T S i (i + size t) → Typing E K Γ t T i → Typing E K Γ t S i
  typing_same (variable n) Γ T S i e d = (d.0, d.1 ∙ e i (omega arith) (omega arith))
  typing_same (abstraction b) Γ T S i e d =
      let n = some_node b in (
        d.0,
        sym (e i (omega arith) (omega arith)) ∙ d.1 ∙ ap (arrow d.0) (e (i + 1) (omega arith) (omega arith)),
        typing_same b (d.0 ∷ Γ) T S (i + 1) (λ p h k. e p (omega arith) (omega arith)) d.2,
      )
  typing_same (application f a) Γ T S i e d =
      let n = some_node f in
      let m = some_node a in
      let z = size_application f a in
      let ei : T i ≡ S i = e i (omega arith) (omega arith) in
      let ef : T (i + 1) ≡ S (i + 1) = e (i + 1) (omega arith) (omega arith) in
      let ea : T (i + 1 + size f) ≡ S (i + 1 + size f) = e (i + 1 + size f) (omega arith) (omega arith) in (
        sym ef ∙ d.0 ∙ ap₂ arrow ea ei,
        typing_same f Γ T S (i + 1) (λ p h k. e p (omega arith) (omega arith)) d.1,
        typing_same a Γ T S (i + 1 + size f) (λ p h k. e p (omega arith) (omega arith)) d.2,
      )
  typing_same (primitive k) Γ T S i e d = subst (OfList (E k)) (e i (omega arith) (omega arith)) d
  typing_same (reference n) Γ T S i e d = subst (OfList (K n)) (e i (omega arith) (omega arith)) d

  -- a typing gives the root a type of the term
  pub typing_gives : (t : Term) (Γ : List Ty) (T : ℕ → Ty) (i : ℕ) → Typing E K Γ t T i → HasType E K Γ t (T i)
  typing_gives (variable n) Γ T i d = d
  typing_gives (abstraction b) Γ T i d = (d.0, T (i + 1), d.1, typing_gives b (d.0 ∷ Γ) T (i + 1) d.2)
  typing_gives (application f a) Γ T i d =
      (T (i + 1 + size f), subst (HasType E K Γ f) d.0 (typing_gives f Γ T (i + 1) d.1), typing_gives a Γ T (i + 1 + size f) d.2)
  typing_gives (primitive k) Γ T i d = d
  typing_gives (reference n) Γ T i d = d

  -- τ at place i, and S elsewhere
  put : ℕ → Ty → (ℕ → Ty) → ℕ → Ty
  put i τ S p = cond (eqb p i) τ (S p)

  put_here : (i : ℕ) (τ : Ty) (S : ℕ → Ty) → put i τ S i ≡ τ
  unfolding put
  put_here i τ S = cond-true (eqb i i) τ (S i) (eq-eqb i i refl)

  put_above : (i j k : ℕ) (τ : Ty) (S : ℕ → Ty) → i < j → Same S (put i τ S) j k
  unfolding put
  put_above i j k τ S h p l m = sym (cond-false (eqb p i) τ (S p) (ne_eqb p i (omega arith)))

  -- S below the place m, and R from there on
  join : ℕ → (ℕ → Ty) → (ℕ → Ty) → ℕ → Ty
  join m S R p = cond (ltb p m) (S p) (R p)

  join_below : (m i : ℕ) (S R : ℕ → Ty) → Same S (join m S R) i m
  unfolding join
  join_below m i S R p l h = sym (cond-true (ltb p m) (S p) (R p) (lt-ltb p m h))

  join_above : (m j : ℕ) (S R : ℕ → Ty) → Same R (join m S R) m j
  unfolding join
  join_above m j S R p l h = sym (cond-false (ltb p m) (S p) (R p) (le-ltb p m l))

  -- a type of the term comes from a typing
  pub type_typing : (t : Term) (Γ : List Ty) (τ : Ty) (i : ℕ) → HasType E K Γ t τ → (T : ℕ → Ty) × Typing E K Γ t T i × (T i ≡ τ)
  type_typing (variable n) Γ τ i d = ((λ p. τ), d, refl)
  type_typing (abstraction b) Γ τ i d =
      let n = some_node b in
      let s = type_typing b (d.0 ∷ Γ) d.1 (i + 1) d.3 in
      let T : ℕ → Ty = put i τ s.0 in
      let e : Same s.0 T (i + 1) (i + 1 + size b) = put_above i (i + 1) (i + 1 + size b) τ s.0 (omega arith) in (
        T,
        (d.0, put_here i τ s.0 ∙ d.2 ∙ ap (arrow d.0) (sym s.2 ∙ e (i + 1) (omega arith) (omega arith)), typing_same b (d.0 ∷ Γ) s.0 T (i + 1) e s.1),
        put_here i τ s.0,
      )
  type_typing (application f a) Γ τ i d =
      let m : ℕ = i + 1 + size f in
      let nf = some_node f in
      let na = some_node a in
      let s = type_typing f Γ (arrow d.0 τ) (i + 1) d.1 in
      let r = type_typing a Γ d.0 m d.2 in
      let J : ℕ → Ty = join m s.0 r.0 in
      let T : ℕ → Ty = put i τ J in
      let ef : Same s.0 T (i + 1) m = (λ p h k. join_below m (i + 1) s.0 r.0 p h k ∙ put_above i (i + 1) m τ J (omega arith) p h k) in
      let ea : Same r.0 T m (m + size a) = (λ p h k. join_above m (m + size a) s.0 r.0 p h k ∙ put_above i m (m + size a) τ J (omega arith) p h k) in (
        T,
        (
          sym (ef (i + 1) (omega arith) (omega arith)) ∙ s.2 ∙ ap₂ arrow (sym r.2 ∙ ea m (omega arith) (omega arith)) (sym (put_here i τ J)),
          typing_same f Γ s.0 T (i + 1) ef s.1,
          typing_same a Γ r.0 T m ea r.1,
        ),
        put_here i τ J,
      )
  type_typing (primitive k) Γ τ i d = ((λ p. τ), d, refl)
  type_typing (reference n) Γ τ i d = ((λ p. τ), d, refl)
