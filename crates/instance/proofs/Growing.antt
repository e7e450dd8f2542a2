-- A list of records grows by one, and its places keep their types.
use Rattle.std.proofs.Common.{◌≡◌, ℕ, zero, suc, ◌+◌, ◌<◌, ◌≤◌, ◌⊎◌, List, [], ◌∷◌, ◌++◌, length, get_or, sym, refl, ap, ◌∙◌, subst, inl, inr, arith}
use Rattle.std.proofs.lemmas.List.{get_or_append_left, get_or_push, length_push}
use Rattle.std.proofs.lemmas.Bool.{cases_eq}
use Rattle.types.specs.declared.TypeNode.{TypeNode}
use Rattle.types.specs.Lists.{zero_node, LawfulNode, shape, reading, type_at}
use Rattle.instance.specs.Once.{Absent, Once}
use Rattle.types.proofs.Reading.{shape_same, lower_at}

abbrev pub LawfulNodes : List TypeNode → Type 0
LawfulNodes m = (p : ℕ) → p < length m → LawfulNode p (get_or m p zero_node)

pub record Grows (m m' : List TypeNode) : Type 0 where
  pub each : LawfulNodes m'
  pub once : Once m'
  pub longer : length m ≤ length m'
  pub few : length m' ≤ length m + 1
  pub same : (p : ℕ) → p < length m → type_at m' p ≡ type_at m p

module _ (m : List TypeNode) (each : LawfulNodes m) (once : Once m) where
  grows_none : Grows m m
  grows_none = record { each = each; once = once; longer = omega arith; few = omega arith; same = λ p h. refl }

  module _ (n : TypeNode) where
    abbrev more : List TypeNode
    more = m ++ (n ∷ [])

    -- what stands at each place
    old_at : (p : ℕ) → p < length m → get_or more p zero_node ≡ get_or m p zero_node
    old_at p h = get_or_append_left m (n ∷ []) zero_node p h

    new_at : get_or more (length m) zero_node ≡ n
    new_at = get_or_push m n zero_node (length m) refl

    same_reading : (d p : ℕ) → p < length m → reading d more p ≡ reading d m p
    same_reading zero p h = refl
    same_reading (suc d) p h =
        ap (λ (x : TypeNode). shape x.kind x.left (reading d more x.left) (reading d more x.right)) (old_at p h)
        ∙ shape_same (get_or m p zero_node).kind (get_or m p zero_node).left _ _ _ _
        (λ two.
        (let w = lower_at m each p h two in
        (same_reading d (get_or m p zero_node).left (omega (arith, w.0)), same_reading d (get_or m p zero_node).right (omega (arith, w.1)))))

    module _ (lawful : LawfulNode (length m) n) (absent : Absent m n) where
      more_each : LawfulNodes more
      more_each p h =
          elim (cases_eq p (length m)) [
            | inl last ↦ subst (λ (i : ℕ). LawfulNode i (get_or more i zero_node)) (sym last) (subst (LawfulNode (length m)) (sym new_at) lawful)
            | inr other ↦
                (let below : p < length m = omega (arith, length_push m n) in
                subst (LawfulNode p) (sym (old_at p below)) (each p below))
          ]

      -- the new record is at no lower place
      last_only : (p q : ℕ) → p < length m → q ≡ length m → get_or more p zero_node ≡ get_or more q zero_node → ⊥
      last_only p q h last e = absent p h (sym (old_at p h) ∙ e ∙ ap (λ (i : ℕ). get_or more i zero_node) last ∙ new_at)

      more_once : Once more
      more_once p q hp hq e =
          let size = length_push m n in
          elim (cases_eq p (length m)) [
            | inl p-last ↦
                (elim (cases_eq q (length m)) [
                  | inl q-last ↦ p-last ∙ sym q-last
                  | inr q-below ↦ absurd (last_only q p (omega arith) p-last (sym e))
                ])
            | inr p-below ↦
                (elim (cases_eq q (length m)) [
                  | inl q-last ↦ absurd (last_only p q (omega arith) q-last e)
                  | inr q-below ↦
                      (let h : p < length m = omega arith in
                      let i : q < length m = omega arith in
                      once p q h i (sym (old_at p h) ∙ e ∙ old_at q i))
                ])
          ]

      grows_one : Grows m more
      grows_one = record { each = more_each; once = more_once; longer = omega (arith, length_push m n); few = omega (arith, length_push m n); same = λ p h. same_reading (suc p) p h }

    pub grows : (m' : List TypeNode) → LawfulNode (length m) n → (m' ≡ m) ⊎ ((m' ≡ more) × Absent m n) → Grows m m'
    grows m' lawful (inl e) = subst (Grows m) (sym e) grows_none
    grows m' lawful (inr w) = subst (Grows m) (sym w.0) (grows_one lawful w.1)
