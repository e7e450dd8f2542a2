-- What stands at a place of a list of lawful nodes, by the kind of the node there.
use Rattle.std.proofs.Common.{◌≡◌, ℕ, zero, suc, ◌<◌, ◌≤◌, List, length, get_or, refl, ◌∙◌, ap₂, arith}
use Rattle.types.specs.declared.TypeNode.{TypeNode}
use Rattle.types.specs.Types.{Ty, variable, base, branch}
use Rattle.types.specs.Lists.{zero_node, LawfulNode, shape, reading, type_at}

shape_variable : (k n : ℕ) (a b : Ty) → k ≡ 0 → shape k n a b ≡ variable n
shape_variable zero n a b e = refl
shape_variable (suc k) n a b e = absurd (omega arith)

shape_base : (k n : ℕ) (a b : Ty) → k ≡ 1 → shape k n a b ≡ base n
shape_base zero n a b e = absurd (omega arith)
shape_base (suc zero) n a b e = refl
shape_base (suc (suc k)) n a b e = absurd (omega arith)

shape_branch : (k n : ℕ) (a b : Ty) → 2 ≤ k → shape k n a b ≡ branch k a b
shape_branch zero n a b h = absurd (omega arith)
shape_branch (suc zero) n a b h = absurd (omega arith)
shape_branch (suc (suc k)) n a b h = refl

-- a leaf does not depend on its parts
pub shape_same : (k n : ℕ) (a b x y : Ty) → (2 ≤ k → (a ≡ x) × (b ≡ y)) → shape k n a b ≡ shape k n x y
shape_same zero n a b x y parts = refl
shape_same (suc zero) n a b x y parts = refl
shape_same (suc (suc k)) n a b x y parts = let w = parts (omega arith) in ap₂ (branch (suc (suc k))) w.0 w.1

module _ (l : List TypeNode) (each : (p : ℕ) → p < length l → LawfulNode p (get_or l p zero_node)) where
  -- the parts of a branch stand lower
  pub lower_at : (p : ℕ) → p < length l → 2 ≤ (get_or l p zero_node).kind → ((get_or l p zero_node).left < p) × ((get_or l p zero_node).right < p)
  lower_at p h = (each p h).lower

  -- any depth above the place reads the same
  any_depth : (d e p : ℕ) → p < length l → p < d → p < e → reading d l p ≡ reading e l p
  any_depth zero e p h i j = absurd (omega arith)
  any_depth (suc d) zero p h i j = absurd (omega arith)
  any_depth (suc d) (suc e) p h i j =
      shape_same (get_or l p zero_node).kind (get_or l p zero_node).left _ _ _ _
      (λ two.
      let w = lower_at p h two in
      let a = (get_or l p zero_node).left in
      let b = (get_or l p zero_node).right in (
        any_depth d e a (omega (arith, w.0)) (omega (arith, w.0)) (omega (arith, w.0)),
        any_depth d e b (omega (arith, w.1)) (omega (arith, w.1)) (omega (arith, w.1)),
      ))

  module _ (p : ℕ) (h : p < length l) where
    abbrev here : TypeNode
    here = get_or l p zero_node

    pub at_variable : here.kind ≡ 0 → type_at l p ≡ variable here.left
    at_variable e = shape_variable _ _ _ _ e

    pub at_base : here.kind ≡ 1 → type_at l p ≡ base here.left
    at_base e = shape_base _ _ _ _ e

    pub at_branch : 2 ≤ here.kind → type_at l p ≡ branch here.kind (type_at l here.left) (type_at l here.right)
    at_branch two =
        let w = lower_at p h two in
        let a = here.left in
        let b = here.right in
        shape_branch _ _ _ _ two
        ∙ ap₂ (branch here.kind)
        (any_depth p (suc a) a (omega (arith, w.0)) w.0 (omega arith))
        (any_depth p (suc b) b (omega (arith, w.1)) w.1 (omega arith))
