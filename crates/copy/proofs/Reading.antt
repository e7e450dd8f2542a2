-- The type at a place of a lawful list, by its node.
use Rattle.std.proofs.Common.{◌≡◌, ℕ, zero, suc, ◌<◌, ◌≤◌, List, length, get_or, refl, ap, ◌∙◌, ap₂, arith}
use Rattle.types.specs.Types.{Ty, variable, base, branch}
use Rattle.types.specs.Lists.{zero_node, Lawful, shape, reading, type_at}
use Rattle.types.specs.declared.TypeNode.{TypeNode}

shape_alike : (k n : ℕ) (a b c d : Ty) → (2 ≤ k → a ≡ c) → (2 ≤ k → b ≡ d) → shape k n a b ≡ shape k n c d
shape_alike zero n a b c d p q = refl
shape_alike (suc zero) n a b c d p q = refl
shape_alike (suc (suc k)) n a b c d p q = ap₂ (branch (suc (suc k))) (p (omega arith)) (q (omega arith))

shape_branch : (k n : ℕ) (a b : Ty) → 2 ≤ k → shape k n a b ≡ branch k a b
shape_branch zero n a b h = absurd (omega arith)
shape_branch (suc zero) n a b h = absurd (omega arith)
shape_branch (suc (suc k)) n a b h = refl

module _ (l : List TypeNode) (lawful : Lawful l) where
  enough : (d e p : ℕ) → p < length l → p < d → p < e → reading d l p ≡ reading e l p
  enough zero e p h i j = absurd (omega arith)
  enough (suc d) zero p h i j = absurd (omega arith)
  enough (suc d) (suc e) p h i j =
      let x : TypeNode = get_or l p zero_node in
      shape_alike x.kind x.left (reading d l x.left) (reading d l x.right) (reading e l x.left) (reading e l x.right)
      (λ k. let low = (lawful.each p h).lower k in enough d e x.left (omega (arith, low.0)) (omega (arith, low.0)) (omega (arith, low.0)))
      (λ k. let low = (lawful.each p h).lower k in enough d e x.right (omega (arith, low.1)) (omega (arith, low.1)) (omega (arith, low.1)))

  pub variable_at : (p : ℕ) → (get_or l p zero_node).kind ≡ 0 → type_at l p ≡ variable (get_or l p zero_node).left
  variable_at p e =
      let x : TypeNode = get_or l p zero_node in
      ap (λ (k : ℕ). shape k x.left (reading p l x.left) (reading p l x.right)) e

  pub base_at : (p : ℕ) → (get_or l p zero_node).kind ≡ 1 → type_at l p ≡ base (get_or l p zero_node).left
  base_at p e =
      let x : TypeNode = get_or l p zero_node in
      ap (λ (k : ℕ). shape k x.left (reading p l x.left) (reading p l x.right)) e

  pub branch_at : (p k : ℕ) → p < length l → (get_or l p zero_node).kind ≡ k → 2 ≤ k → type_at l p ≡ branch k (type_at l (get_or l p zero_node).left) (type_at l (get_or l p zero_node).right)
  branch_at p k h e two =
      let x : TypeNode = get_or l p zero_node in
      let low = (lawful.each p h).lower (omega arith) in
      ap (λ (k : ℕ). shape k x.left (reading p l x.left) (reading p l x.right)) e
      ∙ shape_branch k x.left (reading p l x.left) (reading p l x.right) two
      ∙ ap₂ (branch k) (enough p (suc x.left) x.left (omega (arith, low.0)) low.0 (omega arith)) (enough p (suc x.right) x.right (omega (arith, low.1)) low.1 (omega arith))
