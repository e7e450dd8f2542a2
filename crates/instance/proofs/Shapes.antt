-- What a node means, by what it says.
use Rattle.std.proofs.Common.{◌≡◌, ℕ, zero, suc, ◌<◌, ◌≤◌, List, length, get_or, Some, None, Option, refl, ap, ◌∙◌, subst, ap₂, arith}
use Rattle.types.specs.declared.TypeNode.{TypeNode}
use Rattle.types.specs.declared.Shape.{Shape}
use Rattle.types.specs.declared.Shape.TheVariants.{Variable, Base, Arrow}
use Rattle.types.specs.Types.{Ty, variable, base, branch}
use Rattle.types.specs.Lists.{zero_node, LawfulNode, type_at}
use Rattle.types.specs.Shapes.{of_kind, shape_of}
use Rattle.types.proofs.Reading.{lower_at, at_variable, at_base, at_branch}

-- the type that a node's words stand for
abbrev pub type_of : List TypeNode → Shape → Ty
type_of l (Variable v) = variable v
type_of l (Base c) = base c
type_of l (Arrow a b) = branch 2 (type_at l a) (type_at l b)

abbrev fields : ℕ → ℕ → ℕ → Shape → Type 0
fields kind left right (Variable v) = (kind ≡ 0) × (left ≡ v)
fields kind left right (Base c) = (kind ≡ 1) × (left ≡ c)
fields kind left right (Arrow a b) = (kind ≡ 2) × (left ≡ a) × (right ≡ b)

says : (kind left right : ℕ) (x : Shape) → of_kind kind left right ≡ Some x → fields kind left right x
says zero left right x e = let same : Variable left ≡ x = cc in subst (fields 0 left right) same (refl, refl)
says (suc zero) left right x e = let same : Base left ≡ x = cc in subst (fields 1 left right) same (refl, refl)
says (suc (suc zero)) left right x e = let same : Arrow left right ≡ x = cc in subst (fields 2 left right) same (refl, refl, refl)
says (suc (suc (suc k))) left right x e = absurd (cc)

nothing : (kind left right : ℕ) → kind ≤ 2 → of_kind kind left right ≡ None → ⊥
nothing zero left right few e = cc
nothing (suc zero) left right few e = cc
nothing (suc (suc zero)) left right few e = cc
nothing (suc (suc (suc k))) left right few e = omega arith

module _ (l : List TypeNode) (each : (p : ℕ) → p < length l → LawfulNode p (get_or l p zero_node)) (p : ℕ) (h : p < length l) where
  abbrev here : TypeNode
  here = get_or l p zero_node

  pub meant : (x : Shape) → shape_of here ≡ Some x → type_at l p ≡ type_of l x
  meant (Variable v) e = let f = says here.kind here.left here.right (Variable v) e in at_variable l each p h f.0 ∙ ap variable f.1
  meant (Base c) e = let f = says here.kind here.left here.right (Base c) e in at_base l each p h f.0 ∙ ap base f.1
  meant (Arrow a b) e =
      let f = says here.kind here.left here.right (Arrow a b) e in
      at_branch l each p h (omega (arith, f.0))
      ∙ ap (λ (k : ℕ). branch k (type_at l here.left) (type_at l here.right)) f.0
      ∙ ap₂ (λ (i j : ℕ). branch 2 (type_at l i) (type_at l j)) f.1 f.2

  pub lower : (a b : ℕ) → shape_of here ≡ Some (Arrow a b) → (a < p) × (b < p)
  lower a b e =
      let f = says here.kind here.left here.right (Arrow a b) e in
      let w = lower_at l each p h (omega (arith, f.0)) in
      (omega (arith, w.0, f.1), omega (arith, w.1, f.2))

  -- a lawful node says something
  pub meant_some : (x : Option Shape) → shape_of here ≡ x → (y : Shape) × (shape_of here ≡ Some y)
  meant_some (Some y) e = (y, e)
  meant_some None e = absurd (nothing here.kind here.left here.right (each p h).kinds e)
