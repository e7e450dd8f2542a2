-- The types that a list gives to nodes, and which of them are arrows.
use Rattle.std.specs.Prelude.{◌≡◌, ℕ, ◌<◌, List, length, Some, None, Option}
use Rattle.types.specs.Types.{Ty, arrow}
use Rattle.types.specs.Lists.{type_at}
use Rattle.types.specs.declared.TypeNode.{TypeNode}
use Rattle.derivation_check.specs.Checking.{types}
use Rattle.derivation_check.specs.declared.node_types.NodeTypes.{NodeTypes}

-- the type of a node
abbrev pub type_of : NodeTypes → ℕ → Ty
type_of t i = types t.list.now t.places.now i

-- the type is no arrow
abbrev pub NoArrow : Ty → Type 0
NoArrow τ = (α β : Ty) → τ ≡ arrow α β → ⊥

-- the type is the arrow between the types at two places of a list
pub record ArrowOf (l : List TypeNode) (τ : Ty) (from to : ℕ) : Type 0 where
  pub from_inside : from < length l
  pub to_inside : to < length l
  pub is : τ ≡ arrow (type_at l from) (type_at l to)

-- the places of the parts of the type, if it is an arrow
abbrev pub Parts : List TypeNode → Ty → Option (ℕ × ℕ) → Type 0
Parts l τ None = NoArrow τ
Parts l τ (Some p) = ArrowOf l τ p.0 p.1
