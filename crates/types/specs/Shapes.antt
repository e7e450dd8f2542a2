-- What the records of type nodes say, by their kinds.
use Rattle.std.specs.Prelude.{ℕ, zero, suc, Option, Some, None}
use Rattle.types.specs.declared.TypeNode.{TypeNode}
use Rattle.types.specs.declared.Shape.{Shape}
use Rattle.types.specs.declared.Shape.TheVariants.{Variable, Base, Arrow}
use Rattle.types.specs.Lists.{node}

-- kind 0 is a variable, kind 1 a base, kind 2 an arrow; a node of another kind says nothing
abbrev pub of_kind : ℕ → ℕ → ℕ → Option Shape
of_kind zero left right = Some (Variable left)
of_kind (suc zero) left right = Some (Base left)
of_kind (suc (suc zero)) left right = Some (Arrow left right)
of_kind (suc (suc (suc k))) left right = None

abbrev pub shape_of : TypeNode → Option Shape
shape_of n = of_kind n.kind n.left n.right

-- the node that says it
abbrev pub node_of : Shape → TypeNode
node_of (Variable number) = node 0 number 0
node_of (Base code) = node 1 code 0
node_of (Arrow left right) = node 2 left right
