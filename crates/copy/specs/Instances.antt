-- Instances of the types that lists of type nodes mean.
use Rattle.std.specs.Prelude.{ℕ, ◌<◌, List, length}
use Rattle.types.specs.Types.{Ty, Instance}
use Rattle.types.specs.Lists.{meaning}
use Rattle.types.specs.declared.TypeNode.{TypeNode}

-- lists by number, as a catalogue or a table of kept lists has them
abbrev pub Lists : Type 0
Lists = ℕ → List TypeNode

-- τ is an instance of the type that the list means; a list without nodes means none
pub record OfList (l : List TypeNode) (τ : Ty) : Type 0 where
  pub some : 0 < length l
  pub instance : Instance (meaning l) τ
