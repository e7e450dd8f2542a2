-- Graphs in the front of a memory.
use Rattle.std.specs.Prelude.{◌≡◌, List, length}
use Rattle.graph.specs.Graph.{graph}
use Rattle.graph.specs.declared.Graph.{Graph}
use Rattle.graph.specs.declared.Node.{Node}

abbrev pub nodes : Graph → List Node
nodes g = graph g.memory.now g.used

-- h is in the memory that g is in
abbrev pub InPlace : Graph → Graph → Type 0
InPlace g h = (h.memory.ghost_name ≡ g.memory.ghost_name) × (length h.memory.now ≡ length g.memory.now)
