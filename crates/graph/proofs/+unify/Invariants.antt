use Rattle.std.proofs.Common.{map}
use Rattle.graph.specs.Graph.{view, live}
use Rattle.graph.proofs.+unify.Given as goal

abbrev pub decreases-unify : goal.decreases-unify
decreases-unify l = live (map view l.nodes.now)
