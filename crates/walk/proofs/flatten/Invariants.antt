use Rattle.std.proofs.Common.{ℕ, ◌<◌, map}
use Rattle.graph.specs.Graph.{view, Kept, Always}
use Rattle.walk.specs.Reads.{Straight}
use Rattle.walk.specs.Listing.{SimpleGraph}
use Rattle.walk.proofs.flatten.Given as goal

abbrev pub invariant-loop-i : goal.invariant-loop-i
invariant-loop-i l =
    record {
      kept : Kept (map view l.initial.graph) (map view l.graph) Always Always;
      straight : (k : ℕ) → k < l.i → Straight (map view l.graph) k;
      simple : SimpleGraph (map view l.initial.graph) → SimpleGraph (map view l.graph);
    }
