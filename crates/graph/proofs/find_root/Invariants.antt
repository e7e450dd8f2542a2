use Rattle.std.proofs.Common.{◌≡◌, ℕ, ◌<◌, map, length}
use Rattle.types.specs.Types.{Ty}
use Rattle.graph.specs.Graph.{view, Solves, Kept, Always, Still}
use Rattle.graph.proofs.find_root.Given as goal

abbrev pub invariant-loop-next : goal.invariant-loop-next
invariant-loop-next l =
    (l.at < length l.nodes) × Kept (map view l.initial.nodes) (map view l.nodes) Always Always × Still (map view l.initial.nodes) (map view l.nodes) × ((v : ℕ → Ty) → Solves v (map view l.initial.nodes) → v l.start ≡ v l.at)

abbrev pub decreases-loop-next : goal.decreases-loop-next
decreases-loop-next l = l.at
