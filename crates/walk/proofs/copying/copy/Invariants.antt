use Rattle.std.proofs.Common.{ℕ, ◌<◌, length, get_or}
use Rattle.types.specs.Lists.{zero_node}
use Rattle.graph.specs.Graph.{view}
use Rattle.walk.specs.Table.{bucket, Table}
use Rattle.walk.specs.Copies.{Copy}
use Rattle.walk.proofs.copying.copy.Given as goal

abbrev pub invariant-loop-place : goal.invariant-loop-place
invariant-loop-place l =
    ((p : ℕ) → p < l.place → Copy l.list p (view (get_or l.memory p zero_node)))
    × Table (λ p. bucket (length l.list) (get_or l.list p zero_node)) l.place l.heads l.nexts
