use Rattle.instance.specs.Merging.{Merged}
use Rattle.instance.proofs.merge.Given as goal

abbrev pub invariant-loop-node : goal.invariant-loop-node
invariant-loop-node l = Merged l.list l.merged.items l.places.items l.node-index
