use Rattle.std.proofs.Common.{length, arith}
use Rattle.types.specs.Lists.{zero_node}
use Rattle.graph.specs.Graph.{view}
use Rattle.walk.specs.Copies.{Copy}
use Rattle.walk.proofs.Chains.{table_entered}
use Rattle.walk.proofs.Gathering.{below_set}
use Rattle.walk.proofs.copying.copy.Goals as goal

pub loop-place-preserved : goal.loop-place-preserved
loop-place-preserved c = (
  below_set (λ p x. Copy c.args.list.now p (view x)) zero_node c.loop-place.memory c.loop-place.place c.copy_at.result (omega arith) c.loop-place.invariant.0 c.copy_at.ensures,
  table_entered c.args.list.now (length c.args.list.now) c.loop-place.place _ _ _ _ (omega arith) (omega arith) (omega arith) c.loop-place.invariant.1 c.enter.ensures.heads c.enter.ensures.nexts,
)
