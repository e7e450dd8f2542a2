use Rattle.std.proofs.Common.{arith}
use Rattle.graph.specs.Graph.{Always}
use Rattle.graph.proofs.Merges.{merged_by, merged_flip, merged_then}
use Rattle.graph.proofs.Writes.{kept_then}
use Rattle.graph.proofs.Memory.{same_many, alive_still}
use Rattle.graph.proofs.join.Goals as goal

pub returns-in-Less : goal.returns-in-Less
returns-in-Less c =
    let p = c.find_root-x.ensures in
    let q = c.find_root-y.ensures in
    let k = kept_then _ _ _ Always Always p.kept q.kept in
    merged_by _ _ _ _ _ _ p.same (λ v s. q.same v (p.kept.onto v s tt).0) c.merge.result (merged_then _ _ _ _ _ c.merge.result (same_many c.args.nodes.now c.find_root-y.new.nodes (omega arith)) k c.merge.ensures)

pub returns-in-Greater : goal.returns-in-Greater
returns-in-Greater c =
    let p = c.find_root-x.ensures in
    let q = c.find_root-y.ensures in
    let k = kept_then _ _ _ Always Always p.kept q.kept in
    let r = c.merge-in-Greater.result in
    merged_by _ _ _ _ _ _ p.same (λ v s. q.same v (p.kept.onto v s tt).0) r (merged_then _ _ _ _ _ r (same_many c.args.nodes.now c.find_root-y.new.nodes (omega arith)) k (merged_flip _ _ _ _ r c.merge-in-Greater.ensures))

pub merge-requires-clause-lower : goal.merge-requires-clause-lower
merge-requires-clause-lower c = alive_still _ _ _ c.find_root-y.ensures.still c.find_root-x.ensures.root

pub merge-requires-in-Greater-clause-upper : goal.merge-requires-in-Greater-clause-upper
merge-requires-in-Greater-clause-upper c = alive_still _ _ _ c.find_root-y.ensures.still c.find_root-x.ensures.root
