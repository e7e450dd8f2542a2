use Rattle.std.proofs.Common.{ℕ, ◌+◌, List, get_or, sym, ap, ◌∙◌, subst, arith}
use Rattle.types.specs.declared.TypeNode.{TypeNode}
use Rattle.types.specs.Lists.{zero_node}
use Rattle.instance.specs.Merging.{moved, Keeps, Merged}
use Rattle.instance.proofs.Joining.{merged_more}
use Rattle.instance.proofs.merge.Goals as goal

pub loop-node-preserved : goal.loop-node-preserved
loop-node-preserved c =
    let node = get_or c.args.list.now c.loop-node.node-index zero_node in
    let is = c.with_places-moved.ensures ∙ ap (λ (x : List ℕ). moved node x) c.as_slice.ensures.value in
    let kept = subst (λ (n : TypeNode). Keeps c.loop-node.merged.items c.keep-place.new.merged.items n c.keep-place.result) is c.keep-place.ensures in
    subst (λ (x : List ℕ). Merged c.args.list.now c.keep-place.new.merged.items x (c.loop-node.node-index + 1)) (sym c.push.ensures.items)
    (merged_more c.args.list.now c.requires.lawful c.loop-node.merged.items c.loop-node.places.items c.loop-node.node-index (omega arith) c.loop-node.invariant _ c.keep-place.result kept)
