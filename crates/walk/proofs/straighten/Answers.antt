use Rattle.std.proofs.Common.{arith}
use Rattle.graph.proofs.Writes.{kept_none}
use Rattle.walk.proofs.Flattening.{looked_alive, straight_node, next_below, straight_next, skipped_kept, skipped_simple, skipped_straight}
use Rattle.walk.proofs.straighten.Goals as goal

pub slice_copy_out-there : goal.slice_copy_out-there
slice_copy_out-there c = let p = c.requires in omega (arith, next_below c.args.graph.now c.args.i p.within p.sound p.below c.in-Link.next c.in-Link.ensures)

pub returns-in-Link-from : goal.returns-in-Link-from
returns-in-Link-from c =
    let p = c.requires in
    record {
      kept = skipped_kept c.args.graph.now c.args.i p.within p.sound p.below c.in-Link.next c.in-Link.ensures _ c.in-Link-from.ensures;
      straight = skipped_straight c.args.graph.now c.args.i p.within p.sound p.below c.in-Link.next c.in-Link.ensures _ c.in-Link-from.ensures;
      simple = skipped_simple c.args.graph.now c.args.i p.within p.sound p.below c.in-Link.next c.in-Link.ensures _ c.in-Link-from.ensures;
    }

pub returns-in_default-from : goal.returns-in_default-from
returns-in_default-from c =
    let p = c.requires in
    record {
      kept = kept_none _ p.sound;
      straight = straight_next c.args.graph.now c.args.i p.within p.sound p.below c.in-Link.next c.in-Link.ensures (looked_alive _ _ c.from-in-Link.ensures c.in_default-from.not-Link);
      simple = λ s. s;
    }

pub returns-in_default : goal.returns-in_default
returns-in_default c =
    let p = c.requires in
    record {
      kept = kept_none _ p.sound;
      straight = straight_node c.args.graph.now c.args.i p.within p.sound p.below (looked_alive _ _ c.from.ensures c.in_default.not-Link);
      simple = λ s. s;
    }
