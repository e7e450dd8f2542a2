use Rattle.std.proofs.Common.{◌-◌, arith}
use Rattle.instance.specs.Slots.{places}
use Rattle.instance.proofs.Walk.{walk_start, walk_clash, walk_done}
use Rattle.instance.proofs.fits.Goals as goal

pub loop-at-init : goal.loop-at-init
loop-at-init c =
    let new = c.new-matching.ensures in
    record {
      general = new.general;
      special = new.special;
      walked = walk_start _ _ _ (places c.new-matching.result.nodes) (places c.new-matching.result.variables) c.requires.general.some c.requires.general.few c.requires.place new.nodes new.variables;
    }

pub returns-then-not-step : goal.returns-then-not-step
returns-then-not-step c =
    let m = c.loop-at.matching in
    let i = c.loop-at.invariant in
    walk_clash c.args.general.now c.args.special.now c.args.place (places m.nodes) (places m.variables) c.loop-at.at (c.loop-at.at - 1) (omega arith) i.walked m.general.now m.special.now i.general i.special c.if-not-step.ensures.stepped

pub returns : goal.returns
returns c = walk_done _ _ _ _ _ c.loop-at.at (omega arith) c.loop-at.invariant.walked
