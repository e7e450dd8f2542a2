use Rattle.std.proofs.Common.{sym, subst}
use Rattle.cutting.specs.Lines.{Begins}
use Rattle.desk.proofs.Planning.{built_none, built_more}
use Rattle.desk.proofs.plan.plan.Goals as goal

pub lines-init : goal.lines-init
lines-init c = (tt, tt, built_none _ _ _ (subst (Begins c.args.input.now) (sym c.into_iter-line-iterator.ensures.into_iter_gives) c.lines-line-items.ensures) c.new-dealings.ensures.items)

pub lines-preserved : goal.lines-preserved
lines-preserved c = (tt, tt, built_more _ _ _ _ _ _ c.in-Some.line c.lines.invariant.2 c.in-Some.ensures.steps c.in_ok-push.ensures.items c.in_ok-push-2.ensures.items)
