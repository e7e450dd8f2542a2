use Rattle.std.proofs.Common.{inr, sym, ◌-◌, arith}
use Rattle.derivation_check.proofs.Spans.{walked_more, walked_all}
use Rattle.derivation_check.proofs.ends.walk.Goals as goal

pub loop-next-preserved : goal.loop-next-preserved
loop-next-preserved c = walked_more _ _ _ c.loop-next.invariant (c.loop-next.missing - 1) _ (omega arith) (omega arith) (sym c.parts_of.ensures)

pub returns-clause-is : goal.returns-clause-is
returns-clause-is c = omega (arith, walked_all _ _ _ c.loop-next.invariant (inr (omega arith)))
