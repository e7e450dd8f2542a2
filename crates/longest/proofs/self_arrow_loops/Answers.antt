use Rattle.std.proofs.Common.{ap, arith}
use Rattle.walk.specs.Work.{size}
use Rattle.longest.proofs.self_arrow_loops.Goals as goal

-- no type is as large as an arrow from itself
pub returns-in-Ok : goal.returns-in-Ok
returns-in-Ok c = absurd (omega (arith, ap size (rw c.arrow.ensures at (c.in-Ok.ensures.found.general.solves 0 (omega arith)))))
