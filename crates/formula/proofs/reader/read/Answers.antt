use Rattle.std.proofs.Common.{arith}
use Rattle.formula.proofs.Wholes.{answered}
use Rattle.formula.proofs.reader.read.Goals as goal

pub returns : goal.returns
returns g c = answered _ _ _ _ _ _ _ _ c.draft-read.ensures c.unwrap_or.ensures c.clear.ensures (omega arith) (omega arith)
