use Rattle.std.proofs.Common.{refl, arith}
use Rattle.infer.proofs.Whole.{answered, untypable}
use Rattle.infer.proofs.Term.infer.Goals as goal

pub returns : goal.returns
returns g c = rw c.then_some.ensures (answered _ _ _ _ refl _ refl refl _ _ _ c.pass.new.graph c.in_ok-found.found _ (grind (arith, c.in_ok-found.ensures.graph.0)) c.in_ok-found.ensures.passed)

pub returns-in_err-found : goal.returns-in_err-found
returns-in_err-found g c = rw c.from_residual.ensures (untypable _ _ _ _ _ refl refl c.in_err-found.ensures.passed)
