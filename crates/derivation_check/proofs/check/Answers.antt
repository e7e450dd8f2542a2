use Rattle.derivation_check.proofs.Typings.{steps_are_typings}
use Rattle.derivation_check.proofs.Answering.{checked, refused_step}
use Rattle.derivation_check.proofs.check.Goals as goal

pub returns-in_err-types-clause-typings : goal.returns-in_err-types-clause-typings
returns-in_err-types-clause-typings g c = steps_are_typings

pub returns-in-None : goal.returns-in-None
returns-in-None g c = record { answer = checked _ _ _ _ _ c.in_ok-types.types c.in_ok-types.ensures c.in-None.ensures; typings = steps_are_typings }

pub returns-in-Some : goal.returns-in-Some
returns-in-Some g c = record { answer = refused_step _ _ _ _ _ c.in_ok-types.types c.in_ok-types.ensures _ c.in-Some.ensures; typings = steps_are_typings }
