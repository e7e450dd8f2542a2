-- The number, layer and place of each fault of a line.
use Rattle.refusal.specs.Saying.{saying}
use Rattle.refusal.specs.declared.Layer.TheVariants as layer
use Rattle.refusal.specs.declared.Refusal.{Refusal}
use Rattle.formula.specs.Faults.{says as formula_says}
use Rattle.typer.specs.Faults.{says as types_says}
use Rattle.paycheck.specs.declared.fault.LineFault.{LineFault}
use Rattle.paycheck.specs.declared.fault.LineFault.TheVariants.{TooManyBytes, Formula, Types, TooLong}

abbrev pub says : LineFault → Refusal
says TooManyBytes = saying 12 layer.Book 0
says (Formula f) = formula_says f
says (Types f) = types_says f
says TooLong = saying 71 layer.Book 0
