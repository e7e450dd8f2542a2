use Rattle.formulas.proofs.Worked.{worked_formulas}
use Rattle.formulas.proofs.worked_formulas_stand.Goals as goal

pub returns : goal.returns
returns c = worked_formulas
