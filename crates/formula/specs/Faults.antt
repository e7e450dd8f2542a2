-- The number, layer and place of each fault of a formula.
use Rattle.refusal.specs.Saying.{saying}
use Rattle.refusal.specs.declared.Layer.TheVariants as layer
use Rattle.refusal.specs.declared.Refusal.{Refusal}
use Rattle.text.specs.Faults.{says as text_says}
use Rattle.formula.specs.declared.fault.FormulaFault.{FormulaFault}
use Rattle.formula.specs.declared.fault.FormulaFault.TheVariants.{Text, TooManyNodes, NoRoom, Unknown, NotFiled}

abbrev pub says : FormulaFault → Refusal
says (Text f) = text_says f
says TooManyNodes = saying 22 layer.Formula 0
says NoRoom = saying 23 layer.Formula 0
says (Unknown at) = saying 24 layer.Formula at
says (NotFiled at) = saying 25 layer.Formula at
