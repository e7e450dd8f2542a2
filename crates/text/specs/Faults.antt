-- The number, layer and place of each fault of a text.
use Rattle.refusal.specs.Saying.{saying}
use Rattle.refusal.specs.declared.Layer.TheVariants as layer
use Rattle.refusal.specs.declared.Refusal.{Refusal}
use Rattle.text.specs.declared.fault.TextFault.{TextFault}
use Rattle.text.specs.declared.fault.TextFault.TheVariants.{Stray, Misplaced}

abbrev pub says : TextFault → Refusal
says (Stray at) = saying 20 layer.Text at
says (Misplaced at) = saying 21 layer.Text at
