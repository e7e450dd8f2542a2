-- The number, layer and place of each fault of a derivation.
use Rattle.refusal.specs.Saying.{saying}
use Rattle.refusal.specs.declared.Layer.TheVariants as layer
use Rattle.refusal.specs.declared.Refusal.{Refusal}
use Rattle.derivation_check.specs.declared.fault.CheckFault.{CheckFault}
use Rattle.derivation_check.specs.declared.fault.CheckFault.TheVariants.{Length, Unlawful, Equal, Places, Step}

abbrev pub says : CheckFault → Refusal
says Length = saying 80 layer.Book 0
says Unlawful = saying 81 layer.Book 0
says Equal = saying 82 layer.Book 0
says Places = saying 83 layer.Book 0
says (Step at) = saying 84 layer.Book at
