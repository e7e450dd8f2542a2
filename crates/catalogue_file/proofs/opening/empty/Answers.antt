use Rattle.catalogue_file.proofs.Empty.{empty_sound, empty_means}
use Rattle.catalogue_file.proofs.opening.empty.Goals as goal

pub invariant_of-headed : goal.invariant_of-headed
invariant_of-headed c = record { headed = ∣ empty_sound.framed.headed ∣₁ }

pub invariant_of-laid : goal.invariant_of-laid
invariant_of-laid c = record { laid = ∣ empty_sound.framed.laid ∣₁ }

pub invariant_of-result : goal.invariant_of-result
invariant_of-result c = record { sound = ∣ empty_sound ∣₁ }

pub returns : goal.returns
returns c = empty_means
