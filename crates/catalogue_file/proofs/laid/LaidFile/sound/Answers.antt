use Rattle.std.proofs.Common.{refl}
use Rattle.catalogue_file.proofs.Framed.{sound}
use Rattle.catalogue_file.proofs.laid.LaidFile.sound.Goals as goal

pub invariant_of-result : goal.invariant_of-result
invariant_of-result c = record { sound = ∣ sound c.args.self c.in_ok-formed.ensures c.in_ok-lawful.ensures c.in_ok-fresh.ensures ∣₁ }

pub returns : goal.returns
returns c = (refl, sound c.args.self c.in_ok-formed.ensures c.in_ok-lawful.ensures c.in_ok-fresh.ensures)
