use Rattle.std.proofs.Common.{sym, ◌∙◌, refl}
use Rattle.graph.proofs.Memory.{skipped_link}
use Rattle.graph.proofs.shorten.Goals as goal

pub returns-in-Link : goal.returns-in-Link
returns-in-Link c = let s = skipped_link _ _ _ _ _ c.requires.within c.requires.below c.requires.sound c.requires.link refl (sym c.from.ensures ∙ c.in-Link.is) in record { kept = s.0; still = s.1 }
