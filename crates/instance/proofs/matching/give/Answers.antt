use Rattle.std.proofs.Common.{sym, ◌∙◌}
use Rattle.instance.proofs.Slots.{gave_free}
use Rattle.instance.proofs.matching.give.Goals as goal

pub returns-in-None : goal.returns-in-None
returns-in-None c = gave_free _ _ _ _ c.requires.inside (sym c.place.ensures ∙ c.in-None.is) c.of.ensures
