use Rattle.std.proofs.Common.{◌-◌, length, ap}
use Rattle.instance.specs.Slots.{place_in}
use Rattle.instance.proofs.Slots.{places_free, places_one}
use Rattle.instance.proofs.matching.Matching.new.Goals as goal

pub returns-clause-nodes : goal.returns-clause-nodes
returns-clause-nodes c = places_one 4096 (length c.args.general.now - 1) c.args.place c.default.result c.of.result (ap place_in c.default.ensures) c.of.ensures

pub returns-clause-variables : goal.returns-clause-variables
returns-clause-variables c = places_free 4096 c.default-2.result (ap place_in c.default-2.ensures)
