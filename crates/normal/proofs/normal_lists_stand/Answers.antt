use Rattle.std.proofs.Common.{refl}
use Rattle.normal.proofs.Meaning.{normal_once, normal_lawful, normal_means, normal_begins}
use Rattle.normal.proofs.Reading.{places_are_types}
use Rattle.normal.proofs.Rename.{normal_again}
use Rattle.normal.proofs.normal_lists_stand.Goals as goal

pub returns : goal.returns
returns c = record { once = normal_once; lawful = normal_lawful; means = normal_means; begins = normal_begins; again = normal_again; places = places_are_types; example = refl }
