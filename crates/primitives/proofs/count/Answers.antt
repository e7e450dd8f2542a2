use Rattle.std.proofs.Common.{◌≡◌, refl}
use Rattle.std.specs.List.{AllByRecursion}
use Rattle.std.proofs.ByRecursion.{All-get_or}
use Rattle.catalogue.specs.Entries.{Entry, no_entry}
use Rattle.catalogue.specs.Table.{builtin}
use Rattle.normal.specs.Normal.{normal_of}
use Rattle.types.specs.Lists.{meaning}
use Rattle.primitives.proofs.count.Goals as goal

abbrev IsNormal : Entry → Type 0
IsNormal e = normal_of (meaning e.list) ≡ e.list

-- computed, over the whole table
rows : AllByRecursion IsNormal builtin
rows = (refl, (refl, (refl, (refl, (refl, (refl, (refl, (refl, tt))))))))

pub returns : goal.returns
returns c = record { count = c.count.ensures; normal = λ k h. All-get_or IsNormal builtin k no_entry h rows }
