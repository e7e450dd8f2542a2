-- The built-in table has few entries, all of them lawful: one test, computed over the whole table.
use Rattle.std.specs.Prelude.{ℕ, ◌≤◌, Bool, length}
use Rattle.std.proofs.Common.{lit≤}
use Rattle.types.proofs.Tested.{at_each, list_passes, passed_lawful}
use Rattle.catalogue.specs.Entries.{Entry, no_entry, list_of, AllLawful}
use Rattle.catalogue.specs.Table.{builtin}

abbrev entry_passes : ℕ → Entry → Bool
entry_passes k e = list_passes e.list

pub table_few : length builtin ≤ 65535
table_few = lit≤ tt

pub table_lawful : AllLawful builtin
table_lawful k h = passed_lawful (list_of builtin k) (at_each entry_passes no_entry builtin tt k h)
