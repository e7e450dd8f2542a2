-- A catalogue without entries is lawful.
use Rattle.std.specs.Prelude.{◌≤◌, List, [], length}
use Rattle.std.proofs.Common.{arith, lit≤}
use Rattle.catalogue.specs.Entries.{Entry, AllLawful}

abbrev pub nothing : List Entry
nothing = []

pub nothing_few : length nothing ≤ 65535
nothing_few = lit≤ tt

pub nothing_lawful : AllLawful nothing
nothing_lawful k h = absurd (omega (arith, h))
