-- The rows of the built-in table are normal.
use Rattle.std.specs.Prelude.{◌≡◌, ℕ, ◌<◌, length}
use Rattle.catalogue.specs.Entries.{list_of}
use Rattle.catalogue.specs.Table.{builtin}
use Rattle.normal.specs.Normal.{normal_of}
use Rattle.types.specs.Lists.{meaning}

-- each row of the built-in table is the normal list of its type
abbrev pub RowsAreNormal : Type 0
RowsAreNormal = (k : ℕ) → k < length builtin → normal_of (meaning (list_of builtin k)) ≡ list_of builtin k
