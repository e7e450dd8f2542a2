use Rattle.std.proofs.Common.{arith}
use Rattle.table.specs.Entries.{no_entry}
use Rattle.table.proofs.Views.{places_at}
use Rattle.table.proofs.table.Table.place.Goals as goal

pub returns-clause-stands : goal.returns-clause-stands
returns-clause-stands c =
    let read = c.get.ensures.lookup.4 (omega arith) no_entry in
    rw (c.copied.ensures, read, c.rows.ensures) (places_at c.args.self.now c.args.k)
