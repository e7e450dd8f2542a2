use Rattle.table.proofs.Views.{ends_last}
use Rattle.table.proofs.table.Table.last.Goals as goal

pub returns : goal.returns
returns c = rw (c.copied.ensures, c.last.ensures.value, c.rows.ensures) (ends_last c.args.self.now)
