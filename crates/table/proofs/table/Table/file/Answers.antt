use Rattle.table.proofs.Changes.{filed_view}
use Rattle.table.proofs.table.Table.file.Goals as goal

pub returns : goal.returns
returns c = filed_view c.args.self.now c.in_use.result c.in_use.ensures
