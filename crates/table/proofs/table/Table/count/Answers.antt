use Rattle.table.proofs.Views.{all_proper}
use Rattle.table.proofs.table.Table.count.Goals as goal

pub returns-clause-proper : goal.returns-clause-proper
returns-clause-proper c = all_proper c.args.self.now
