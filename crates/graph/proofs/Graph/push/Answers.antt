use Rattle.graph.proofs.Memory.{graph_push}
use Rattle.graph.proofs.Graph.push.Goals as goal

pub returns-clause-nodes : goal.returns-clause-nodes
returns-clause-nodes c = graph_push c.args.self.now.memory.now c.args.self.now.used c.args.node c.requires.room
