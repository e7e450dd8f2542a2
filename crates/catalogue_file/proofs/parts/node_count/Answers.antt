use Rattle.catalogue_file.proofs.Nodes.{nodes_counted}
use Rattle.catalogue_file.proofs.parts.node_count.Goals as goal

pub returns-clause-value : goal.returns-clause-value
returns-clause-value c = nodes_counted c.args.rest.now
