use Rattle.std.proofs.Common.{arith}
use Rattle.catalogue_file.specs.Contents.{contents, contents_lawful}
use Rattle.catalogue_file.proofs.Lengths.{count_short}
use Rattle.catalogue_file.proofs.answers.FileCatalogueCatalogue.nodes.Goals as goal

pub overflow_cast-result : goal.overflow_cast-result
overflow_cast-result c = omega (arith, count_short (contents c.args.self.now) c.args.k _ c.part.result.now _ (contents_lawful c.args.self.now) c.part.ensures c.split.ensures.rest c.node_count.ensures.value)
