use Rattle.std.proofs.Common.{sym, ◌∙◌}
use Rattle.catalogue_file.specs.Contents.{layout_of, bytes_of, entries_long}
use Rattle.catalogue_file.proofs.answers.FileCatalogueCatalogue.count.Goals as goal

pub returns : goal.returns
returns c = c.count.ensures.value ∙ sym (entries_long (layout_of c.args.self.now) (bytes_of c.args.self.now))
