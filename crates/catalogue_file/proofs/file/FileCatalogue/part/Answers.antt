use Rattle.std.proofs.Common.{sym, ap, ◌∙◌, arith}
use Rattle.catalogue_file.specs.Parts.{entry_in}
use Rattle.catalogue_file.specs.Contents.{layout_of, bytes_of, entries_long, entry_at}
use Rattle.catalogue_file.proofs.file.FileCatalogue.part.Goals as goal

pub part-requires : goal.part-requires
part-requires c = omega (arith, c.count.ensures, entries_long (layout_of c.args.self.now) (bytes_of c.args.self.now))

pub returns-then-k-count : goal.returns-then-k-count
returns-then-k-count c =
    let l = layout_of c.args.self.now in
    let bs = bytes_of c.args.self.now in
    ap entry_in c.part.ensures ∙ sym (entry_at l bs c.args.k (omega (arith, c.count.ensures, entries_long l bs)))
