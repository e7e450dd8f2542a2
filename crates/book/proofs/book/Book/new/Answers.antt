use Rattle.std.proofs.Common.{refl}
use Rattle.book.proofs.Whole.{every_run}
use Rattle.book.proofs.book.Book.new.Goals as goal

pub returns : goal.returns
returns g c = record { given = refl; every = every_run g.C.Catalogue.entries g.C.Catalogue.lawful _ c.new.ensures }
