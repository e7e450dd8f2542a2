-- Books that stand for a ledger.
use Rattle.std.specs.Prelude.{◌≡◌, true, List}
use Rattle.catalogue.specs.Entries.{Entry}
use Rattle.table.specs.View.{view}
use Rattle.ledger.specs.Ledger.{Ledger}
use Rattle.book.specs.declared.book.Book.{Book}
use Rattle.book.specs.Standing.{Stands}
use Rattle.book.specs.Replies.{has_candidate}

-- the book's rows and its candidate are those of some ledger that keeps principal types
pub record Represented {C : Type 0} (entries : C → List Entry) (b : Book C) : Type 0 where
  pub ledger : Ledger
  pub stands : Stands (entries b.catalogue) (view b.table) ledger

-- and a candidate is open
pub record Open {C : Type 0} (entries : C → List Entry) (b : Book C) : Type 0 where
  pub represented : Represented entries b
  pub candidate : has_candidate b ≡ true
