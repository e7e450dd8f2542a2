-- Where a ticket is spent, of two books that it is tried on.
use Rattle.std.specs.Prelude.{◌≡◌, ℕ, List, Ok, Err, Result}
use Rattle.catalogue.specs.Entries.{Entry}
use Rattle.ledger.specs.Calls.{file, filed, refused}
use Rattle.book.specs.declared.book.Book.{Book}
use Rattle.book.specs.Faults.{says}
use Rattle.book.specs.History.{Does}
use Rattle.book.specs.declared.fault.BookFault.{BookFault}

-- filed in the first book, and the second is as it was; or else refused there, and filed in the second
abbrev pub Filed : {C : Type 0} → (C → List Entry) → Book C → Book C → Book C → Book C → Result ℕ (BookFault × ℕ) → Type 0
Filed entries a a' b b' (Ok n) = Does entries a file (filed n) a' × (b' ≡ b)
Filed entries a a' b b' (Err e) = Does entries a file (refused (says e.0)) a' × Does entries b file (filed e.1) b'
