-- A formula that is submitted, and at once filed or dismissed.
use Rattle.catalogue.specs.Entries.{Entry}
use Rattle.ledger.specs.Calls.{Call, Reply, Submission, submit, opened, refused}
use Rattle.std.specs.Prelude.{ℕ, List, Ok, Err, Result}
use Rattle.book.specs.declared.book.Book.{Book}
use Rattle.book.specs.declared.fault.BookFault.{BookFault}
use Rattle.book.specs.Faults.{says}
use Rattle.book.specs.History.{Does}

-- the formula was taken up, and then the call on the candidate was answered
pub record Followed {C : Type 0} (entries : C → List Entry) (b : Book C) (s : Submission) (call : Call) (reply : Reply) (b' : Book C) : Type 0 where
  pub number : ℕ
  pub between : Book C
  pub taken : Does entries b (submit s) (opened number) between
  pub answered : Does entries between call reply b'

-- where the formula is refused, nothing follows
abbrev pub Ends : {C X : Type 0} → (C → List Entry) → Book C → Submission → Call → (X → Reply) → Book C → Result X BookFault → Type 0
Ends entries b s call reply b' (Ok x) = Followed entries b s call (reply x) b'
Ends entries b s call reply b' (Err f) = Does entries b (submit s) (refused (says f)) b'
