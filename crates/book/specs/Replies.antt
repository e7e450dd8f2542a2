-- What the calls return, as replies of the ledger; and tickets.
use Rattle.std.specs.Prelude.{◌≡◌, ℕ, Bool, true, false, Ok, Err, Result}
use Rattle.ledger.specs.Calls.{Reply, refused, opened, filed, dismissed, withdrawn, shown, lined, derived, passed}
use Rattle.table.specs.View.{view, is_held}
use Rattle.book.specs.declared.book.Book.{Book}
use Rattle.book.specs.declared.fault.BookFault.{BookFault}
use Rattle.book.specs.declared.ticket.Ticket.{Ticket}
use Rattle.book.specs.Faults.{says}

-- a number, or a refusal
abbrev pub numbered : (ℕ → Reply) → Result ℕ BookFault → Reply
numbered done (Ok n) = done n
numbered done (Err f) = refused (says f)

abbrev pub reply_submit : Result Ticket BookFault → Reply
reply_submit (Ok t) = opened t.number
reply_submit (Err f) = refused (says f)

abbrev pub reply_file : Result ℕ (BookFault × Ticket) → Reply
reply_file (Ok n) = filed n
reply_file (Err f) = refused (says f.0)

abbrev pub reply_dismiss : Result (Unit {0}) (BookFault × Ticket) → Reply
reply_dismiss (Ok n) = dismissed
reply_dismiss (Err f) = refused (says f.0)

abbrev pub reply_withdraw : Result ℕ BookFault → Reply
reply_withdraw r = numbered withdrawn r

abbrev pub reply_show : Result ℕ BookFault → Reply
reply_show r = numbered shown r

abbrev pub reply_line : Result ℕ BookFault → Reply
reply_line r = numbered lined r

abbrev pub reply_derive : Result ℕ BookFault → Reply
reply_derive r = numbered derived r

abbrev pub reply_check : Result (Unit {0}) BookFault → Reply
reply_check (Ok n) = passed
reply_check (Err f) = refused (says f)

-- the ticket comes back as it was in a refusal
abbrev pub ComesBack : {X : Type 0} → Ticket → Result X (BookFault × Ticket) → Type 0
ComesBack t (Ok n) = Unit {0}
ComesBack t (Err f) = f.1 ≡ t

-- a ticket that is handed out is not spent yet
abbrev pub Unspent : Result Ticket BookFault → Type 0
Unspent (Ok t) = t.spent ≡ false
Unspent (Err f) = Unit {0}

-- whether a candidate is open
abbrev pub has_candidate : {C : Type 0} → Book C → Bool
has_candidate b = is_held (view b.table).candidate

-- a ticket is spent where a candidate was open, and comes back where none was
abbrev pub WhereOpen : {X : Type 0} → Bool → Result X (BookFault × Ticket) → Type 0
WhereOpen was-open (Ok n) = was-open ≡ true
WhereOpen was-open (Err f) = was-open ≡ false

-- where a formula was taken up, a candidate is open
abbrev pub Opens : {X : Type 0} → Bool → Result X BookFault → Type 0
Opens is_open (Ok x) = is_open ≡ true
Opens is_open (Err f) = Unit {0}

-- a refusal leaves the book as it was
abbrev pub RefusalKeeps : {X E B : Type 0} → Result X E → B → B → Type 0
RefusalKeeps (Ok x) before after = Unit {0}
RefusalKeeps (Err e) before after = after ≡ before
