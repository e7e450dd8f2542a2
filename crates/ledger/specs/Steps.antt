-- One dealing: what it is answered, and what the ledger is afterwards.
use Rattle.std.specs.Prelude.{◌≡◌, List, [], ◌∷◌, ◌++◌, length, Some, None}
use Rattle.refusal.specs.declared.Refusal.{Refusal}
use Rattle.types.specs.Types.{Ty}
use Rattle.term.specs.Terms.{Term}
use Rattle.catalogue.specs.Entries.{Entry}
use Rattle.normal.specs.Normal.{normal_of}
use Rattle.ledger.specs.Ledger.{Row, Ledger, row_of}
use Rattle.ledger.specs.Calls.{Submission, Call, submit, file, dismiss, withdraw, Reply, refused, opened, filed, dismissed, withdrawn}
use Rattle.ledger.specs.Submitting.{Unsubmitted, Submitted}
use Rattle.ledger.specs.Looking.{Looks, refused_by_book}

-- Submit makes the new row the candidate, file adds that as the last row, dismiss drops it, withdraw drops the last row:
-- is a candidate open (60), is none open (62), is a formula filed (63)? What is refused, and every look, changes nothing.
pub data Step (es : List Entry) (l : Ledger) : Call → Reply → Ledger → Type 0 where
  unsubmitted : {s : Submission} {r : Refusal} → Unsubmitted es l s r → Step es l (submit s) (refused r) l
  submitted : {s : Submission} {t : Term} {τ : Ty} → Submitted es l s t τ → Step es l (submit s) (opened (length l.rows)) (record { rows = l.rows; candidate = Some (row_of l.rows t (normal_of τ)) })
  not_filed : l.candidate ≡ None → Step es l file (refused_by_book 60) l
  is_filed : {r : Row} → l.candidate ≡ Some r → Step es l file (filed (length l.rows)) (record { rows = l.rows ++ (r ∷ []); candidate = None })
  not_dismissed : l.candidate ≡ None → Step es l dismiss (refused_by_book 60) l
  is_dismissed : {r : Row} → l.candidate ≡ Some r → Step es l dismiss dismissed (record { rows = l.rows; candidate = None })
  candidate_open : {r : Row} → l.candidate ≡ Some r → Step es l withdraw (refused_by_book 62) l
  nothing_filed : l.candidate ≡ None → l.rows ≡ [] → Step es l withdraw (refused_by_book 63) l
  is_withdrawn : (rows : List Row) (r : Row) → l.candidate ≡ None → l.rows ≡ rows ++ (r ∷ []) → Step es l withdraw (withdrawn (length rows)) (record { rows = rows; candidate = None })
  is_looked_at : {c : Call} {r : Reply} → Looks es l c r → Step es l c r l
