-- What a book's calls are given to write in, and what they leave there.
use Rattle.std.specs.Prelude.{◌≡◌, ℕ, ◌≤◌, Bool, true, false, List, length, replicate, Ok, Err, Result, slice_index_or}
use Rattle.refusal.specs.Saying.{saying}
use Rattle.refusal.specs.declared.Layer.TheVariants as layer
use Rattle.refusal.specs.declared.Refusal.{Refusal}
use Rattle.types.specs.declared.TypeNode.{TypeNode}
use Rattle.types.specs.Lists.{zero_node as no_type_node}
use Rattle.term.specs.declared.TermNode.{TermNode}
use Rattle.term.specs.Terms.{zero_node as no_term_node}
use Rattle.copy.specs.Instances.{Lists}
use Rattle.table.specs.Rows.{no_row}
use Rattle.table.specs.View.{View, kept_row}
use Rattle.derivation_check.specs.Checking.{Refuses}
use Rattle.typer.specs.Derivations.{Underived}
use Rattle.lines.specs.Lines.{filed_line, refused_line}
use Rattle.ledger.specs.Calls.{Submission, Outcome}
use Rattle.book.specs.declared.fault.BookFault.{BookFault}
use Rattle.book.specs.declared.fault.BookFault.TheVariants.{Busy, Full, TooManyBytes, Formula, Types, NoTermSpace, NoListSpace, NoCandidate, CandidateOpen, NothingFiled, NotFiled, TooLong, NoLineRoom, Derivation, Check}
use Rattle.book.specs.Faults.{says}

-- the lists kept for the filed rows, by number
abbrev pub kept_lists : View → Lists
kept_lists v k = (slice_index_or v.rows k no_row).list

-- what became of a formula, as the ledger says it
abbrev pub outcome_of : Result ℕ BookFault → Outcome
outcome_of (Ok n) = Ok n
outcome_of (Err f) = Err (says f)

-- the line of an outcome
abbrev pub outcome_line : View → Result ℕ BookFault → List ℕ
outcome_line v (Ok n) = filed_line n (kept_row v n).list
outcome_line v (Err f) = refused_line (says f)

-- A derivation stands in the memories, or else they are as they were; but for a row without a type, which no book that
-- came by its dealings has.
pub data NotDerived (E K : Lists) (v : View) (n : ℕ) (types types' : List TypeNode) (places places' numbers numbers' : List ℕ) : Refusal → Type 0 where
  not_filed : length v.rows ≤ n → types' ≡ types → places' ≡ places → numbers' ≡ numbers → NotDerived E K v n types types' places places' numbers numbers' (saying 70 layer.Book 0)
  underived : {r : Refusal} → Underived E K (kept_row v n).term types types' places places' numbers numbers' r → NotDerived E K v n types types' places places' numbers numbers' r

-- A formula that is not filed has no derivation to be checked; else the first question that the derivation answers with no.
pub data NotChecked (E K : Lists) (v : View) (n : ℕ) (list : List TypeNode) (places : List ℕ) : Refusal → Type 0 where
  not_filed : length v.rows ≤ n → NotChecked E K v n list places (saying 70 layer.Book 0)
  unsound : {r : Refusal} → Refuses E K (kept_row v n).term list places r → NotChecked E K v n list places r

-- the questions before the text is read
abbrev pub unread : BookFault → Bool
unread Busy = true
unread Full = true
unread TooManyBytes = true
unread (Formula f) = false
unread (Types f) = false
unread NoTermSpace = false
unread NoListSpace = false
unread NoCandidate = false
unread CandidateOpen = false
unread NothingFiled = false
unread NotFiled = false
unread TooLong = false
unread NoLineRoom = false
unread (Derivation f) = false
unread (Check f) = false

-- whether the work memories were left as they were
abbrev pub untouched : {X : Type 0} → Result X BookFault → Bool
untouched (Ok x) = false
untouched (Err f) = unread f

-- a memory as it was, or with zeros over its whole length
abbrev pub Left : {A : Type 0} → A → Bool → List A → List A → Type 0
Left zero true before after = after ≡ before
Left zero false before after = after ≡ replicate (length before) zero

-- what a submit leaves in its three memories: after a refusal of one of the first three questions they are as they were,
-- after any other reply they hold zeros
pub record Leaves (same : Bool) (terms terms' : List TermNode) (types types' : List TypeNode) (numbers numbers' : List ℕ) : Type 0 where
  pub terms_left : Left no_term_node same terms terms'
  pub types_left : Left no_type_node same types types'
  pub numbers_left : Left 0 same numbers numbers'

abbrev pub submission : List ℕ → List TermNode → List TypeNode → List ℕ → Submission
submission text terms types numbers = record { text = text; terms = length terms; types = length types; numbers = length numbers }
