-- The dealings that only look at the ledger: a formula's type shown, an outcome's line, a derivation made or checked.
use Rattle.std.specs.Prelude.{◌≡◌, ℕ, ◌<◌, ◌≤◌, List, length, Ok, Err, slice_index_or}
use Rattle.refusal.specs.Saying.{saying}
use Rattle.refusal.specs.declared.Layer.TheVariants as layer
use Rattle.refusal.specs.declared.Refusal.{Refusal}
use Rattle.types.specs.declared.TypeNode.{TypeNode}
use Rattle.types.specs.Types.{Ty, variable}
use Rattle.types.specs.Lists.{meaning}
use Rattle.term.specs.Terms.{Term, prefix}
use Rattle.catalogue.specs.Entries.{Entry}
use Rattle.derivation_check.specs.Checking as checking
use Rattle.infer.specs.Typing.{size}
use Rattle.lines.specs.Lines.{filed_line, refused_line, line_room}
use Rattle.normal.specs.Normal.{normal}
use Rattle.printing.specs.Text.{text}
use Rattle.printing.specs.Writing.{Prints}
use Rattle.typer.specs.Answers.{PrincipalTyping}
use Rattle.typer.specs.Derivations.{Holds, Roomless}
use Rattle.ledger.specs.Ledger.{Row, Ledger, entered, kept, all_rows, row_at}
use Rattle.ledger.specs.Calls.{Outcome, Call, show, line, derive, check, Reply, refused, shown, lined, derived, passed}
use Rattle.ledger.specs.Submitting.{need_of}

-- the text of a row's type
abbrev pub row_text : Row → List ℕ
row_text r = text (meaning r.list)

abbrev pub refused_by_book : ℕ → Reply
refused_by_book n = refused (saying n layer.Book 0)

-- the list of t's most general typing has n records
pub record Derives (es : List Entry) (rows : List Row) (t : Term) (n : ℕ) : Type 0 where
  pub nodes : List Ty
  pub long : length nodes ≡ size t
  pub principal : PrincipalTyping (entered es) (kept rows) t (λ p. slice_index_or nodes p (variable 0))
  pub count : n ≡ length (normal nodes)

-- What a look is answered. Showing a formula, filed or the open candidate: is there one of that number (70), and has its
-- printed type at most 4,096 bytes, and at most the room (71)? A line: is there room for the longest (72), and is the
-- number filed (70)? A derivation: is the number filed (70), and have the memories room (73 to 75)? A check of one: is
-- the number filed (70), and is it a derivation (80 to 84)?
pub data Looks (es : List Entry) (l : Ledger) : Call → Reply → Type 0 where
  not_shown : {n room : ℕ} → length (all_rows l) ≤ n → Looks es l (show n room) (refused_by_book 70)
  overlong : {n room : ℕ} → n < length (all_rows l) → (Prints (row_text (row_at (all_rows l) n)) room → ⊥) → Looks es l (show n room) (refused_by_book 71)
  is_shown : {n room : ℕ} → n < length (all_rows l) → Prints (row_text (row_at (all_rows l) n)) room → Looks es l (show n room) (shown (length (row_text (row_at (all_rows l) n))))
  no_line_room : {o : Outcome} {room : ℕ} → room < line_room → Looks es l (line o room) (refused_by_book 72)
  not_lined : {n room : ℕ} → line_room ≤ room → length l.rows ≤ n → Looks es l (line (Ok n) room) (refused_by_book 70)
  is_lined : {n room : ℕ} → line_room ≤ room → n < length l.rows → Looks es l (line (Ok n) room) (lined (length (filed_line n (row_at l.rows n).list)))
  refusal_lined : {f : Refusal} {room : ℕ} → line_room ≤ room → Looks es l (line (Err f) room) (lined (length (refused_line f)))
  not_derived : {n types places numbers : ℕ} → length l.rows ≤ n → Looks es l (derive n types places numbers) (refused_by_book 70)
  roomless : {n types places numbers : ℕ} {r : Refusal} → n < length l.rows → Roomless (need_of es l.rows (row_at l.rows n).term) (size (row_at l.rows n).term) types places numbers r → Looks es l (derive n types places numbers) (refused r)
  is_derived : {n types places numbers m : ℕ} → n < length l.rows → Holds (need_of es l.rows (row_at l.rows n).term) (size (row_at l.rows n).term) types places numbers → Derives es l.rows (row_at l.rows n).term m → Looks es l (derive n types places numbers) (derived m)
  not_checked : {n : ℕ} {list : List TypeNode} {places : List ℕ} → length l.rows ≤ n → Looks es l (check n list places) (refused_by_book 70)
  unsound : {n : ℕ} {list : List TypeNode} {places : List ℕ} {r : Refusal} → n < length l.rows → checking.Refuses (entered es) (kept l.rows) (prefix (row_at l.rows n).term) list places r → Looks es l (check n list places) (refused r)
  is_checked : {n : ℕ} {list : List TypeNode} {places : List ℕ} → n < length l.rows → checking.Checked (entered es) (kept l.rows) (prefix (row_at l.rows n).term) list places → Looks es l (check n list places) passed
