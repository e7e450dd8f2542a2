-- The rows of a book's table as those of a ledger.
use Rattle.std.specs.Prelude.{◌≡◌, List, map, Some, None, Option}
use Rattle.term.specs.Terms.{prefix}
use Rattle.catalogue.specs.Entries.{Entry}
use Rattle.table.specs.Rows as table
use Rattle.table.specs.View.{View}
use Rattle.ledger.specs.Ledger.{Row, Ledger}
use Rattle.ledger.specs.Fed.{AllKept}
use Rattle.ledger.specs.Calls.{Call, Reply}
use Rattle.ledger.specs.Steps.{Step}

-- what a table holds of a row: the nodes of its term, and its list
abbrev pub shown_row : Row → table.Row
shown_row r = table.row (prefix r.term) r.list

abbrev pub shown_if : Option Row → Option table.Row
shown_if None = None
shown_if (Some r) = Some (shown_row r)

abbrev pub shown : Ledger → View
shown l = record { rows = map shown_row l.rows; candidate = shown_if l.candidate }

-- the rows are those of the ledger, which keeps principal types
pub record Stands (es : List Entry) (v : View) (l : Ledger) : Type 0 where
  pub shows : v ≡ shown l
  pub kept : AllKept es l

-- after a call on the ledger l, answered with this reply, the rows are those of its next one
pub record Next (es : List Entry) (l : Ledger) (c : Call) (r : Reply) (v : View) : Type 0 where
  pub ledger : Ledger
  pub step : Step es l c r ledger
  pub shows : v ≡ shown ledger

-- whichever ledger the rows v stand for, the call is answered as by that ledger, and the rows w are those of its next one
abbrev pub Answers : List Entry → View → Call → Reply → View → Type 0
Answers es v c r w = (l : Ledger) → Stands es v l → Next es l c r w
