-- A table seen as filed rows and a candidate.
use Rattle.std.specs.Prelude.{ℕ, ◌+◌, ◌-◌, ◌<◌, Bool, List, [], ◌∷◌, ◌++◌, map, length, take, Some, None, Option, is_some, slice_index_or}
use Rattle.std.specs.Bool.{then_some}
use Rattle.std.specs.Option.{option_to_list}
use Rattle.table.specs.declared.table.Table.{Table}
use Rattle.table.specs.Rows.{Row, no_row, Proper}
use Rattle.table.specs.Entries.{no_entry, row_at}

pub record View : Type 0 where
  pub rows : List Row
  pub candidate : Option Row

abbrev pub view : Table → View
view t =
    record {
      rows = map (row_at t.terms t.types) (take t.count t.entries);
      candidate = then_some t.«open» (row_at t.terms t.types (slice_index_or t.entries t.count no_entry));
    }

abbrev pub held : Option Row → List Row
held o = option_to_list o

abbrev pub is_held : Option Row → Bool
is_held o = is_some o

-- all rows by number: those filed, and behind them the candidate
abbrev pub kept : View → List Row
kept v = v.rows ++ held v.candidate

abbrev pub kept_row : View → ℕ → Row
kept_row v k = slice_index_or (kept v) k no_row

-- the nodes of all rows together
abbrev pub total : (Row → ℕ) → List Row → ℕ
total f [] = 0
total f (r ∷ rs) = f r + total f rs

abbrev pub term_nodes : View → ℕ
term_nodes v = total (λ r. length r.term) (kept v)

abbrev pub list_nodes : View → ℕ
list_nodes v = total (λ r. length r.list) (kept v)

-- each row may be kept under its number
abbrev pub AllProper : View → Type 0
AllProper v = (k : ℕ) → k < length (kept v) → Proper k (kept_row v k)

abbrev pub empty : View
empty = record { rows = []; candidate = None }

-- a candidate is put, filed, dismissed; the last row is withdrawn
abbrev pub with_candidate : View → Row → View
with_candidate v r = record { rows = v.rows; candidate = Some r }

abbrev pub filed : View → View
filed v = record { rows = v.rows ++ held v.candidate; candidate = None }

abbrev pub dismissed : View → View
dismissed v = record { rows = v.rows; candidate = None }

abbrev pub withdrawn : View → View
withdrawn v = record { rows = take (length v.rows - 1) v.rows; candidate = None }
