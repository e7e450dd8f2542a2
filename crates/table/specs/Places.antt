-- The entry of a kept row.
use Rattle.std.specs.Prelude.{◌≡◌, ℕ, ◌≤◌, List, take}
use Rattle.table.specs.declared.entry.Entry.{Entry}
use Rattle.table.specs.declared.table.Table.{Table}
use Rattle.table.specs.Entries.{row_at, in_use, span_end}
use Rattle.table.specs.View.{view, kept_row, term_nodes, list_nodes}

-- the entries of all rows: the candidate's is the last
abbrev pub entries_in_use : Table → List Entry
entries_in_use t = take (in_use t.count t.«open») t.entries

-- the entry says where the row k of the table stands, if there is one, and that is within the memories
pub record Places (t : Table) (k : ℕ) (e : Entry) : Type 0 where
  pub stands : kept_row (view t) k ≡ row_at t.terms t.types e
  pub terms_fit : span_end e.term ≤ 4096
  pub lists_fit : span_end e.list ≤ 4096

-- the nodes of all rows end where the entry ends
pub record Ends (t : Table) (e : Entry) : Type 0 where
  pub terms_end : span_end e.term ≡ term_nodes (view t)
  pub lists_end : span_end e.list ≡ list_nodes (view t)
  pub terms_fit : span_end e.term ≤ 4096
  pub lists_fit : span_end e.list ≤ 4096
