-- Where kept rows stand in the memories of a table.
use Rattle.std.specs.Prelude.{◌≡◌, ℕ, zero, suc, ◌+◌, ◌<◌, Bool, true, false, List, take, drop, slice_index_or}
use Rattle.term.specs.declared.TermNode.{TermNode}
use Rattle.types.specs.declared.TypeNode.{TypeNode}
use Rattle.table.specs.declared.entry.Entry.{Entry}
use Rattle.table.specs.declared.entry.Span.{Span}
use Rattle.table.specs.Rows.{Row, row}
use Rattle.table.specs.WellFormed.{row_passes}

abbrev pub no_span : Span
no_span = record { start = 0; length = 0 }

abbrev pub no_entry : Entry
no_entry = record { term = no_span; list = no_span }

-- n nodes from a place on
abbrev pub part : {A : Type 0} → ℕ → ℕ → List A → List A
part start n nodes = take n (drop start nodes)

abbrev pub row_at : List TermNode → List TypeNode → Entry → Row
row_at terms types e = row (part e.term.start e.term.length terms) (part e.list.start e.list.length types)

-- where an entry stands, in the one memory and in the other
abbrev pub term_span : Entry → Span
term_span e = e.term

abbrev pub list_span : Entry → Span
list_span e = e.list

abbrev pub span_end : Span → ℕ
span_end s = s.start + s.length

-- where the first k entries end
abbrev pub end_of : (Entry → Span) → List Entry → ℕ → ℕ
end_of span es zero = 0
end_of span es (suc k) = span_end (span (slice_index_or es k no_entry))

-- the entries in use: those filed, and the candidate if there is one
abbrev pub in_use : ℕ → Bool → ℕ
in_use count false = count
in_use count true = suc count

-- the first n entries lie one behind the other
abbrev pub InOrder : (Entry → Span) → List Entry → ℕ → Type 0
InOrder span es n = (k : ℕ) → k < n → (span (slice_index_or es k no_entry)).start ≡ end_of span es k

-- the first n rows may be kept
abbrev pub RowsPass : List Entry → List TermNode → List TypeNode → ℕ → Type 0
RowsPass es terms types n = (k : ℕ) → k < n → row_passes k (row_at terms types (slice_index_or es k no_entry)) ≡ true
