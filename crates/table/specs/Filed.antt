-- The type lists of the filed rows by number: each that is there is lawful.
use Rattle.std.specs.Prelude.{◌≡◌, ℕ, ◌<◌, ◌≤◌, Bool, true, false, T, List, length, get_or, take, slice_index_or}
use Rattle.std.proofs.Common.{sym, ap, subst, ◌∙◌, ⊎_elim, arith}
use Rattle.std.proofs.lemmas.List.{get_or-map, get_or-take, get_or_past, length-map, length-take-le}
use Rattle.std.proofs.lemmas.Bool.{cases_lt}
use Rattle.types.specs.Lists.{Lawful}
use Rattle.types.specs.declared.TypeNode.{TypeNode}
use Rattle.types.proofs.Tested.{both_right, list_passes, passed_lawful}
use Rattle.table.specs.declared.entry.Entry.{Entry}
use Rattle.table.specs.declared.table.Table.{Table}
use Rattle.table.specs.Rows.{Row, no_row}
use Rattle.table.specs.WellFormed.{well_formed, row_passes}
use Rattle.table.specs.Entries.{no_entry, row_at, in_use}
use Rattle.table.specs.View.{view}

-- the list of filed row k, without nodes where there is no such row; the candidate is not filed
abbrev pub filed_list : Table → ℕ → List TypeNode
filed_list t k = (get_or (view t).rows k no_row).list

pub all_in_use : (count : ℕ) (held : Bool) → count ≤ in_use count held
all_in_use count true = omega arith
all_in_use count false = omega arith

module _ (t : Table) where
  pub rows_long : length (view t).rows ≡ t.count
  rows_long =
      let h = all_in_use t.count t.«open» in
      length-map (take t.count t.entries) (row_at t.terms t.types) ∙ length-take-le t.count t.entries (omega (arith, t.few, t.entries_long))

  pub filed_row : (k : ℕ) → k < t.count → slice_index_or (view t).rows k no_row ≡ row_at t.terms t.types (slice_index_or t.entries k no_entry)
  filed_row k h =
      let f : Entry → Row = row_at t.terms t.types in
      let long = rows_long in
      let same = length-map (take t.count t.entries) f in
      get_or-map f (take t.count t.entries) k no_entry no_row (omega arith) ∙ ap f (get_or-take t.count t.entries k no_entry h)

  pub filed_lawful : (k : ℕ) → 0 < length (filed_list t k) → Lawful (filed_list t k)
  filed_lawful k some =
      ⊎_elim
      (λ (h : k < t.count).
      (let r : Row = row_at t.terms t.types (slice_index_or t.entries k no_entry) in
      let more = all_in_use t.count t.«open» in
      let passes : T (row_passes k r) = subst T (sym (t.rows_pass k (omega arith))) tt in
      subst (λ (x : Row). Lawful x.list) (sym (filed_row k h)) (passed_lawful r.list (both_right (well_formed k r.term) (list_passes r.list) passes))))
      (λ (h : t.count ≤ k).
      (let long = rows_long in
      let none : length (filed_list t k) ≡ 0 = ap (λ (x : Row). length x.list) (get_or_past (view t).rows k no_row (omega arith)) in
      absurd (omega arith)))
      (cases_lt k t.count)
