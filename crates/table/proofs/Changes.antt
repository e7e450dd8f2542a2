-- What the changes of a table leave: the invariant, and the rows.
use Rattle.std.proofs.Common.{◌≡◌, ℕ, suc, ◌+◌, ◌-◌, ◌<◌, ◌≤◌, Bool, true, false, ◌≢◌, List, map, length, get_or, take, set, None, Option, sym, refl, ap, ◌∙◌, subst, ap₂, ⊎_elim, arith, length-set}
use Rattle.std.proofs.lemmas.List.{get_or-set_same, get_or-set_other, take-map, take-take}
use Rattle.std.proofs.lemmas.Bool.{cases_eq}
use Rattle.std.proofs.lemmas.List.Edits.{length-paste}
use Rattle.term.specs.declared.TermNode.{TermNode}
use Rattle.types.specs.declared.TypeNode.{TypeNode}
use Rattle.std.specs.Bool.{then_some}
use Rattle.table.specs.declared.entry.Entry.{Entry}
use Rattle.table.specs.declared.entry.Span.{Span}
use Rattle.table.specs.declared.table.Table.{Table}
use Rattle.table.specs.Rows.{Row, row, Proper}
use Rattle.table.specs.WellFormed.{row_passes}
use Rattle.table.specs.Entries.{no_entry, part, row_at, in_use, span_end, end_of, InOrder, RowsPass, term_span, list_span}
use Rattle.table.specs.Nodes.{Written}
use Rattle.table.specs.View.{view, is_held, term_nodes, list_nodes, with_candidate, filed, withdrawn}
use Rattle.table.specs.Filed.{rows_long}
use Rattle.table.proofs.Ends.{part_before, part_written, ends_rise, entry_within, fewer_in_order, order_set, end_added, rows_alike}
use Rattle.table.proofs.Passing.{proper_row}
use Rattle.table.proofs.Views.{held_if, kept_is, term_nodes_end, list_nodes_end}

-- what a table owes for n rows
pub record Invariant (es : List Entry) (terms : List TermNode) (types : List TypeNode) (n : ℕ) : Type 0 where
  pub entries_long : length es ≡ 128
  pub terms_long : length terms ≡ 4096
  pub types_long : length types ≡ 4096
  pub few : n ≤ 128
  pub terms_order : InOrder term_span es n
  pub lists_order : InOrder list_span es n
  pub terms_within : end_of term_span es n ≤ 4096
  pub lists_within : end_of list_span es n ≤ 4096
  pub rows_pass : RowsPass es terms types n

pub fewer_rows : (t : Table) (m : ℕ) → m ≤ in_use t.count t.«open» → Invariant t.entries t.terms t.types m
fewer_rows t m h =
    let n : ℕ = in_use t.count t.«open» in
    record {
      entries_long = t.entries_long;
      terms_long = t.terms_long;
      types_long = t.types_long;
      few = omega (arith, t.few);
      terms_order = fewer_in_order term_span t.entries n m h t.terms_order;
      lists_order = fewer_in_order list_span t.entries n m h t.lists_order;
      terms_within = omega (arith, ends_rise term_span t.entries n t.terms_order m h, t.terms_within);
      lists_within = omega (arith, ends_rise list_span t.entries n t.lists_order m h, t.lists_within);
      rows_pass = λ k lt. t.rows_pass k (omega arith);
    }

-- one column of a candidate: its nodes are written behind those of the first n rows
record Column {A : Type 0} (span : Entry → Span) (es : List Entry) (n : ℕ) (e : Entry) (nodes was now : List A) (start : ℕ) : Type 0 where
  within : n < length es
  order : InOrder span es n
  ends : start ≡ end_of span es n
  room : start + length nodes ≤ length was
  put : Written nodes was now start (span e)

module _ {A : Type 0} {span : Entry → Span} {es : List Entry} {n : ℕ} {e : Entry} {nodes was now : List A} {start : ℕ} (c : Column span es n e nodes was now start) where
  now_long : length now ≡ length was
  now_long = ap length c.put.written ∙ length-paste was start nodes (length nodes) c.room (omega arith)

  order_put : InOrder span (set es n e) (suc n)
  order_put = order_set span es n e c.within c.order (ap (λ (s : Span). s.start) c.put.stands ∙ c.ends)

  end_put : end_of span (set es n e) (suc n) ≡ start + length nodes
  end_put = end_added span es n e c.within ∙ ap span_end c.put.stands

  part_stays : (k : ℕ) → k < n → part (span (get_or es k no_entry)).start (span (get_or es k no_entry)).length now ≡ part (span (get_or es k no_entry)).start (span (get_or es k no_entry)).length was
  part_stays k h =
      let s : Span = span (get_or es k no_entry) in
      ap (part s.start s.length) c.put.written ∙ part_before s.start s.length start (length nodes) was nodes (omega (arith, entry_within span es n c.order k h, c.ends)) (omega (arith, c.room))

  part_put : part (span e).start (span e).length now ≡ nodes
  part_put = ap (λ (s : Span). part s.start s.length now) c.put.stands ∙ ap (part start (length nodes)) c.put.written ∙ part_written start (length nodes) was nodes (omega (arith, c.room)) refl

-- a candidate behind all rows
module _ (t : Table) (term : List TermNode) (list : List TypeNode) (terms : List TermNode) (types : List TypeNode) (e : Entry) (s u : ℕ)
    (free : is_held (view t).candidate ≡ false) (few : length (view t).rows < 128)
    (room_s : term_nodes (view t) + length term ≤ 4096) (room_u : list_nodes (view t) + length list ≤ 4096)
    (proper : Proper (length (view t).rows) (row term list))
    (at_s : s ≡ term_nodes (view t)) (at_u : u ≡ list_nodes (view t))
    (put_s : Written term t.terms terms s e.term) (put_u : Written list t.types types u e.list) where
  abbrev new_entries : List Entry
  new_entries = set t.entries t.count e

  none_open : in_use t.count t.«open» ≡ t.count
  none_open = ap (in_use t.count) (sym (held_if t.«open» (row_at t.terms t.types (get_or t.entries t.count no_entry))) ∙ free)

  within : t.count < length t.entries
  within = omega (arith, rows_long t, few, t.entries_long)

  term_column : Column term_span t.entries t.count e term t.terms terms s
  term_column =
      record {
        within = within;
        order = subst (InOrder term_span t.entries) none_open t.terms_order;
        ends = at_s ∙ term_nodes_end t ∙ ap (end_of term_span t.entries) none_open;
        room = omega (arith, at_s, room_s, t.terms_long);
        put = put_s;
      }

  list_column : Column list_span t.entries t.count e list t.types types u
  list_column =
      record {
        within = within;
        order = subst (InOrder list_span t.entries) none_open t.lists_order;
        ends = at_u ∙ list_nodes_end t ∙ ap (end_of list_span t.entries) none_open;
        room = omega (arith, at_u, room_u, t.types_long);
        put = put_u;
      }

  -- the rows before it stay
  row_stays : (k : ℕ) → k < t.count → row_at terms types (get_or new_entries k no_entry) ≡ row_at t.terms t.types (get_or t.entries k no_entry)
  row_stays k h =
      let ne : k ≢ t.count = omega arith in
      ap (row_at terms types) (get_or-set_other t.entries t.count k e no_entry ne) ∙ ap₂ row (part_stays term_column k h) (part_stays list_column k h)

  row_new : row_at terms types (get_or new_entries t.count no_entry) ≡ row term list
  row_new = ap (row_at terms types) (get_or-set_same t.entries t.count e no_entry within) ∙ ap₂ row (part_put term_column) (part_put list_column)

  rows_pass : RowsPass new_entries terms types (suc t.count)
  rows_pass k h =
      ⊎_elim
      (λ (q : k ≡ t.count).
      subst (λ (m : ℕ). row_passes m (row_at terms types (get_or new_entries m no_entry)) ≡ true) (sym q)
      (ap (row_passes t.count) row_new ∙ proper_row t.count (row term list) (subst (λ (m : ℕ). Proper m (row term list)) (rows_long t) proper)))
      (λ (ne : k ≢ t.count).
      (let lt : k < t.count = omega arith in
      ap (row_passes k) (row_stays k lt) ∙ t.rows_pass k (omega (arith, none_open))))
      (cases_eq k t.count)

  pub put_invariant : Invariant new_entries terms types (suc t.count)
  put_invariant =
      record {
        entries_long = length-set t.entries t.count e ∙ t.entries_long;
        terms_long = now_long term_column ∙ t.terms_long;
        types_long = now_long list_column ∙ t.types_long;
        few = omega (arith, within, t.entries_long);
        terms_order = order_put term_column;
        lists_order = order_put list_column;
        terms_within = omega (arith, end_put term_column, at_s, room_s);
        lists_within = omega (arith, end_put list_column, at_u, room_u);
        rows_pass = rows_pass;
      }

  pub put_view : record { rows = map (row_at terms types) (take t.count new_entries); candidate = then_some true (row_at terms types (get_or new_entries t.count no_entry)) } ≡ with_candidate (view t) (row term list)
  put_view =
      ap₂ (λ (rs : List Row) (r : Row). record { rows = rs; candidate = then_some true r })
      (rows_alike (row_at terms types) (row_at t.terms t.types) new_entries t.entries t.count (omega (arith, length-set t.entries t.count e, within)) (omega (arith, within)) row_stays)
      row_new

module _ (t : Table) where
  pub filed_view : (n : ℕ) → n ≡ in_use t.count t.«open» → record { rows = map (row_at t.terms t.types) (take n t.entries); candidate = None } ≡ filed (view t)
  filed_view n e =
      ap (λ (rs : List Row). record { rows = rs; candidate = None }) (ap (λ (m : ℕ). map (row_at t.terms t.types) (take m t.entries)) e ∙ sym (kept_is t))

  pub withdrawn_view : (m : ℕ) → m ≡ t.count - 1 → is_held (view t).candidate ≡ false → record { rows = map (row_at t.terms t.types) (take m t.entries); candidate = then_some t.«open» (row_at t.terms t.types (get_or t.entries m no_entry)) } ≡ withdrawn (view t)
  withdrawn_view m e free =
      let long = rows_long t in
      let last : m ≡ length (view t).rows - 1 = omega arith in
      ap₂ (λ (rs : List Row) (o : Option Row). record { rows = rs; candidate = o })
      (ap (map (row_at t.terms t.types)) (sym (take-take m t.count t.entries (omega arith)))
      ∙ sym (take-map (row_at t.terms t.types) m (take t.count t.entries))
      ∙ ap (λ (n : ℕ). take n (view t).rows) last)
      (ap (λ (b : Bool). then_some b (row_at t.terms t.types (get_or t.entries m no_entry))) (sym (held_if t.«open» (row_at t.terms t.types (get_or t.entries t.count no_entry))) ∙ free))

pub fewer_in_use : (n m : ℕ) (b : Bool) → m ≤ n → in_use m b ≤ in_use n b
fewer_in_use n m true h = omega arith
fewer_in_use n m false h = h
