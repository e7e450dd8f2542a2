-- The rows of a table by its entries.
use Rattle.std.proofs.Common.{◌≡◌, ℕ, suc, ◌+◌, ◌-◌, ◌<◌, ◌≤◌, Bool, true, false, List, ◌++◌, map, length, get_or, slice_get, unwrap_or, take, sym, refl, ap, ◌∙◌, subst, arith}
use Rattle.std.proofs.Math.ListN.{get_or-map}
use Rattle.std.proofs.lemmas.List.{append-nil, length-map, length-take-le, map_more, get_or-take}
use Rattle.std.proofs.lemmas.Grind.{common_steps}
use Rattle.std.proofs.lemmas.Option.{unwrap_or-slice_get}
use Rattle.std.specs.Bool.{then_some}
use Rattle.table.specs.declared.entry.Entry.{Entry}
use Rattle.table.specs.declared.entry.Span.{Span}
use Rattle.table.specs.declared.table.Table.{Table}
use Rattle.table.specs.Rows.{Row, no_row, Proper}
use Rattle.table.specs.Entries.{no_entry, no_span, row_at, in_use, span_end, end_of, InOrder, term_span, list_span}
use Rattle.table.specs.View.{view, held, is_held, kept, kept_row, total, term_nodes, list_nodes, AllProper}
use Rattle.table.specs.Places.{entries_in_use, Ends, Places}
use Rattle.table.specs.Filed.{filed_list, filed_lawful}
use Rattle.table.proofs.Ends.{entry_within, entries_end, total_ends}
use Rattle.table.proofs.Passing.{row_proper}

rows_and_candidate : (f : Entry → Row) (es : List Entry) (n : ℕ) (b : Bool) → in_use n b ≤ length es → map f (take n es) ++ held (then_some b (f (get_or es n no_entry))) ≡ map f (take (in_use n b) es)
rows_and_candidate f es n false h = append-nil (map f (take n es))
rows_and_candidate f es n true h = let e : n + 1 ≡ suc n = omega arith in sym (map_more f es n no_entry h) ∙ ap (λ (m : ℕ). map f (take m es)) e

pub held_if : (b : Bool) (r : Row) → is_held (then_some b r) ≡ b
held_if true r = refl
held_if false r = refl

module _ (t : Table) where
  abbrev all : ℕ
  all = in_use t.count t.«open»

  enough : all ≤ length t.entries
  enough = omega (arith, t.few, t.entries_long)

  pub in_use_long : length (entries_in_use t) ≡ all
  in_use_long = length-take-le all t.entries enough

  pub kept_is : kept (view t) ≡ map (row_at t.terms t.types) (entries_in_use t)
  kept_is = rows_and_candidate (row_at t.terms t.types) t.entries t.count t.«open» enough

  pub kept_long : length (kept (view t)) ≡ all
  kept_long = ap length kept_is ∙ length-map (entries_in_use t) (row_at t.terms t.types) ∙ in_use_long

  -- row k stands where its entry says; where there is no row, both are empty
  kept_at : (k : ℕ) → kept_row (view t) k ≡ row_at t.terms t.types (get_or (entries_in_use t) k no_entry)
  kept_at k = ap (λ (rs : List Row). get_or rs k no_row) kept_is ∙ get_or-map (row_at t.terms t.types) (entries_in_use t) k no_entry

  module _ (span : Entry → Span) (order : InOrder span t.entries all) (within : end_of span t.entries all ≤ 4096) where
    entry_fits : (k : ℕ) → k < all → span_end (span (get_or t.entries k no_entry)) ≤ 4096
    entry_fits k h = omega (arith, entry_within span t.entries all order k h, within)

    span_fits : span no_entry ≡ no_span → (k : ℕ) → span_end (span (get_or (entries_in_use t) k no_entry)) ≤ 4096
    span_fits none k = grind (arith, common_steps, entry_fits k, in_use_long, ap span_end none)

    -- the nodes of all rows end where the last entry ends
    nodes_end : (f : Row → ℕ) → ((k : ℕ) → k < all → f (row_at t.terms t.types (get_or t.entries k no_entry)) ≡ (span (get_or t.entries k no_entry)).length) → total f (kept (view t)) ≡ end_of span t.entries all
    nodes_end f each = ap (total f) kept_is ∙ total_ends span f (row_at t.terms t.types) t.entries all enough order each

  pub term_nodes_end : term_nodes (view t) ≡ end_of term_span t.entries all
  term_nodes_end =
      nodes_end term_span t.terms_order t.terms_within (λ r. length r.term)
      (λ k h. (let fits = entry_fits term_span t.terms_order t.terms_within k h in let long = t.terms_long in grind (arith, common_steps)))

  pub list_nodes_end : list_nodes (view t) ≡ end_of list_span t.entries all
  list_nodes_end =
      nodes_end list_span t.lists_order t.lists_within (λ r. length r.list)
      (λ k h. (let fits = entry_fits list_span t.lists_order t.lists_within k h in let long = t.types_long in grind (arith, common_steps)))

  -- the last entry ends where all rows end, and where there are no rows the empty one does
  pub ends_last : Ends t (unwrap_or (slice_get (entries_in_use t) (length (entries_in_use t) - 1)) no_entry)
  ends_last =
      let last : ℕ = length (entries_in_use t) - 1 in
      let at : last ≡ all - 1 = ap (λ (n : ℕ). n - 1) in_use_long in
      let ends : (span : Entry → Span) → span no_entry ≡ no_span → span_end (span (get_or (entries_in_use t) last no_entry)) ≡ end_of span t.entries all =
      λ span none. ap (λ (k : ℕ). span_end (span (get_or (entries_in_use t) k no_entry))) at ∙ entries_end span none t.entries all in
      rw unwrap_or-slice_get record {
        terms_end = ends term_span refl ∙ sym term_nodes_end;
        lists_end = ends list_span refl ∙ sym list_nodes_end;
        terms_fit = span_fits term_span t.terms_order t.terms_within refl last;
        lists_fit = span_fits list_span t.lists_order t.lists_within refl last;
      }

  pub places_at : (k : ℕ) → Places t k (get_or (entries_in_use t) k no_entry)
  places_at k = record { stands = kept_at k; terms_fit = span_fits term_span t.terms_order t.terms_within refl k; lists_fit = span_fits list_span t.lists_order t.lists_within refl k }

  -- each row may be kept
  pub all_proper : AllProper (view t)
  all_proper k h =
      let lt : k < all = omega (arith, kept_long) in
      let is = kept_at k ∙ ap (row_at t.terms t.types) (get_or-take all t.entries k no_entry lt) in
      subst (Proper k) (sym is) (row_proper k (row_at t.terms t.types (get_or t.entries k no_entry)) (t.rows_pass k lt))

  pub filed_few : (k : ℕ) → length (filed_list t k) ≤ 4096
  filed_few k = grind (arith, filed_lawful t k)
