-- What is the same of a table's rows and of the ledger that they stand for.
use Rattle.std.proofs.Common.{◌≡◌, ℕ, zero, suc, ◌+◌, ◌<◌, true, false, List, [], ◌∷◌, ◌++◌, map, length, get_or, Some, None, Option, sym, refl, ap, ◌∙◌, arith, length-append}
use mathlib.Core.Path.{fun_ext}
use Rattle.std.proofs.lemmas.List.{append-nil, length-map, map-append, get_or-map, get_or_append_left}
use Rattle.term.specs.Terms.{prefix}
use Rattle.table.specs.Rows as table
use Rattle.table.specs.View.{View, is_held, held}
use Rattle.table.specs.View as tables
use Rattle.ledger.specs.Ledger.{Row, Ledger, kept, term_nodes, type_nodes, all_rows}
use Rattle.ledger.specs.Ledger as ledgers
use Rattle.book.specs.Standing.{shown_row, shown_if, shown}
use Rattle.book.specs.Memories.{kept_lists}

pub candidate_none : (o : Option Row) → is_held (shown_if o) ≡ false → o ≡ None
candidate_none None e = refl
candidate_none (Some r) e = let z : ◌≡◌ {A = ℕ} 0 1 = cc in absurd (omega arith)

-- some row is the candidate
pub record Held (o : Option Row) : Type 0 where
  pub row : Row
  pub is : o ≡ Some row

pub candidate_some : (o : Option Row) → is_held (shown_if o) ≡ true → Held o
candidate_some None e = let z : ◌≡◌ {A = ℕ} 0 1 = cc in absurd (omega arith)
candidate_some (Some r) e = record { row = r; is = refl }

module _ (v : View) (l : Ledger) (e : v ≡ shown l) where
  pub count_is : length v.rows ≡ length l.rows
  count_is = ap (λ (w : View). length w.rows) e ∙ length-map l.rows shown_row

  pub is_free : is_held v.candidate ≡ false → l.candidate ≡ None
  is_free h = candidate_none l.candidate (sym (ap (λ (w : View). is_held w.candidate) e) ∙ h)

  pub is_open : is_held v.candidate ≡ true → Held l.candidate
  is_open h = candidate_some l.candidate (sym (ap (λ (w : View). is_held w.candidate) e) ∙ h)

  -- all rows by number, the candidate behind those filed
  pub kept_is : tables.kept v ≡ map shown_row (all_rows l)
  kept_is = ap tables.kept e ∙ held_shown l.candidate
    where
      held_shown : (o : Option Row) → map shown_row l.rows ++ held (shown_if o) ≡ map shown_row (l.rows ++ ledgers.held o)
      held_shown None = sym (map-append shown_row l.rows [])
      held_shown (Some r) = sym (map-append shown_row l.rows (r ∷ []))

  pub kept_count : length (tables.kept v) ≡ length (all_rows l)
  kept_count = ap length kept_is ∙ length-map (all_rows l) shown_row

  pub kept_row_is : (n : ℕ) → n < length (all_rows l) → tables.kept_row v n ≡ shown_row (ledgers.row_at (all_rows l) n)
  kept_row_is n h = ap (λ (rs : List table.Row). get_or rs n table.no_row) kept_is ∙ get_or-map shown_row (all_rows l) n ledgers.no_row table.no_row h

  pub filed_row_is : (n : ℕ) → n < length l.rows → tables.kept_row v n ≡ shown_row (ledgers.row_at l.rows n)
  filed_row_is n h =
      kept_row_is n (omega (arith, length-append l.rows (ledgers.held l.candidate)))
      ∙ ap shown_row (get_or_append_left l.rows (ledgers.held l.candidate) ledgers.no_row n h)

  -- the lists that references ask for
  pub lists_are : kept_lists v ≡ kept l.rows
  lists_are = ap kept_lists e ∙ fun_ext same
    where
      list_at : (rows : List Row) (n : ℕ) → (get_or (map shown_row rows) n table.no_row).list ≡ get_or (ledgers.lists rows) n []
      list_at [] n = refl
      list_at (r ∷ rs) zero = refl
      list_at (r ∷ rs) (suc n) = list_at rs n

      same : (n : ℕ) → kept_lists (shown l) n ≡ kept l.rows n
      same n = list_at l.rows n

  pub terms_count : is_held v.candidate ≡ false → tables.term_nodes v ≡ term_nodes l.rows
  terms_count h = ap (tables.total (λ r. length r.term)) (ap (λ (w : View). tables.kept w) e ∙ ap (λ (o : Option Row). map shown_row l.rows ++ held (shown_if o)) (is_free h) ∙ append-nil (map shown_row l.rows)) ∙ summed l.rows
    where
      summed : (rows : List Row) → tables.total (λ r. length r.term) (map shown_row rows) ≡ term_nodes rows
      summed [] = refl
      summed (r ∷ rs) = ap (λ (n : ℕ). length (prefix r.term) + n) (summed rs)

  pub types_count : is_held v.candidate ≡ false → tables.list_nodes v ≡ type_nodes l.rows
  types_count h = ap (tables.total (λ r. length r.list)) (ap (λ (w : View). tables.kept w) e ∙ ap (λ (o : Option Row). map shown_row l.rows ++ held (shown_if o)) (is_free h) ∙ append-nil (map shown_row l.rows)) ∙ summed l.rows
    where
      summed : (rows : List Row) → tables.total (λ r. length r.list) (map shown_row rows) ≡ type_nodes rows
      summed [] = refl
      summed (r ∷ rs) = ap (λ (n : ℕ). length r.list + n) (summed rs)
