-- Rows have the expansions of their terms, also when one is added or taken away.
use Rattle.std.proofs.Common.{◌≡◌, ℕ, ◌-◌, ◌<◌, ◌≤◌, List, [], ◌∷◌, ◌++◌, length, get_or, Some, None, Option, sym, refl, ap, ◌∙◌, subst, ⊎_elim, arith, length-append}
use Rattle.std.proofs.lemmas.List.{append-nil, map-append, length-map, get_or_append_left, get_or-append_right}
use Rattle.std.proofs.str.Laws.{order}
use Rattle.types.specs.declared.TypeNode.{TypeNode}
use Rattle.term.specs.Terms.{Term}
use Rattle.theory.specs.Closed.{Below}
use Rattle.theory.specs.Expansion.{expand}
use Rattle.theory.proofs.Expansions.{expansions_last, below_more}
use Rattle.ledger.specs.Ledger.{Row, no_row, expansions, held, row_of, row_at}
use Rattle.ledger.specs.Submitting.{expansion_of}
use Rattle.ledger.specs.Fed.{Expanded, AllExpanded}

module _ (rows : List Row) (r : Row) where
  -- a term over the first rows
  longer : (t : Term) → Below (length rows) t → expansion_of (rows ++ (r ∷ [])) t ≡ expansion_of rows t
  longer t h =
      ap (λ (xs : List Term). expand xs t) (map-append (λ (r : Row). r.expansion) rows (r ∷ []))
      ∙ expansions_last (expansions rows) (r.expansion ∷ []) t (subst (λ (k : ℕ). Below k t) (sym (length-map rows (λ (r : Row). r.expansion))) h)

  row_before : (n : ℕ) → n < length rows → row_at (rows ++ (r ∷ [])) n ≡ row_at rows n
  row_before n h = get_or_append_left rows (r ∷ []) no_row n h

  row_last : row_at (rows ++ (r ∷ [])) (length rows) ≡ r
  row_last =
      let z : length rows - length rows ≡ 0 = omega arith in
      get_or-append_right rows (r ∷ []) (length rows) (length rows) no_row refl (omega arith) ∙ ap (λ (k : ℕ). get_or (r ∷ []) k no_row) z

  pub expanded_first : AllExpanded (rows ++ (r ∷ [])) → AllExpanded rows
  expanded_first all n h =
      let e = all n (omega (arith, length-append rows (r ∷ []))) in
      let same = row_before n h in
      let below : Below n (row_at rows n).term = subst (λ (x : Row). Below n x.term) same e.below in
      record {
        below = below;
        is = ap (λ (x : Row). x.expansion) (sym same) ∙ e.is ∙ ap (λ (x : Row). expansion_of (rows ++ (r ∷ [])) x.term) same ∙ longer (row_at rows n).term (below_more (row_at rows n).term n (length rows) (omega arith) below);
      }

  expanded_older : AllExpanded rows → (n : ℕ) → n < length rows → Expanded (rows ++ (r ∷ [])) n
  expanded_older all n h =
      let e = all n h in
      let same = sym (row_before n h) in
      record {
        below = subst (λ (x : Row). Below n x.term) same e.below;
        is = ap (λ (x : Row). x.expansion) (sym same) ∙ e.is ∙ sym (longer (row_at rows n).term (below_more (row_at rows n).term n (length rows) (omega arith) e.below)) ∙ ap (λ (x : Row). expansion_of (rows ++ (r ∷ [])) x.term) same;
      }

-- a formula's row is added
pub expanded_more : (rows : List Row) (t : Term) (l : List TypeNode) → Below (length rows) t → AllExpanded rows → AllExpanded (rows ++ (row_of rows t l ∷ []))
expanded_more rows t l below all n h =
    let r : Row = row_of rows t l in
    ⊎_elim
    (λ (lt : n < length rows). expanded_older rows r all n lt)
    (λ (ge : length rows ≤ n).
    let e : length rows ≡ n = omega (arith, length-append rows (r ∷ [])) in
    let last = row_last rows r in
    subst (Expanded (rows ++ (r ∷ []))) e
    (record {
      below = subst (λ (x : Row). Below (length rows) x.term) (sym last) below;
      is = ap (λ (x : Row). x.expansion) last ∙ sym (longer rows r t below) ∙ ap (λ (x : Row). expansion_of (rows ++ (r ∷ [])) x.term) (sym last);
    }))
    (order n (length rows))

-- the filed rows, whether or not there is a candidate behind them
pub rows_expanded : (rows : List Row) (o : Option Row) → AllExpanded (rows ++ held o) → AllExpanded rows
rows_expanded rows None all = subst AllExpanded (append-nil rows) all
rows_expanded rows (Some r) all = expanded_first rows r all
