-- Entries one behind the other, and the rows that they stand for.
use Rattle.std.proofs.Common.{◌≡◌, ℕ, zero, suc, ◌+◌, ◌-◌, ◌<◌, ◌≤◌, List, [], ◌∷◌, ◌++◌, map, length, get_or, take, drop, set, refl, sym, ap, ◌∙◌, arith}
use lib.Seq.{paste}
use Rattle.std.proofs.lemmas.List.{drop-take, take-append-le, map_more}
use Rattle.std.proofs.lemmas.Grind.{common_steps}
use Rattle.table.specs.declared.entry.Entry.{Entry}
use Rattle.table.specs.declared.entry.Span.{Span}
use Rattle.table.specs.Rows.{Row}
use Rattle.table.specs.Entries.{no_entry, no_span, part, span_end, end_of, InOrder}
use Rattle.table.specs.View.{total}

-- what is written behind a part leaves it
pub part_before : {A : Type 0} (start n at m : ℕ) (xs s : List A) → start + n ≤ at → at ≤ length xs → part start n (paste xs at s m) ≡ part start n xs
part_before start n at m xs s low inside = sym (drop-take start n (paste xs at s m)) ∙ ap (drop start) (grind (arith, common_steps, take-append-le)) ∙ drop-take start n xs

-- and what is written is a part
pub part_written : {A : Type 0} (at m : ℕ) (xs s : List A) → at ≤ length xs → m ≡ length s → part at m (paste xs at s m) ≡ s
part_written at m xs s inside e = grind (arith, common_steps)

module _ (span : Entry → Span) where
  pub ends_rise : (es : List Entry) (n : ℕ) → InOrder span es n → (k : ℕ) → k ≤ n → end_of span es k ≤ end_of span es n
  ends_rise es zero order zero h = omega arith
  ends_rise es zero order (suc k) h = absurd (omega arith)
  ends_rise es (suc n) order k h = grind (arith, ends_rise es n (λ j lt. order j (omega arith)) k, order n (omega arith))

  -- the last of the first n entries ends where they end, and an empty one where there is none
  pub entries_end : span no_entry ≡ no_span → (es : List Entry) (n : ℕ) → span_end (span (get_or (take n es) (n - 1) no_entry)) ≡ end_of span es n
  entries_end none es zero = ap span_end none
  entries_end none es (suc n) = grind (arith, common_steps)

  -- each entry ends within what all of them end within
  pub entry_within : (es : List Entry) (n : ℕ) → InOrder span es n → (k : ℕ) → k < n → span_end (span (get_or es k no_entry)) ≤ end_of span es n
  entry_within es n order k h = ends_rise es n order (suc k) (omega arith)

  pub fewer_in_order : (es : List Entry) (n m : ℕ) → m ≤ n → InOrder span es n → InOrder span es m
  fewer_in_order es n m h order k lt = order k (omega arith)

  -- an entry written at a place leaves the ends up to there
  end_set : (es : List Entry) (i : ℕ) (e : Entry) (k : ℕ) → k ≤ i → end_of span (set es i e) k ≡ end_of span es k
  end_set es i e zero h = refl
  end_set es i e (suc k) h = grind (arith, common_steps)

  pub order_set : (es : List Entry) (n : ℕ) (e : Entry) → n < length es → InOrder span es n → (span e).start ≡ end_of span es n → InOrder span (set es n e) (suc n)
  order_set es n e room order here k lt = grind (arith, common_steps, order, end_set es n e, here)

  pub end_added : (es : List Entry) (n : ℕ) (e : Entry) → n < length es → end_of span (set es n e) (suc n) ≡ span_end (span e)
  end_added es n e room = grind (arith, common_steps)

total_push : (f : Row → ℕ) (rs : List Row) (r : Row) → total f (rs ++ r ∷ []) ≡ total f rs + f r
total_push f [] r = omega arith
total_push f (x ∷ rs) r = omega (arith, total_push f rs r)

-- the nodes of the first n rows end where their entries end
pub total_ends : (span : Entry → Span) (f : Row → ℕ) (g : Entry → Row) (es : List Entry) (n : ℕ) → n ≤ length es → InOrder span es n → ((k : ℕ) → k < n → f (g (get_or es k no_entry)) ≡ (span (get_or es k no_entry)).length) → total f (map g (take n es)) ≡ end_of span es n
total_ends span f g es zero h order each = refl
total_ends span f g es (suc n) h order each =
    let one : suc n ≡ n + 1 = omega arith in
    rw (one, map_more g es n no_entry, total_push f) (omega (arith, total_ends span f g es n (omega arith) (λ k lt. order k (omega arith)) (λ k lt. each k (omega arith)), each n (omega arith), order n (omega arith)))

-- rows that agree one by one
pub rows_alike : (f g : Entry → Row) (es fs : List Entry) (n : ℕ) → n ≤ length es → n ≤ length fs → ((k : ℕ) → k < n → f (get_or es k no_entry) ≡ g (get_or fs k no_entry)) → map f (take n es) ≡ map g (take n fs)
rows_alike f g es fs zero he hf each = refl
rows_alike f g es fs (suc n) he hf each =
    let one : suc n ≡ n + 1 = omega arith in
    rw (one, map_more f es n no_entry, map_more g fs n no_entry) (cc (rows_alike f g es fs n (omega arith) (omega arith) (λ k h. each k (omega arith)), each n (omega arith)))
