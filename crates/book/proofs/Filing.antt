-- Filing, dismissing and withdrawing are answered as by the ledger.
use Rattle.std.proofs.Common.{◌≡◌, ℕ, ◌+◌, ◌-◌, ◌<◌, true, false, List, [], ◌∷◌, ◌++◌, map, length, take, None, Option, sym, refl, ap, ◌∙◌, subst, arith, length-append}
use Rattle.std.proofs.lemmas.List.{length-map, map-append, take_at}
use Rattle.catalogue.specs.Entries.{Entry}
use Rattle.table.specs.Rows as table
use Rattle.table.specs.View.{View, is_held, held, filed, dismissed, withdrawn}
use Rattle.ledger.specs.Ledger.{Row, Ledger}
use Rattle.ledger.specs.Calls as calls
use Rattle.ledger.specs.Looking.{refused_by_book}
use Rattle.ledger.specs.Steps.{Step, not_filed, is_filed, not_dismissed, is_dismissed, candidate_open, nothing_filed, is_withdrawn}
use Rattle.book.specs.Standing.{shown_row, shown_if, Stands, Next, Answers}
use Rattle.book.proofs.Standing.{count_is, is_free, is_open}

-- a list that has an element has a last one
record Last {A : Type 0} (xs : List A) : Type 0 where
  first : List A
  last : A
  is : xs ≡ first ++ (last ∷ [])

last_of : {A : Type 0} (x : A) (xs : List A) → Last (x ∷ xs)
last_of x [] = record { first = []; last = x; is = refl }
last_of x (y ∷ ys) = let p = last_of y ys in record { first = x ∷ p.first; last = p.last; is = ap (λ (zs : List _). x ∷ zs) p.is }

last_if : {A : Type 0} (xs : List A) → 0 < length xs → Last xs
last_if [] h = absurd (omega arith)
last_if (x ∷ xs) h = last_of x xs

none_left : {A : Type 0} (xs : List A) → length xs ≡ 0 → xs ≡ []
none_left [] h = refl
none_left (x ∷ xs) h = absurd (omega arith)

module _ (es : List Entry) (v : View) where
  -- the ledger stays as it is
  stays : (l : Ledger) → Stands es v l → {c : calls.Call} {r : calls.Reply} → Step es l c r l → Next es l c r v
  stays l s step = record { ledger = l; step = step; shows = s.shows }

  pub file_refused : is_held v.candidate ≡ false → Answers es v calls.file (refused_by_book 60) v
  file_refused h l s = stays l s (not_filed (is_free v l s.shows h))

  pub file_answers : is_held v.candidate ≡ true → Answers es v calls.file (calls.filed (length v.rows)) (filed v)
  file_answers h l s =
      let o = is_open v l s.shows h in
      let after : Ledger = record { rows = l.rows ++ (o.row ∷ []); candidate = None } in
      let rows : map shown_row l.rows ++ held (shown_if l.candidate) ≡ map shown_row (l.rows ++ (o.row ∷ [])) = (
      ap (λ (x : Option Row). map shown_row l.rows ++ held (shown_if x)) o.is ∙ sym (map-append shown_row l.rows (o.row ∷ []))) in
      record {
        ledger = after;
        step = subst (λ (n : ℕ). Step es l calls.file (calls.filed n) after) (sym (count_is v l s.shows)) (is_filed o.is);
        shows = ap filed s.shows ∙ ap (λ (rs : List table.Row). record { rows = rs; candidate = None }) rows;
      }

  pub dismiss_refused : is_held v.candidate ≡ false → Answers es v calls.dismiss (refused_by_book 60) v
  dismiss_refused h l s = stays l s (not_dismissed (is_free v l s.shows h))

  pub dismiss_answers : is_held v.candidate ≡ true → Answers es v calls.dismiss calls.dismissed (dismissed v)
  dismiss_answers h l s =
      let o = is_open v l s.shows h in
      record { ledger = record { rows = l.rows; candidate = None }; step = is_dismissed o.is; shows = ap dismissed s.shows }

  pub withdraw_busy : is_held v.candidate ≡ true → Answers es v calls.withdraw (refused_by_book 62) v
  withdraw_busy h l s = stays l s (candidate_open (is_open v l s.shows h).is)

  pub withdraw_refused : is_held v.candidate ≡ false → length v.rows ≡ 0 → Answers es v calls.withdraw (refused_by_book 63) v
  withdraw_refused h z l s = stays l s (nothing_filed (is_free v l s.shows h) (none_left l.rows (sym (count_is v l s.shows) ∙ z)))

  pub withdraw_answers : is_held v.candidate ≡ false → (n : ℕ) → n + 1 ≡ length v.rows → Answers es v calls.withdraw (calls.withdrawn n) (withdrawn v)
  withdraw_answers h n m l s =
      let count = count_is v l s.shows in
      let p = last_if l.rows (omega arith) in
      let after : Ledger = record { rows = p.first; candidate = None } in
      let size : length l.rows ≡ length p.first + 1 = ap length p.is ∙ length-append p.first (p.last ∷ []) in
      let number : length p.first ≡ n = omega arith in
      let long : length (map shown_row p.first) ≡ length v.rows - 1 = length-map p.first shown_row ∙ (omega arith) in
      let rows : v.rows ≡ map shown_row p.first ++ (shown_row p.last ∷ []) = (
      ap (λ (w : View). w.rows) s.shows ∙ ap (map shown_row) p.is ∙ map-append shown_row p.first (p.last ∷ [])) in
      let front : take (length v.rows - 1) v.rows ≡ map shown_row p.first = (
      ap (take (length v.rows - 1)) rows ∙ take_at (map shown_row p.first) (shown_row p.last ∷ []) (length v.rows - 1) long) in
      record {
        ledger = after;
        step = subst (λ (k : ℕ). Step es l calls.withdraw (calls.withdrawn k) after) number (is_withdrawn p.first p.last (is_free v l s.shows h) p.is);
        shows = ap (λ (rs : List table.Row). record { rows = rs; candidate = None }) front;
      }
