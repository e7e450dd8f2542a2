-- Looks at a book are answered as by the ledger.
use Rattle.std.proofs.Common.{◌≡◌, ℕ, ◌<◌, ◌≤◌, Bool, true, false, List, length, Decides, sym, ap, ◌∙◌, subst, ⊎_elim, arith}
use Rattle.std.proofs.str.Laws.{order}
use Rattle.refusal.specs.declared.Refusal.{Refusal}
use Rattle.types.specs.declared.TypeNode.{TypeNode}
use Rattle.types.specs.Lists.{meaning}
use Rattle.term.specs.declared.TermNode.{TermNode}
use Rattle.term.specs.Terms.{prefix}
use Rattle.catalogue.specs.Entries.{Entry}
use Rattle.copy.specs.Instances.{Lists}
use Rattle.derivation_check.specs.Checking.{Checked, Refuses}
use Rattle.printing.specs.Text.{text}
use Rattle.printing.specs.Writing.{Prints}
use Rattle.table.specs.Rows as table
use Rattle.table.specs.View.{View, kept, kept_row}
use Rattle.ledger.specs.Ledger.{Ledger, entered, all_rows, row_at}
use Rattle.ledger.specs.Ledger as ledgers
use Rattle.ledger.specs.Calls as calls
use Rattle.ledger.specs.Looking.{Looks, row_text, refused_by_book, not_shown, overlong, is_shown, not_checked, unsound, is_checked}
use Rattle.ledger.specs.Steps.{is_looked_at}
use Rattle.book.specs.Standing.{Stands, Next, Answers}
use Rattle.book.specs.Memories.{kept_lists}
use Rattle.book.proofs.Standing.{count_is, kept_count, kept_row_is, filed_row_is, lists_are}

-- the text of a row
abbrev pub table_text : View → ℕ → List ℕ
table_text v n = text (meaning (kept_row v n).list)

module _ (es : List Entry) (v : View) where
  pub looked : (l : Ledger) → Stands es v l → {c : calls.Call} {r : calls.Reply} → Looks es l c r → Next es l c r v
  looked l s k = record { ledger = l; step = is_looked_at k; shows = s.shows }

  text_is : (l : Ledger) → Stands es v l → (n : ℕ) → n < length (kept v) → table_text v n ≡ row_text (row_at (all_rows l) n)
  text_is l s n h = ap (λ (r : table.Row). text (meaning r.list)) (kept_row_is v l s.shows n (omega (arith, kept_count v l s.shows)))

  module _ (n room : ℕ) where
    pub show_none : length (kept v) ≤ n → Answers es v (calls.show n room) (refused_by_book 70) v
    show_none h l s = looked l s (not_shown (omega (arith, kept_count v l s.shows)))

    pub show_long : n < length (kept v) → (Prints (table_text v n) room → ⊥) → Answers es v (calls.show n room) (refused_by_book 71) v
    show_long h long l s = looked l s (overlong (omega (arith, kept_count v l s.shows)) (λ p. long (subst (λ (t : List ℕ). Prints t room) (sym (text_is l s n h)) p)))

    pub show_fits : (m : ℕ) → n < length (kept v) → Prints (table_text v n) room → m ≡ length (table_text v n) → Answers es v (calls.show n room) (calls.shown m) v
    show_fits m h p is l s =
        let t = text_is l s n h in
        subst (λ (k : ℕ). Next es l (calls.show n room) (calls.shown k) v) (sym (is ∙ ap length t))
        (looked l s (is_shown (omega (arith, kept_count v l s.shows)) (subst (λ (t : List ℕ). Prints t room) t p)))

  module _ (n : ℕ) (list : List TypeNode) (places : List ℕ) where
    pub check_none : length v.rows ≤ n → Answers es v (calls.check n list places) (refused_by_book 70) v
    check_none h l s = looked l s (not_checked (omega (arith, count_is v l s.shows)))

    -- what is said over the table's lists and a row's nodes, said over the ledger's
    over_ledger : (l : Ledger) → Stands es v l → n < length v.rows → (P : Lists → List TermNode → Type 0) → P (kept_lists v) (kept_row v n).term → P (ledgers.kept l.rows) (prefix (row_at l.rows n).term)
    over_ledger l s h P p =
        subst (λ (K : Lists). P K (prefix (row_at l.rows n).term)) (lists_are v l s.shows)
        (subst (P (kept_lists v)) (ap (λ (r : table.Row). r.term) (filed_row_is v l s.shows n (omega (arith, count_is v l s.shows)))) p)

    pub check_fails : {r : Refusal} → n < length v.rows → Refuses (entered es) (kept_lists v) (kept_row v n).term list places r → Answers es v (calls.check n list places) (calls.refused r) v
    check_fails {r = r} h f l s = looked l s (unsound (omega (arith, count_is v l s.shows)) (over_ledger l s h (λ K ts. Refuses (entered es) K ts list places r) f))

    pub check_passes : n < length v.rows → Checked (entered es) (kept_lists v) (kept_row v n).term list places → Answers es v (calls.check n list places) calls.passed v
    check_passes h f l s = looked l s (is_checked (omega (arith, count_is v l s.shows)) (over_ledger l s h (λ K ts. Checked (entered es) K ts list places) f))

-- what the test of a row's number tells
pub no_row : (r : Bool) (n m : ℕ) → Decides r (n < m) → r ≡ false → m ≤ n
no_row r n m d e = ⊎_elim (λ (lt : n < m). let z : true ≡ false = sym (d.1 lt) ∙ e in (let y : ◌≡◌ {A = ℕ} 0 1 = cc in absurd (omega arith))) (λ (ge : m ≤ n). ge) (order n m)

pub is_row : (r : Bool) (n m : ℕ) → Decides r (n < m) → r ≡ true → n < m
is_row r n m d e = d.0 e
