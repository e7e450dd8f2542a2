-- Lines of outcomes are answered as by the ledger.
use Rattle.std.proofs.Common.{◌≡◌, ℕ, ◌<◌, ◌≤◌, List, length, Ok, Err, Result, sym, ap, ◌∙◌, subst, arith}
use Rattle.types.specs.declared.TypeNode.{TypeNode}
use Rattle.catalogue.specs.Entries.{Entry}
use Rattle.lines.specs.Lines.{line_room, filed_line, refused_line, Lined}
use Rattle.table.specs.Rows as table
use Rattle.table.specs.View.{View, kept_row}
use Rattle.ledger.specs.Calls as calls
use Rattle.ledger.specs.Looking.{refused_by_book, no_line_room, not_lined, is_lined, refusal_lined}
use Rattle.book.specs.declared.fault.BookFault.{BookFault}
use Rattle.book.specs.Faults.{says}
use Rattle.book.specs.Memories.{outcome_of, outcome_line}
use Rattle.book.specs.Standing.{Next, Answers}
use Rattle.book.proofs.Standing.{count_is, filed_row_is}
use Rattle.book.proofs.Looks.{looked}

module _ (es : List Entry) (v : View) (room : ℕ) where
  pub line_short : (o : calls.Outcome) → room < line_room → Answers es v (calls.line o room) (refused_by_book 72) v
  line_short o h l s = looked es v l s (no_line_room h)

  module _ (o : Result ℕ BookFault) (n : ℕ) (e : o ≡ Ok n) (h : line_room ≤ room) where
    pub line_none : length v.rows ≤ n → Answers es v (calls.line (outcome_of o) room) (refused_by_book 70) v
    line_none out =
        subst (λ (p : Result ℕ BookFault). Answers es v (calls.line (outcome_of p) room) (refused_by_book 70) v) (sym e)
        (λ l s. looked es v l s (not_lined h (omega (arith, count_is v l s.shows))))

    module _ (list : List TypeNode) (is : list ≡ (kept_row v n).list) (before after : List ℕ) (m : ℕ) (lined : Lined (filed_line n list) before after m) where
      pub line_written : Lined (outcome_line v o) before after m
      line_written = subst (λ (p : Result ℕ BookFault). Lined (outcome_line v p) before after m) (sym e) (subst (λ (l : List TypeNode). Lined (filed_line n l) before after m) is lined)

      pub line_filed : n < length v.rows → Answers es v (calls.line (outcome_of o) room) (calls.lined m) v
      line_filed within =
          subst (λ (p : Result ℕ BookFault). Answers es v (calls.line (outcome_of p) room) (calls.lined m) v) (sym e)
          (λ l s.
          (let lt : n < length l.rows = omega (arith, count_is v l s.shows) in
          let same = ap (λ (x : List TypeNode). length (filed_line n x)) is ∙ ap (λ (r : table.Row). length (filed_line n r.list)) (filed_row_is v l s.shows n lt) in
          subst (λ (k : ℕ). Next es l (calls.line (Ok n) room) (calls.lined k) v) (sym (lined.answer ∙ same)) (looked es v l s (is_lined h lt))))

  module _ (o : Result ℕ BookFault) (f : BookFault) (e : o ≡ Err f) (h : line_room ≤ room) (before after : List ℕ) (m : ℕ) (lined : Lined (refused_line (says f)) before after m) where
    pub refusal_written : Lined (outcome_line v o) before after m
    refusal_written = subst (λ (p : Result ℕ BookFault). Lined (outcome_line v p) before after m) (sym e) lined

    pub line_refused : Answers es v (calls.line (outcome_of o) room) (calls.lined m) v
    line_refused =
        subst (λ (p : Result ℕ BookFault). Answers es v (calls.line (outcome_of p) room) (calls.lined m) v) (sym e)
        (λ l s. subst (λ (k : ℕ). Next es l (calls.line (Err (says f)) room) (calls.lined k) v) (sym lined.answer) (looked es v l s (refusal_lined h)))
