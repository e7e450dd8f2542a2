-- Showing a row's type, from what printing its list tells.
use Rattle.std.proofs.Common.{◌≡◌, ℕ, ◌<◌, List, length, Err, sym, subst}
use Rattle.types.specs.declared.TypeNode.{TypeNode}
use Rattle.types.specs.Lists.{Lawful}
use Rattle.catalogue.specs.Entries.{Entry}
use Rattle.printing.specs.declared.ShowFault.{ShowFault}
use Rattle.printing.specs.declared.ShowFault.TheVariants.{Unlawful, TooLong}
use Rattle.printing.specs.Writing.{Printed, Overlong, Meaningless, Shown}
use Rattle.table.specs.declared.table.Table.{Table}
use Rattle.table.specs.View.{View, view, kept, kept_row}
use Rattle.table.proofs.Views.{all_proper}
use Rattle.ledger.specs.Calls as calls
use Rattle.ledger.specs.Looking.{refused_by_book}
use Rattle.book.specs.Standing.{Answers}
use Rattle.book.proofs.Looks.{show_long, show_fits}

module _ (v : View) (n : ℕ) (list : List TypeNode) (before after : List ℕ) (is : list ≡ (kept_row v n).list) where
  -- of the row's own list
  pub printed_row : (m : ℕ) → Printed list before after m → Printed (kept_row v n).list before after m
  printed_row m p = subst (λ (l : List TypeNode). Printed l before after m) is p

  overlong_row : (f : ShowFault) → f ≡ TooLong → Shown list before after (Err f) → Overlong (kept_row v n).list before after
  overlong_row f e s = subst (λ (l : List TypeNode). Overlong l before after) is (subst (λ (g : ShowFault). Shown list before after (Err g)) e s)

  module _ (es : List Entry) (h : n < length (kept v)) where
    pub shows_row : (m : ℕ) → Printed list before after m → Answers es v (calls.show n (length before)) (calls.shown m) v
    shows_row m p = let q = printed_row m p in show_fits es v n (length before) m h q.prints q.answer

    pub shows_too_long : (f : ShowFault) → f ≡ TooLong → Shown list before after (Err f) → Answers es v (calls.show n (length before)) (refused_by_book 71) v
    shows_too_long f e s = show_long es v n (length before) h (overlong_row f e s).long

  pub left_alone : (f : ShowFault) → f ≡ TooLong → Shown list before after (Err f) → after ≡ before
  left_alone f e s = (overlong_row f e s).leaves

-- the list of a row is lawful, so it is printed or too long
pub never_unlawful : (t : Table) (n : ℕ) (list : List TypeNode) (before after : List ℕ) (f : ShowFault) → list ≡ (kept_row (view t) n).list → n < length (kept (view t)) → f ≡ Unlawful → Shown list before after (Err f) → ⊥
never_unlawful t n list before after f is h e s =
    let m : Meaningless list before after = subst (λ (g : ShowFault). Shown list before after (Err g)) e s in
    m.unlawful (subst Lawful (sym is) (all_proper t n h).lawful)
