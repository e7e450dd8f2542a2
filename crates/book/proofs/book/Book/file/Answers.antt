use Rattle.std.proofs.Common.{◌≡◌, ℕ, true, false, sym, refl, subst}
use Rattle.table.specs.View.{view, is_held, filed}
use Rattle.ledger.specs.Calls as calls
use Rattle.book.specs.Standing.{Answers}
use Rattle.book.proofs.Filing.{file_refused, file_answers}
use Rattle.book.proofs.Whole.{deals}
use Rattle.book.proofs.book.Book.file.Goals as goal

pub returns-then-not-is_open : goal.returns-then-not-is_open
returns-then-not-is_open g c =
    let b = c.args.self.now in
    let h : is_held (view b.table).candidate ≡ false = cc in
    record { done = deals g.C.Catalogue.entries g.C.Catalogue.lawful b b _ refl refl (file_refused _ (view b.table) h); back = refl; answered = h; kept = refl }

pub returns : goal.returns
returns g c =
    let b = c.args.self.now in
    let h : is_held (view b.table).candidate ≡ true = cc in
    let es = g.C.Catalogue.entries b.catalogue in
    record {
      done = deals g.C.Catalogue.entries g.C.Catalogue.lawful b _ (filed (view b.table)) refl (cc)
          (subst (λ (n : ℕ). Answers es (view b.table) calls.file (calls.filed n) (filed (view b.table))) (sym c.count-number.ensures.rows) (file_answers es (view b.table) h));
      back = tt;
      answered = h;
      kept = tt;
    }
