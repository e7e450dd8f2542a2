use Rattle.std.proofs.Common.{◌≡◌, true, false, refl}
use Rattle.table.specs.View.{view, is_held, dismissed}
use Rattle.book.proofs.Filing.{dismiss_refused, dismiss_answers}
use Rattle.book.proofs.Whole.{deals}
use Rattle.book.proofs.book.Book.dismiss.Goals as goal

pub returns-then-not-is_open : goal.returns-then-not-is_open
returns-then-not-is_open g c =
    let b = c.args.self.now in
    let h : is_held (view b.table).candidate ≡ false = cc in
    record { done = deals g.C.Catalogue.entries g.C.Catalogue.lawful b b _ refl refl (dismiss_refused _ (view b.table) h); back = refl; answered = h; kept = refl }

pub returns : goal.returns
returns g c =
    let b = c.args.self.now in
    let h : is_held (view b.table).candidate ≡ true = cc in
    record {
      done = deals g.C.Catalogue.entries g.C.Catalogue.lawful b _ (dismissed (view b.table)) refl (cc) (dismiss_answers _ (view b.table) h);
      back = tt;
      answered = h;
      kept = tt;
    }
