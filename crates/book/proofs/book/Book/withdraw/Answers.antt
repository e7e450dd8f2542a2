use Rattle.std.proofs.Common.{◌≡◌, ◌+◌, ◌-◌, true, false, length, refl, arith}
use Rattle.table.specs.View.{view, is_held, withdrawn}
use Rattle.book.proofs.Filing.{withdraw_busy, withdraw_refused, withdraw_answers}
use Rattle.book.proofs.Whole.{deals}
use Rattle.book.proofs.book.Book.withdraw.Goals as goal

pub returns-then-is_open : goal.returns-then-is_open
returns-then-is_open g c =
    let b = c.args.self.now in
    let h : is_held (view b.table).candidate ≡ true = cc in
    record { done = deals g.C.Catalogue.entries g.C.Catalogue.lawful b b _ refl refl (withdraw_busy _ (view b.table) h); kept = refl }

pub returns-then-count-eq0 : goal.returns-then-count-eq0
returns-then-count-eq0 g c =
    let b = c.args.self.now in
    let h : is_held (view b.table).candidate ≡ false = cc in
    let z : length (view b.table).rows ≡ 0 = omega (arith, c.count-count.ensures.rows) in
    record { done = deals g.C.Catalogue.entries g.C.Catalogue.lawful b b _ refl refl (withdraw_refused _ (view b.table) h z); kept = refl }

pub returns : goal.returns
returns g c =
    let b = c.args.self.now in
    let h : is_held (view b.table).candidate ≡ false = cc in
    let n : c.count-count.result - 1 + 1 ≡ length (view b.table).rows = omega (arith, c.count-count.ensures.rows) in
    record { done = deals g.C.Catalogue.entries g.C.Catalogue.lawful b _ (withdrawn (view b.table)) refl (cc) (withdraw_answers _ (view b.table) h (c.count-count.result - 1) n); kept = tt }
