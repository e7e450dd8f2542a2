use Rattle.std.proofs.Common.{◌<◌, List, length, refl, subst, arith}
use Rattle.std.proofs.lemmas.Result.{err_from_is_err_and}
use Rattle.term.specs.declared.TermNode.{TermNode}
use Rattle.derivation_check.specs.Checking.{Checked, Refuses}
use Rattle.derivation_check.specs.Faults.{says as check_says}
use Rattle.table.specs.View.{view}
use Rattle.ledger.specs.Ledger.{entered}
use Rattle.book.specs.Memories.{kept_lists, not_filed, unsound}
use Rattle.book.proofs.Looks.{check_none, check_fails, check_passes}
use Rattle.book.proofs.Whole.{deals}
use Rattle.book.proofs.book.Book.check.Goals as goal

pub returns-then-number-count : goal.returns-then-number-count
returns-then-number-count g c =
    let b = c.args.self.now in
    record {
      done = deals g.C.Catalogue.entries g.C.Catalogue.lawful b b _ refl refl (check_none _ (view b.table) c.args.number _ _ (omega (arith, c.count.ensures.rows, c.if-number-count.true)));
      steps = not_filed (omega (arith, c.count.ensures.rows, c.if-number-count.true));
    }

pub returns-in_err-check : goal.returns-in_err-check
returns-in_err-check g c =
    let b = c.args.self.now in
    let es = g.C.Catalogue.entries b.catalogue in
    let p = err_from_is_err_and c.from_residual.result c.from_residual.ensures.1 in
    let h : c.args.number < length (view b.table).rows = omega (arith, c.count.ensures.rows, c.if-number-count.false) in
    let f = subst (λ (ts : List TermNode). Refuses (entered es) (kept_lists (view b.table)) ts c.args.list.now c.args.places.now (check_says c.in_err-check.field-0.0)) c.term-formula.ensures c.in_err-check.ensures.answer in
    rw (p.1, p.2) (record {
      done = deals g.C.Catalogue.entries g.C.Catalogue.lawful b b _ refl refl (check_fails es (view b.table) c.args.number _ _ h f);
      steps = unsound f;
    })

pub returns : goal.returns
returns g c =
    let b = c.args.self.now in
    let es = g.C.Catalogue.entries b.catalogue in
    let h : c.args.number < length (view b.table).rows = omega (arith, c.count.ensures.rows, c.if-number-count.false) in
    let f = subst (λ (ts : List TermNode). Checked (entered es) (kept_lists (view b.table)) ts c.args.list.now c.args.places.now) c.term-formula.ensures c.in_ok-check.ensures.answer in
    record {
      done = deals g.C.Catalogue.entries g.C.Catalogue.lawful b b _ refl refl (check_passes es (view b.table) c.args.number _ _ h f);
      steps = f;
    }
