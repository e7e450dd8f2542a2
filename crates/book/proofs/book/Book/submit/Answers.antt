use Rattle.std.proofs.Common.{rules, refl}
use Rattle.std.proofs.lemmas.Result.{err_from_is_err_and}
use Rattle.table.specs.View.{view}
use Rattle.book.specs.Faults.{says}
use Rattle.book.specs.Memories.{submission}
use Rattle.book.proofs.Judgements.{not_begun}
use Rattle.book.proofs.Submits.{submit_refused, unchanged}
use Rattle.book.proofs.Whole.{deals, does}
use Rattle.book.proofs.book.Book.submit.Goals as goal

pub returns-in_err-admit : goal.returns-in_err-admit
returns-in_err-admit g c =
    let p = err_from_is_err_and c.from_residual.result c.from_residual.ensures.1 in
    let b = c.args.self.now in
    let v = view b.table in
    let es = g.C.Catalogue.entries b.catalogue in
    let s = submission c.args.text.now c.args.terms.now c.args.types.now c.args.numbers.now in
    rw (p.1, p.2) (record {
      done = deals g.C.Catalogue.entries g.C.Catalogue.lawful b b v refl refl (submit_refused es v s (says c.in_err-admit.field-0.0) (λ l st. not_begun es v l st s c.in_err-admit.ensures.0));
      memories = unchanged c.args.terms.now c.args.terms.now c.args.types.now c.args.types.now c.args.numbers.now c.args.numbers.now _ c.in_err-admit.ensures.1 refl refl refl;
      ticket = tt;
      kept = refl;
      candidate = tt;
    })

pub returns-clause-done : goal.returns-clause-done
returns-clause-done g c = does g.C.Catalogue.entries g.C.Catalogue.lawful (search rules)
