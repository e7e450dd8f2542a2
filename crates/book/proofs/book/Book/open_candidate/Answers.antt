use Rattle.std.proofs.Common.{ℕ, sym, refl, ap, subst}
use Rattle.std.proofs.lemmas.Result.{err_from_is_err_and}
use Rattle.table.specs.Rows.{row}
use Rattle.table.specs.View.{View, view, is_held, with_candidate}
use Rattle.ledger.specs.Calls as calls
use Rattle.book.specs.Faults.{says}
use Rattle.book.specs.Memories.{submission}
use Rattle.book.specs.Standing.{Answers}
use Rattle.book.proofs.Submits.{submit_refused, submit_opens}
use Rattle.book.proofs.book.Book.open_candidate.Goals as goal

pub returns-in_err-judged : goal.returns-in_err-judged
returns-in_err-judged g c =
    let p = err_from_is_err_and c.from_residual.result c.from_residual.ensures.1 in
    let b = c.args.self.now in
    let s = submission c.args.text.now c.args.terms.now c.args.types.now c.args.numbers.now in
    rw (p.1, p.2) (record {
      link = record { same = refl; answers = submit_refused _ (view b.table) s (says c.in_err-judged.field-0.0) c.in_err-judged.ensures.ledger };
      work = c.in_err-judged.ensures.keeps;
      kept = refl;
      candidate = tt;
    })

pub returns : goal.returns
returns g c =
    let b = c.args.self.now in
    let v = view b.table in
    let es = g.C.Catalogue.entries b.catalogue in
    let s = submission c.args.text.now c.args.terms.now c.args.types.now c.args.numbers.now in
    let ts = c.in_ok-judged.judged.term.now in
    let list = c.in_ok-judged.judged.list.now in
    let answers = submit_opens es v s ts list c.in_ok-judged.ensures.ledger in
    record {
      link = record {
        same = refl;
        answers = subst (Answers es v (calls.submit s) (calls.opened c.count-number.result)) (sym c.put.ensures)
            (subst (λ (n : ℕ). Answers es v (calls.submit s) (calls.opened n) (with_candidate v (row ts list))) (sym c.count-number.ensures.rows) answers);
      };
      work = refl;
      kept = tt;
      candidate = ap (λ (w : View). is_held w.candidate) c.put.ensures;
    }
