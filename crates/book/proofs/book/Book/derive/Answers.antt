use Rattle.std.proofs.Common.{◌<◌, length, refl, arith}
use Rattle.std.proofs.lemmas.Result.{err_from_is_err_and}
use Rattle.table.specs.View.{view}
use Rattle.typer.specs.Faults.{derive_says}
use Rattle.book.specs.Memories.{not_filed, underived}
use Rattle.book.proofs.Derivations.{derive_none, derive_fails, derive_answers, row_derived, row_underived}
use Rattle.book.proofs.Whole.{deals}
use Rattle.book.proofs.book.Book.derive.Goals as goal

pub returns-then-number-count : goal.returns-then-number-count
returns-then-number-count g c =
    let b = c.args.self.now in
    record {
      done = deals g.C.Catalogue.entries g.C.Catalogue.lawful b b _ refl refl (derive_none _ (view b.table) c.args.number _ _ _ (omega (arith, c.count.ensures.rows, c.if-number-count.true)));
      typing = not_filed (omega (arith, c.count.ensures.rows, c.if-number-count.true)) refl refl refl;
    }

pub returns-in_err-derive : goal.returns-in_err-derive
returns-in_err-derive g c =
    let b = c.args.self.now in
    let v = view b.table in
    let es = g.C.Catalogue.entries b.catalogue in
    let p = err_from_is_err_and c.from_residual.result c.from_residual.ensures.1 in
    let h : c.args.number < length v.rows = omega (arith, c.count.ensures.rows, c.if-number-count.false) in
    let u = c.in_err-derive.ensures.answer in
    rw (p.1, p.2) (record {
      done = deals g.C.Catalogue.entries g.C.Catalogue.lawful b b _ refl refl (derive_fails es v c.args.number c.term-nodes.result.now c.term-nodes.ensures h _ _ _ _ _ _ u);
      typing = underived (row_underived es v c.args.number c.term-nodes.result.now c.term-nodes.ensures h _ _ _ _ _ _ (derive_says c.in_err-derive.field-0.0) u);
    })

pub returns : goal.returns
returns g c =
    let b = c.args.self.now in
    let v = view b.table in
    let es = g.C.Catalogue.entries b.catalogue in
    let h : c.args.number < length v.rows = omega (arith, c.count.ensures.rows, c.if-number-count.false) in
    let d = c.in_ok-derive.ensures in
    record {
      done = deals g.C.Catalogue.entries g.C.Catalogue.lawful b b _ refl refl (derive_answers es v c.args.number c.term-nodes.result.now c.term-nodes.ensures h _ _ _ _ _ _ _ d.held d.nodes);
      typing = row_derived es v c.args.number c.term-nodes.result.now c.term-nodes.ensures h _ _ _ _ d.answer;
    }
