use Rattle.std.proofs.Common.{refl, arith}
use Rattle.std.proofs.lemmas.Result.{err_from_is_err_and}
use Rattle.book.specs.Judging.{unserved, crowded, overfull}
use Rattle.book.proofs.Judgements.{not_typed}
use Rattle.book.proofs.judging.list_type.Goals as goal

pub returns-in_err-ask : goal.returns-in_err-ask
returns-in_err-ask g c =
    let p = err_from_is_err_and c.from_residual.result c.from_residual.ensures.1 in
    rw (p.1, p.2) (unserved c.in_err-ask.ensures, refl)

pub returns-then-used_terms-term-gt-MOST_TERM_NODES : goal.returns-then-used_terms-term-gt-MOST_TERM_NODES
returns-then-used_terms-term-gt-MOST_TERM_NODES g c =
    (crowded c.in_ok-ask.ensures.serves (omega (arith, c.used_terms.ensures.nodes, c.if-used_terms-term-gt-MOST_TERM_NODES.true)), refl)

pub returns-in_err-records : goal.returns-in_err-records
returns-in_err-records g c =
    let p = err_from_is_err_and c.from_residual-in_err-records.result c.from_residual-in_err-records.ensures.1 in
    rw (p.1, p.2) (not_typed _ _ _ _ _ _ _ _ (record { serves = c.in_ok-ask.ensures.serves; fits = omega (arith, c.used_terms.ensures.nodes, c.if-used_terms-term-gt-MOST_TERM_NODES.false) }) c.in_err-records.ensures.answer, refl)

pub returns-then-used_types-records-gt-MOST_TYPE_NODES : goal.returns-then-used_types-records-gt-MOST_TYPE_NODES
returns-then-used_types-records-gt-MOST_TYPE_NODES g c =
    let t = c.in_ok-records.ensures.answer in (
      overfull (record { serves = c.in_ok-ask.ensures.serves; fits = omega (arith, c.used_terms.ensures.nodes, c.if-used_terms-term-gt-MOST_TERM_NODES.false) }) t.principal
          (omega (arith, c.used_types.ensures.nodes, c.if-used_types-records-gt-MOST_TYPE_NODES.true, t.count)),
      refl,
    )
