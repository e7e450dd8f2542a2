use Rattle.std.proofs.Common.{length, arith}
use Rattle.std.proofs.lemmas.Result.{err_from_is_err_and}
use Rattle.infer.specs.Heads.{need}
use Rattle.typer.specs.Questions.{no_number_room}
use Rattle.typer.proofs.Refusing.{not_fitting}
use Rattle.typer.proofs.question.ask.Goals as goal

pub returns-in_err-records : goal.returns-in_err-records
returns-in_err-records g c =
    let p = err_from_is_err_and c.from_residual.result c.from_residual.ensures.1 in
    rw (p.1, p.2) (not_fitting (need (g.E.Source.list c.args.term.now.entries.now) (g.K.Source.list c.args.term.now.kept.now) c.args.term.now.nodes.now) (length c.args.term.now.nodes.now) c.args.types c.args.numbers _ c.in_err-records.ensures)

pub returns-in_err-ask_numbers : goal.returns-in_err-ask_numbers
returns-in_err-ask_numbers g c =
    let p = err_from_is_err_and c.from_residual-in_err-ask_numbers.result c.from_residual-in_err-ask_numbers.ensures.1 in
    let q = c.in_ok-records.ensures in
    let e = c.in_err-ask_numbers.ensures in
    rw (p.1, p.2, e.0) (no_number_room q.1.few q.1.records (omega (arith, q.0, e.1)))
