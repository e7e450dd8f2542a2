use Rattle.std.proofs.Common.{length, arith}
use Rattle.std.proofs.lemmas.Result.{err_from_is_err_and}
use Rattle.infer.specs.Heads.{need}
use Rattle.typer.specs.Derivations.{no_place_room, no_number_room}
use Rattle.typer.proofs.Refusing.{not_derivable}
use Rattle.typer.proofs.question.ask_derivation.Goals as goal

pub returns-in_err-records : goal.returns-in_err-records
returns-in_err-records g c =
    let p = err_from_is_err_and c.from_residual.result c.from_residual.ensures.1 in
    rw (p.1, p.2) (not_derivable (need (g.E.Source.list c.args.term.now.entries.now) (g.K.Source.list c.args.term.now.kept.now) c.args.term.now.nodes.now) (length c.args.term.now.nodes.now) c.args.types c.args.places c.args.numbers _ c.in_err-records.ensures)

pub returns-then-places-term : goal.returns-then-places-term
returns-then-places-term g c = let q = c.in_ok-records.ensures in no_place_room q.1 c.if-places-term.true

pub returns-in_err-ask_numbers : goal.returns-in_err-ask_numbers
returns-in_err-ask_numbers g c =
    let p = err_from_is_err_and c.from_residual-in_err-ask_numbers.result c.from_residual-in_err-ask_numbers.ensures.1 in
    let q = c.in_ok-records.ensures in
    let e = c.in_err-ask_numbers.ensures in
    rw (p.1, p.2, e.0) (no_number_room q.1 c.if-places-term.false (omega (arith, q.0, e.1)))
