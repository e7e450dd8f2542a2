use Rattle.text.proofs.Exits.{exit_is}
use Rattle.text.proofs.Ahead.{rest_refused}
use Rattle.formula.proofs.Rooms.{follows_in_room}
use Rattle.formula.proofs.Wholes.{not_parsed, parsed, over_closed}
use Rattle.formula.proofs.parser.Reader.whole.Goals as goal

pub returns-in_err-all : goal.returns-in_err-all
returns-in_err-all g c =
    rw (exit_is c.from_residual-in_err-all.result _ c.from_residual-in_err-all.ensures.1) (not_parsed _ _ c.in_ok-scan.ensures c.in_err-all.ensures)

pub returns-in_err-found : goal.returns-in_err-found
returns-in_err-found g c =
    let exit = exit_is c.from_residual-in_err-found.result _ c.from_residual-in_err-found.ensures.1 in
    let e = c.in_ok-all.ensures.read.covered in
    let all = c.in_ok-scan.ensures in
    let m = e.made all.tokens all.spelled in
    rw exit (absurd (rest_refused c.args.self.now.lexer.text.now c.in_ok-all.all.end m.rest m.remains _ c.in_err-found.ensures))

pub returns-in-Some : goal.returns-in-Some
returns-in-Some g c = over_closed _ _ _ _ _ _ c.in_ok-scan.ensures c.in_ok-all.ensures.read _ c.in-Some.found c.in-Some.is c.in_ok-found.ensures

pub returns-in-None : goal.returns-in-None
returns-in-None g c = follows_in_room _ _ (λ u e. parsed _ _ _ _ _ _ c.in_ok-scan.ensures e _ c.in-None.is c.in_ok-found.ensures) c.in_ok-all.ensures
