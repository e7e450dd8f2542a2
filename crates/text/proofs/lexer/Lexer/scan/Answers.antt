use Rattle.std.proofs.Common.{[], ◌++◌, Ok, subst, zero-le}
use Rattle.text.proofs.Exits.{exit_is}
use Rattle.text.specs.Lexing.{Next}
use Rattle.text.specs.Tokens.{here}
use Rattle.text.proofs.Scanning.{join}
use Rattle.text.proofs.Ahead.{all_tokens, refused_after}
use Rattle.text.proofs.lexer.Lexer.scan.Goals as goal

pub loop-found-init : goal.loop-found-init
loop-found-init c = (zero-le, ([], here))

pub returns-in_err-found : goal.returns-in_err-found
returns-in_err-found c =
    let exit = exit_is c.from_residual.result _ c.from_residual.ensures.1 in
    let sofar = c.loop-found.invariant in
    rw exit (refused_after _ _ sofar.1.0 _ sofar.1.1 c.in_err-found.ensures)

pub loop-found-preserved : goal.loop-found-preserved
loop-found-preserved c =
    let sofar = c.loop-found.invariant in
    let f = subst (λ r. Next c.args.self.now.text.now c.loop-found.at (Ok r)) c.in-Some.is c.in_ok-found.ensures in
    (f.within, (sofar.1.0 ++ _, join sofar.1.1 f.scans))

pub returns : goal.returns
returns c =
    let sofar = c.loop-found.invariant in
    all_tokens _ (sofar.1.0 ++ []) (join sofar.1.1 (subst (λ r. Next c.args.self.now.text.now c.loop-found.at (Ok r)) c.in_default.is c.in_ok-found.ensures sofar.0))
