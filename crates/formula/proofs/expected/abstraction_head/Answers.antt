use Rattle.std.proofs.Common.{refl, ap}
use Rattle.text.proofs.Exits.{exit_is}
use Rattle.text.specs.Lexing.{sign_of}
use Rattle.text.proofs.Ahead.{rest_none, rest_refused}
use Rattle.formula.proofs.Signs.{lambda_is}
use Rattle.formula.proofs.Tokens.{reads_sign, blames_later, head_read, no_lambda, no_lambda_at_end}
use Rattle.grammar.specs.Machine.{start}
use Rattle.formula.proofs.expected.abstraction_head.Goals as goal

pub returns-in_err-found : goal.returns-in_err-found
returns-in_err-found c =
    rw (exit_is c.from_residual.result _ c.from_residual.ensures.1) (λ ts r k. absurd (rest_refused c.args.lexer.now.text.now c.args.from ts r _ c.in_err-found.ensures))

pub returns-in_default : goal.returns-in_default
returns-in_default c = λ ts r. no_lambda_at_end ts (rest_none _ _ ts r _ c.in_default.is c.in_ok-found.ensures)

pub returns-in_default-token : goal.returns-in_default-token
returns-in_default-token c = no_lambda _ _ c.in-Some.found (rw c.in-Some.is at c.in_ok-found.ensures) (λ s. c.in_default-token.not-Lambda (lambda_is _ s))

pub returns-in_err-head : goal.returns-in_err-head
returns-in_err-head c =
    let exit = exit_is c.from_residual-in_err-head.result _ c.from_residual-in_err-head.ensures.1 in
    let sign = reads_sign _ _ c.in-Some.found (rw c.in-Some.is at c.in_ok-found.ensures) _ (ap sign_of c.in-Lambda.is) in
    rw exit (λ ts r k. blames_later _ _ _ _ sign (start k) _ (λ o. refl) ts r (λ o us s. c.in_err-head.ensures us s k))

pub returns : goal.returns
returns c =
    let sign = reads_sign _ _ c.in-Some.found (rw c.in-Some.is at c.in_ok-found.ensures) _ (ap sign_of c.in-Lambda.is) in
    head_read _ _ _ _ sign c.in_ok-head.ensures
