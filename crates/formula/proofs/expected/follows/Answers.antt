use Rattle.std.proofs.Common.{ap}
use Rattle.text.proofs.Exits.{exit_is}
use Rattle.text.specs.Lexing.{sign_of}
use Rattle.text.proofs.Ahead.{rest_none, rest_refused}
use Rattle.formula.proofs.Signs.{closing_is}
use Rattle.formula.proofs.Tokens.{ends_closing, goes_on, nothing_ends}
use Rattle.formula.proofs.expected.follows.Goals as goal

pub returns-in_err-found : goal.returns-in_err-found
returns-in_err-found c =
    rw (exit_is c.from_residual.result _ c.from_residual.ensures.1) (λ ts r. rest_refused c.args.lexer.now.text.now c.args.from ts r _ c.in_err-found.ensures)

pub returns-in_default : goal.returns-in_default
returns-in_default c = λ ts r. nothing_ends ts (rest_none _ _ ts r _ c.in_default.is c.in_ok-found.ensures)

pub returns-in-Close : goal.returns-in-Close
returns-in-Close c = ends_closing _ _ c.in-Some.found (rw c.in-Some.is at c.in_ok-found.ensures) (ap sign_of c.in-Close.is)

pub returns-in_default-token : goal.returns-in_default-token
returns-in_default-token c = goes_on _ _ c.in-Some.found (rw c.in-Some.is at c.in_ok-found.ensures) (λ s. c.in_default-token.not-Close (closing_is _ s))
