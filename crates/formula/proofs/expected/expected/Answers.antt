use Rattle.text.proofs.Exits.{exit_is}
use Rattle.text.proofs.Ahead.{rest_refused}
use Rattle.formula.proofs.Tokens.{expected_of}
use Rattle.formula.proofs.expected.expected.Goals as goal

pub returns-in_err-next : goal.returns-in_err-next
returns-in_err-next c =
    rw (exit_is c.from_residual.result _ c.from_residual.ensures.1) (λ ts r. absurd (rest_refused c.args.lexer.now.text.now c.args.from ts r _ c.in_err-next.ensures))

pub returns : goal.returns
returns c = rw c.ok_or.ensures.value (expected_of c.args.lexer.now.text.now c.args.from _ c.in_ok-next.ensures)
