use Rattle.ledger.proofs.Right.{ledgers_are_right, ledger_is_one}
use Rattle.ledger.proofs.ledgers_stand.Goals as goal

pub returns : goal.returns
returns c = record { right = ledgers_are_right; one = ledger_is_one }
