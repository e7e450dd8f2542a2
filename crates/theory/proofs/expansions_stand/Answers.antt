use Rattle.theory.proofs.Expansions.{expansions_closed, expansions_whole, expansions_last}
use Rattle.theory.proofs.expansions_stand.Goals as goal

pub returns : goal.returns
returns c = record { closed = expansions_closed; whole = expansions_whole; last = expansions_last }
