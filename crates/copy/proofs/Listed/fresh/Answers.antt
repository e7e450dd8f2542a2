use Rattle.std.proofs.Common.{rules}
use Rattle.copy.proofs.Firsts.{noted_other}
use Rattle.copy.proofs.Listed.fresh.Goals as goal

pub returns-in-Some-Base-clause-noted : goal.returns-in-Some-Base-clause-noted
returns-in-Some-Base-clause-noted g c = noted_other _ _ _ _ c.node.ensures (λ e. search rules) c.requires.noted

pub returns-in-Some-Arrow-clause-noted : goal.returns-in-Some-Arrow-clause-noted
returns-in-Some-Arrow-clause-noted g c = noted_other _ _ _ _ c.node.ensures (λ e. search rules) c.requires.noted
