use Rattle.std.proofs.Common.{refl, rules}
use Rattle.copy.proofs.Firsts.{noted_past, noted_again, noted_new}
use Rattle.copy.proofs.Listed.first.Goals as goal

pub returns-in-None-clause-noted : goal.returns-in-None-clause-noted
returns-in-None-clause-noted g c = noted_past _ _ _ _ c.requires.is c.requires.noted c.in-None.ensures.lookup.3

pub returns-in-Some-clause-noted : goal.returns-in-Some-clause-noted
returns-in-Some-clause-noted g c = noted_again _ _ _ _ c.requires.is c.requires.noted _ (c.if-stands_below.ensures.0 refl) c.in-Some.ensures.lookup.3.0

pub returns-in-Some-2-clause-noted : goal.returns-in-Some-2-clause-noted
returns-in-Some-2-clause-noted g c = noted_new _ _ _ _ c.requires.is c.requires.noted (search rules) c.in-Some.ensures.lookup.3.0
