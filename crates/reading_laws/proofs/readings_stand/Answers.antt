use Rattle.reading_laws.proofs.Readings.{formula_is_one, refusal_is_one, refused_or_read, formula_is_closed, references_are_below}
use Rattle.reading_laws.proofs.readings_stand.Goals as goal

pub returns : goal.returns
returns c = record { formula = formula_is_one; refusal = refusal_is_one; either = refused_or_read; closed = formula_is_closed; below = references_are_below }
