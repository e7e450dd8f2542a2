use Rattle.printing.specs.Writing.{Measured}
use Rattle.printing.proofs.find_lengths.Given as goal

abbrev pub invariant-loop-place : goal.invariant-loop-place
invariant-loop-place l = Measured l.list l.lengths l.place
