use Rattle.instance.proofs.Places.{NewUpTo}
use Rattle.instance.proofs.is_once.Given as goal

abbrev pub invariant-loop-place : goal.invariant-loop-place
invariant-loop-place l = NewUpTo l.list l.place
