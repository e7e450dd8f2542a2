use Rattle.derivation_check.proofs.Spans.{Walked}
use Rattle.derivation_check.proofs.ends.walk.Given as goal

abbrev pub invariant-loop-next : goal.invariant-loop-next
invariant-loop-next l = Walked l.terms l.next l.missing
