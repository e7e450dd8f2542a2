use Rattle.std.proofs.Common.{vec_items}
use Rattle.desk.proofs.Planning.{Built}
use Rattle.desk.proofs.plan.plan.Given as goal

abbrev pub invariant-lines : goal.invariant-lines
invariant-lines l =
    (goal.iterator-lines).can_next l.line-iterator
    × (goal.iterator-lines).is_finite l.line-iterator
    × Built l.input l.line-iterator (vec_items l.dealings)
