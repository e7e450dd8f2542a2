use Rattle.std.proofs.Common.{◌≡◌, length, subst, arith}
use Rattle.instance.proofs.Places.{NewUpTo, once_from_new, places_are_types}
use Rattle.instance.proofs.is_once.Goals as goal

pub returns-clause-places : goal.returns-clause-places
returns-clause-places c law is =
    let l = c.args.list.now in
    let all : c.loop-place.place ≡ length l = omega arith in
    places_are_types l law.each (once_from_new l (subst (NewUpTo l) all c.loop-place.invariant))
