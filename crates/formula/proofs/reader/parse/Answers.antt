use Rattle.std.proofs.Common.{length, ap, arith}
use Rattle.std.proofs.lemmas.Result.{MatchResult-weaker}
use Rattle.formula.proofs.Rooms.{part_in_room}
use Rattle.formula.proofs.reader.parse.Goals as goal

pub invariant_of-reader : goal.invariant_of-reader
invariant_of-reader g c = let same = ap length c.new.ensures in omega (arith, same)

pub returns : goal.returns
returns g c = rw c.new.ensures at (MatchResult-weaker c.whole.result c.whole.ensures (λ q i. part_in_room _ _ _ _ _ _ q c.min-room.ensures i) (λ f b. b))
