use Rattle.std.proofs.Common.{◌≡◌, take}
use Rattle.copy.proofs.load.load.Given as goal

abbrev pub invariant-loop-i : goal.invariant-loop-i
invariant-loop-i g l = take l.i l.memory ≡ take l.i (g.S.Source.list l.source l.k)
