use Rattle.std.proofs.Common.{◌≡◌}
use Rattle.instance.specs.Slots.{places}
use Rattle.instance.proofs.Walk.{Walked}
use Rattle.instance.proofs.fits.Given as goal

abbrev pub invariant-loop-at : goal.invariant-loop-at
invariant-loop-at l =
    record {
      general : l.matching.general.now ≡ l.general;
      special : l.matching.special.now ≡ l.special;
      walked : Walked l.general l.special l.place (places l.matching.nodes) (places l.matching.variables) l.at;
    }
