use Rattle.std.proofs.Common.{List}
use Rattle.types.specs.Types.{Ty}
use Rattle.walk.specs.Work.{State}
use Rattle.walk.specs.Listing.{Shut, Sofar}
use Rattle.walk.specs.Lent.{nodes, held, SameMemories, Running}
use Rattle.walk.proofs.walking.Walk.list_rest.Given as goal

abbrev pub invariant-loop-at : goal.invariant-loop-at
invariant-loop-at l =
    record {
      same : SameMemories l.initial.self l.self;
      running : Running l.self;
      shut : Shut l.self.marks.now;
      sofar : (ps : List Ty) → State (nodes l.initial.self) (held l.initial.self) ps → Sofar (nodes l.initial.self) (held l.self) (λ k. k) ps l.at;
    }
