use Rattle.std.proofs.Common.{◌≡◌, ℕ, ◌≤◌, [], get_or}
use Rattle.walk.specs.Listing.{Shut, Sofar, Placed}
use Rattle.walk.specs.Lent.{nodes, held, SameMemories, Running}
use Rattle.walk.proofs.walking.Walk.list_roots.Given as goal

abbrev pub invariant-loop-root : goal.invariant-loop-root
invariant-loop-root l =
    record {
      same : SameMemories l.initial.self l.self;
      running : Running l.self;
      shut : Shut l.self.marks.now;
      sofar : Sofar (nodes l.initial.self) (held l.self) (λ k. get_or l.initial.roots k 0) [] l.root-index;
      placed : Placed l.roots sofar.types l.root-index;
      rest : (k : ℕ) → l.root-index ≤ k → get_or l.roots k 0 ≡ get_or l.initial.roots k 0;
    }
