use Rattle.std.proofs.Common.{◌≡◌, ℕ, ◌≤◌, List, get_or, take}
use Rattle.types.specs.Types.{Ty}
use Rattle.normal.specs.Built.{variables}
use Rattle.walk.specs.Work.{State}
use Rattle.walk.specs.Listing.{Columns, Narrow}
use Rattle.walk.specs.Lent.{nodes, held, SameMemories}
use Rattle.walk.proofs.walking.Walk.gather.Given as goal

abbrev pub invariant-loop-p : goal.invariant-loop-p
invariant-loop-p l =
    record {
      same : SameMemories l.initial.self l.self;
      marks : l.self.marks.now ≡ l.initial.self.marks.now;
      rest : (q : ℕ) → l.p ≤ q → get_or l.self.origins.now q 0 ≡ get_or l.initial.self.origins.now q 0;
      narrow : Narrow l.p l.self.origins.now l.self.heads.now l.self.nexts.now;
      columns : (ps : List Ty) → State (nodes l.initial.self) (held l.initial.self) ps → Columns ps l.p l.self.origins.now l.self.heads.now l.self.nexts.now × (l.variables ≡ variables (take l.p ps));
    }
