-- What a walk holds in its lent memories, and what its steps keep.
use Rattle.std.specs.Prelude.{◌≡◌, List, map, length}
use Rattle.types.specs.Types.{Ty}
use Rattle.graph.specs.Graph.{view}
use Rattle.graph.specs.declared.Node.{Node}
use Rattle.walk.specs.Reads.{Flat}
use Rattle.walk.specs.Work.{Work, work, State, Room}
use Rattle.walk.specs.declared.walking.Walk.{Walk}

abbrev pub nodes : Walk → List Node
nodes k = map view k.graph.now

abbrev pub held : Walk → Work
held k = work k.marks.now k.origins.now k.heads.now k.nexts.now k.count

-- the graph and the memories are the same, and as long as they were
pub record SameMemories (k k' : Walk) : Type 0 where
  pub graph : k'.graph ≡ k.graph
  pub marks : k'.marks.ghost_name ≡ k.marks.ghost_name
  pub origins : k'.origins.ghost_name ≡ k.origins.ghost_name
  pub heads : k'.heads.ghost_name ≡ k.heads.ghost_name
  pub nexts : k'.nexts.ghost_name ≡ k.nexts.ghost_name
  pub marks-long : length k'.marks.now ≡ length k.marks.now
  pub origins-long : length k'.origins.now ≡ length k.origins.now
  pub heads-long : length k'.heads.now ≡ length k.heads.now
  pub nexts-long : length k'.nexts.now ≡ length k.nexts.now

-- the walk may go on
pub record Running (k : Walk) : Type 0 where
  pub flat : Flat (nodes k)
  pub room : Room (length k.graph.now) (held k)
  pub state : (ps : List Ty) × State (nodes k) (held k) ps
