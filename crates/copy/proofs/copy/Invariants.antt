use Rattle.std.proofs.Common.{◌≡◌, ◌+◌, ◌<◌, length}
use Rattle.graph.specs.Memory.{nodes, InPlace}
use Rattle.copy.specs.Copies.{Noted}
use Rattle.copy.proofs.Instances.{Partly}
use Rattle.copy.proofs.copy.Given as goal

abbrev pub invariant-loop-i : goal.invariant-loop-i
invariant-loop-i g l =
    record {
      place : InPlace l.initial.graph l.graph;
      used : l.graph.used ≡ l.initial.graph.used + l.i;
      noted : Noted (g.S.Source.list l.source l.k) l.i l.seen;
      partly : (some : 0 < length (g.S.Source.list l.source l.k)) → Partly (g.S.Source.list l.source l.k) (g.S.Source.lawful l.source l.k some) (nodes l.initial.graph) (nodes l.graph) l.i;
    }
