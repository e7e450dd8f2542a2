use Rattle.std.proofs.Common.{◌≡◌, ℕ, ◌<◌, get_or}
use Rattle.types.specs.Lists.{node, zero_node}
use Rattle.walk.proofs.gather.write_rows.Given as goal

abbrev pub invariant-loop-p : goal.invariant-loop-p
invariant-loop-p l = (q : ℕ) → q < l.p → get_or l.rows q zero_node ≡ node (get_or l.kinds q 0) (get_or l.lefts q 0) (get_or l.rights q 0)
