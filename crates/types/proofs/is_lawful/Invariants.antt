use Rattle.std.proofs.Common.{ℕ, ◌<◌, get_or}
use Rattle.types.specs.Lists.{LawfulNode, zero_node}
use Rattle.types.proofs.is_lawful.Given as goal

abbrev pub invariant-loop-place : goal.invariant-loop-place
invariant-loop-place l = (p : ℕ) → p < l.place → LawfulNode p (get_or l.list p zero_node)
