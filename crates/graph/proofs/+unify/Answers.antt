use Rattle.std.proofs.Common.{Ok}
use Rattle.graph.proofs.Merges.{unified_second}
use Rattle.graph.proofs.+unify.Goals as goal

pub returns-in_ok-unify-2 : goal.returns-in_ok-unify-2
returns-in_ok-unify-2 t c = unified_second _ _ _ _ _ _ _ _ _ (rw c.in-Some.is at c.in_ok-l.ensures) _ tt (Ok tt) c.in_ok-unify.ensures c.in_ok-unify-2.ensures
