use Rattle.std.proofs.Common.{◌≡◌, length, subst, arith}
use Rattle.std.proofs.lemmas.Result.{err_from_is_err_and}
use Rattle.walk.specs.Listing.{Sofar, Unsolvable}
use Rattle.walk.specs.Lent.{nodes, held}
use Rattle.walk.proofs.Roots.{shut_grown, nothing_above, sofar_more, room_nodes}
use Rattle.walk.proofs.Opening.{nodes_long, nodes_same, same_then, running_walked, walked_as}
use Rattle.walk.proofs.walking.Walk.list_rest.Goals as goal

pub returns-in_err-walk : goal.returns-in_err-walk
returns-in_err-walk c =
    let p = err_from_is_err_and c.from_residual.result c.from_residual.ensures.1 in
    let i = c.loop-at.invariant in
    record {
      same = same_then _ _ _ i.same c.in_err-walk.ensures.same;
      listed = rw p.1 (subst Unsolvable (nodes_same c.args.self.now c.loop-at.self i.same.graph) (nothing_above _ _ _ i.shut c.in_err-walk.ensures.outcome));
    }

pub loop-at-preserved : goal.loop-at-preserved
loop-at-preserved c =
    let k = c.args.self.now in
    let i = c.loop-at.invariant in
    let x = c.in_ok-walk.ensures in
    record {
      same = same_then _ _ _ i.same x.same;
      running = running_walked i.running x.same x.outcome;
      shut = shut_grown _ _ x.outcome.grown i.shut;
      sofar = λ ps s. sofar_more (nodes k) _ _ (λ j. j) ps c.loop-at.at _ (i.sofar ps s) (walked_as k c.loop-at.self (held c.walk.new.self) i.same.graph x.outcome);
    }

pub returns-clause-listed : goal.returns-clause-listed
returns-clause-listed c =
    let k = c.args.self.now in
    let i = c.loop-at.invariant in
    let e : c.loop-at.at ≡ length (nodes k) = omega (arith, nodes_long k) in
    record { sofar = λ ps s. subst (Sofar (nodes k) (held c.loop-at.self) (λ j. j) ps) e (i.sofar ps s); room = room_nodes k.graph.now _ (rw i.same.graph at i.running.room) }
