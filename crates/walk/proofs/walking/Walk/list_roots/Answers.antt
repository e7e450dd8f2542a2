use Rattle.std.proofs.Common.{◌≢◌, [], get_or, ◌∙◌, subst, arith}
use Rattle.std.proofs.lemmas.List.{get_or-set_other}
use Rattle.std.proofs.lemmas.Result.{err_from_is_err_and}
use Rattle.walk.specs.Listing.{Unsolvable}
use Rattle.walk.specs.Lent.{nodes, held}
use Rattle.walk.proofs.Roots.{shut_grown, nothing_above, sofar_more, placed_more, walked_at, rooted, room_nodes}
use Rattle.walk.proofs.Opening.{nodes_same, same_then, running_walked, walked_as}
use Rattle.walk.proofs.walking.Walk.list_roots.Goals as goal

pub returns-in_err-root : goal.returns-in_err-root
returns-in_err-root c =
    let p = err_from_is_err_and c.from_residual.result c.from_residual.ensures.1 in
    let i = c.loop-root.invariant in
    record {
      same = same_then _ _ _ i.same c.in_err-root.ensures.same;
      listed = rw p.1 (subst Unsolvable (nodes_same c.args.self.now c.loop-root.self i.same.graph) (nothing_above _ _ _ i.shut c.in_err-root.ensures.outcome));
    }

pub loop-root-preserved : goal.loop-root-preserved
loop-root-preserved c =
    let k = c.args.self.now in
    let i = c.loop-root.invariant in
    let n = c.loop-root.root-index in
    let place = c.in_ok-root.field-0 in
    let x = c.in_ok-root.ensures in
    let y = walked_at (nodes k) _ _ _ (get_or c.args.roots.now n 0) _ (i.rest n (omega arith)) (walked_as k c.loop-root.self (held c.walk.new.self) i.same.graph x.outcome) in
    record {
      same = same_then _ _ _ i.same x.same;
      running = running_walked i.running x.same x.outcome;
      shut = shut_grown _ _ x.outcome.grown i.shut;
      sofar = sofar_more (nodes k) _ _ (λ j. get_or c.args.roots.now j 0) [] n place i.sofar y;
      placed = placed_more (nodes k) _ _ (λ j. get_or c.args.roots.now j 0) c.loop-root.roots n place c.requires.running.flat (omega arith) i.sofar y i.placed;
      rest = λ j l. let ne : j ≢ n = omega arith in get_or-set_other c.loop-root.roots n j place 0 ne ∙ i.rest j (omega arith);
    }

pub returns-clause-listed : goal.returns-clause-listed
returns-clause-listed c =
    let i = c.loop-root.invariant in
    rooted _ _ c.args.roots.now _ c.loop-root.root-index (omega arith) i.sofar i.placed i.shut (room_nodes c.args.self.now.graph.now _ (rw i.same.graph at i.running.room))
