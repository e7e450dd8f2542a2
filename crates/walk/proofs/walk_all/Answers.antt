use Rattle.std.proofs.Common.{◌≡◌, ℕ, ◌<◌, List, map, length, get_or, sym, ap, ◌∙◌, subst, arith}
use Rattle.std.proofs.lemmas.Grind.{common_steps}
use Rattle.graph.specs.Graph.{view}
use Rattle.graph.specs.declared.Node.{Node}
use Rattle.walk.specs.Listing.{Rested}
use Rattle.walk.specs.Lent.{nodes, held}
use Rattle.walk.proofs.Opening.{nodes_long, nodes_same}
use Rattle.walk.proofs.Whole.{gathered, gathered_as, wanted_below}
use Rattle.walk.proofs.walk_all.Goals as goal

pub gather-requires-clause-within : goal.gather-requires-clause-within
gather-requires-clause-within c =
    let k = c.clear.new.self in
    let r = c.in_ok-wanted.ensures in
    let f = subst (λ (ns : List Node). Rested ns (held c.list_roots.new.self) (held c.list_rest.new.self)) (nodes_same k c.list_roots.new.self r.same.graph) c.in_ok-list_rest.ensures.listed in
    let inside : (i : ℕ) → i < length c.args.roots.now → get_or c.args.roots.now i 0 < length (nodes k) =
    λ i h. omega (arith, c.requires.inside i h, nodes_long k, ap (λ z. length z.now) c.clear.ensures.same.graph) in
    let b = wanted_below (nodes k) _ _ c.args.roots.now _ _ c.clear.ensures.running.flat inside r.listed (f.sofar _ r.listed.sofar.state) in
    omega (arith, b.0, b.1)

pub returns : goal.returns
returns c =
    let k = c.clear.new.self in
    let r = c.in_ok-wanted.ensures in
    let g = c.in_ok-list_rest.ensures in
    let f = subst (λ (ns : List Node). Rested ns (held c.list_roots.new.self) (held c.list_rest.new.self)) (nodes_same k c.list_roots.new.self r.same.graph) g.listed in
    let s = f.sofar _ r.listed.sofar.state in
    let inside : (i : ℕ) → i < length c.args.roots.now → get_or c.args.roots.now i 0 < length (nodes k) =
    λ i h. omega (arith, c.requires.inside i h, nodes_long k, ap (λ z. length z.now) c.clear.ensures.same.graph) in
    let e : nodes k ≡ map view c.args.graph.now = ap (λ z. map view z.now) c.clear.ensures.same.graph in
    let q = c.gather.ensures.same in
    let w = c.clear.ensures in
    let os = sym (q.origins ∙ g.same.origins ∙ r.same.origins ∙ w.same.origins) in
    let hs = sym (q.heads ∙ g.same.heads ∙ r.same.heads ∙ w.same.heads) in
    let xs = sym (q.nexts ∙ g.same.nexts ∙ r.same.nexts ∙ w.same.nexts) in
    rw (sym e)
    (gathered_as _ _ _ _ _ _ _ _ _ _ (grind (arith, common_steps)) (grind (arith, common_steps)) (grind (arith, common_steps))
    (gathered (nodes k) _ _ c.args.roots.now _ _ w.running.flat inside r.listed s _ _ _ c.gather.ensures.narrow
    (c.gather.ensures.columns _ (rw (nodes_same k c.list_rest.new.self (g.same.graph ∙ r.same.graph)) s.state)) (omega (arith, f.room.rest))))
