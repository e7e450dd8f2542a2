use Rattle.std.proofs.Common.{ℕ, ◌≡◌, ◌<◌, length, refl, sym, ◌∙◌, subst, arith}
use Rattle.types.specs.Lists.{Lawful}
use Rattle.graph.specs.Graph.{view}
use Rattle.graph.specs.Memory.{nodes}
use Rattle.copy.specs.Copies.{Fresh}
use Rattle.graph.proofs.Memory.{graph_length}
use Rattle.copy.proofs.Firsts.{noted_none}
use Rattle.copy.proofs.Instances.{Partly, partly_none, partly_more, told_copied}
use Rattle.copy.proofs.copy.Goals as goal

pub loop-i-init : goal.loop-i-init
loop-i-init g c = record { place = (refl, refl); used = omega arith; noted = noted_none _ 0 _; partly = λ some. partly_none _ _ _ c.requires.sound }

pub loop-i-preserved : goal.loop-i-preserved
loop-i-preserved g c =
    let inv = c.loop-i.invariant in
    let p = c.push.ensures in
    let l = g.S.Source.list c.args.source.now c.args.k in
    let long = graph_length c.args.graph.now.memory.now c.args.graph.now.used (omega (arith, c.requires.room)) in
    record {
      place = (p.kept.0 ∙ inv.place.0, p.kept.1 ∙ inv.place.1);
      used = omega arith;
      noted = c.fresh.ensures.noted;
      partly = λ some. partly_more _ (g.S.Source.lawful c.args.source.now c.args.k some) _ _ _ (omega arith) (inv.partly some) _ _ p.nodes (subst (λ (j : ℕ). Fresh l j c.loop-i.i (view c.fresh.result)) (sym long) c.fresh.ensures.fresh);
    }

pub returns-clause-copied : goal.returns-clause-copied
returns-clause-copied g c =
    let l = g.S.Source.list c.args.source.now c.args.k in
    let some : 0 < length l = omega arith in
    let all : c.loop-i.i ≡ length l = omega arith in
    let lawful : Lawful l = g.S.Source.lawful c.args.source.now c.args.k some in
    told_copied l lawful (nodes c.args.graph.now) (nodes c.loop-i.graph) _ (subst (Partly l lawful (nodes c.args.graph.now) (nodes c.loop-i.graph)) all (c.loop-i.invariant.partly some))
    (omega (arith, graph_length c.args.graph.now.memory.now c.args.graph.now.used (omega (arith, c.requires.room))))
