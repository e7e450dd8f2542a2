use Rattle.std.proofs.Common.{rules, ◌≡◌, map, take, replicate, sym, ◌∙◌, arith}
use Rattle.std.proofs.lemmas.List.{length-map}
use Rattle.types.specs.Lists.{zero_node}
use Rattle.graph.specs.Graph.{view, graph}
use Rattle.walk.proofs.Whole.{listed, cleared}
use Rattle.walk.proofs.list_types.Goals as goal

pub returns-in-Ok : goal.returns-in-Ok
returns-in-Ok c =
    let ns = graph c.args.memory.now c.args.used in
    let ms = map view c.flatten.new.graph in
    let n = length-map c.flatten.new.graph view in
    let d : c.default.result ≡ zero_node = search rules in
    let f : c.fill.new.self ≡ replicate _ c.default.result = c.fill.ensures.after (λ y h. search rules) in
    listed ns ms c.args.roots.now _ _ _ _ c.in-Ok.count _ c.write_rows.new.rows c.fill.new.self
    c.flatten.ensures.kept (n ∙ c.flatten.auto.graph ∙ sym (length-map (take c.args.used c.args.memory.now) view)) c.flatten.ensures.simple
    c.in-Ok.ensures (omega (arith, c.in-Ok.ensures.within)) (λ p h. c.write_rows.ensures p (omega (arith, c.in-Ok.ensures.within))) (rw d at f)

pub returns-in-Err : goal.returns-in-Err
returns-in-Err c =
    let d : c.default-in-Err.result ≡ zero_node = search rules in
    let f : c.fill-in-Err.new.self ≡ replicate _ c.default-in-Err.result = c.fill-in-Err.ensures.after (λ y h. search rules) in
    (λ v s. c.in-Err.ensures v (c.flatten.ensures.kept.onto v s tt).0, cleared _ _ (rw d at f))
