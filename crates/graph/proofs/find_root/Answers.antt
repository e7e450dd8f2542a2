use Rattle.std.proofs.Common.{sym, ◌∙◌, arith}
use Rattle.graph.specs.Graph.{Always}
use Rattle.graph.proofs.Writes.{kept_then}
use Rattle.graph.proofs.Memory.{link_down, link_says}
use Rattle.graph.proofs.find_root.Goals as goal

pub loop-next-preserved : goal.loop-next-preserved
loop-next-preserved c =
    let inv = c.loop-next.invariant in
    let s = c.shorten.ensures in
    let is = sym c.in-Link.ensures in
    let down = link_down _ _ _ inv.0 inv.1.sound is in
    (omega arith, kept_then _ _ _ Always Always inv.1 s.kept, (λ k. s.still k ∙ inv.2 k), λ v t. inv.3 v t ∙ link_says v _ _ _ inv.0 (inv.1.onto v t tt).0 is)

pub loop-next-smaller : goal.loop-next-smaller
loop-next-smaller c = let inv = c.loop-next.invariant in link_down _ _ _ inv.0 inv.1.sound (sym c.in-Link.ensures)

pub shorten-requires-clause-below : goal.shorten-requires-clause-below
shorten-requires-clause-below c = let inv = c.loop-next.invariant in omega (arith, link_down _ _ _ inv.0 inv.1.sound (sym c.in-Link.ensures))
