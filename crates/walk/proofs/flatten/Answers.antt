use Rattle.std.proofs.Common.{arith}
use Rattle.graph.specs.Graph.{Always}
use Rattle.graph.proofs.Writes.{kept_then}
use Rattle.walk.proofs.Flattening.{straight_flat}
use Rattle.walk.proofs.flatten.Goals as goal

pub loop-i-preserved : goal.loop-i-preserved
loop-i-preserved c =
    let i = c.loop-i.invariant in
    let e = c.straighten.ensures in
    record { kept = kept_then _ _ _ Always Always i.kept e.kept; straight = e.straight; simple = λ s. e.simple (i.simple s) }

pub returns : goal.returns
returns c =
    let i = c.loop-i.invariant in
    record { kept = i.kept; flat = straight_flat c.loop-i.graph i.kept.sound (λ k h. i.straight k (omega arith)); simple = i.simple }
