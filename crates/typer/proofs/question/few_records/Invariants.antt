use Rattle.std.proofs.Common.{◌≡◌, ◌+◌, ◌≤◌, drop}
use Rattle.infer.specs.Heads.{need}
use Rattle.typer.proofs.question.few_records.Given as goal

abbrev pub invariant-loop-node : goal.invariant-loop-node
invariant-loop-node g l =
    (l.sum + need (g.E.Source.list l.term.entries.now) (g.K.Source.list l.term.kept.now) (drop l.node-index l.term.nodes.now) ≡ need (g.E.Source.list l.term.entries.now) (g.K.Source.list l.term.kept.now) l.term.nodes.now) × (l.sum ≤ 4096)
