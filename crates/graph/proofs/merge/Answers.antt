use Rattle.std.proofs.lemmas.Result.{err_from_is_err_and}
use Rattle.graph.proofs.Merging.{merges_other, merges_var, merges_none}
use Rattle.graph.proofs.merge.Goals.{in-Var, in_default}
use Rattle.graph.proofs.merge.Goals as goal

pub returns-in_err-parts : goal.returns-in_err-parts
returns-in_err-parts c =
    let p = c.requires in
    let r = err_from_is_err_and c.from_residual.result c.from_residual.ensures.1 in
    rw r.1 (merges_none _ _ _ _ _ c.from-said.ensures c.from.ensures p.sound p.order p.within p.lower p.upper _ c.in_err-parts.ensures)

pub returns : goal.returns
returns c =
    let p = c.requires in
    elim c.match-said.branch [
      | in-Var w ↦ merges_var _ _ _ _ _ c.from-said.ensures c.from.ensures p.sound p.order p.within p.lower p.upper _ _ _ w.nodes-is c.from-2.ensures c.in_ok-parts.ensures w.in-Var.is
      | in_default w ↦ merges_other _ _ _ _ _ c.from-said.ensures c.from.ensures p.sound p.order p.within p.lower p.upper _ _ _ w.nodes-is c.from-2.ensures c.in_ok-parts.ensures w.in_default.not-Var
    ]
