use Rattle.std.proofs.Common.{length, refl, sym, ap, ◌∙◌, subst, arith, length-set}
use Rattle.std.proofs.lemmas.Result.{err_from_is_err_and}
use Rattle.types.specs.Types.{variable, base}
use Rattle.graph.specs.Graph.{Solves}
use Rattle.walk.specs.Reads.{reads_variable, reads_base}
use Rattle.walk.specs.Lent.{nodes, held}
use Rattle.walk.proofs.Graphs.{nodes_at, root_within}
use Rattle.walk.proofs.Steps.{walked_known, looped}
use Rattle.walk.proofs.Opening.{nodes_long, nodes_same, mark_small, running_walked, fewer_left, place_left, running_opened, leaf_listed, parts_inside, left_below, right_below, branch_open, branch_complete, branch_fits, branch_listed}
use Rattle.walk.proofs.walking.Walk.+walk.Goals as goal

pub mark-requires-clause-few : goal.mark-requires-clause-few
mark-requires-clause-few t c =
    let k = c.args.self.now in
    mark_small k c.requires.running c.root-i.result (root_within k.graph.now c.args.at c.root-i.result c.requires.running.flat c.requires.inside c.root-i.ensures).0

pub returns-in-Open-clause-outcome : goal.returns-in-Open-clause-outcome
returns-in-Open-clause-outcome t c =
    let k = c.args.self.now in
    looped (nodes k) c.requires.running.flat k.marks.now c.args.at c.root-i.result (omega (arith, nodes_long k)) c.root-i.ensures (sym c.in-Open.ensures)

pub returns-in-Done-clause-outcome : goal.returns-in-Done-clause-outcome
returns-in-Done-clause-outcome t c =
    let k = c.args.self.now in
    walked_known (nodes k) c.requires.running.flat (held k) c.args.at c.root-i.result c.in-Done.place (omega (arith, nodes_long k)) c.root-i.ensures (sym c.in-Done.ensures)

pub close-requires-clause-running : goal.close-requires-clause-running
close-requires-clause-running t c = running_opened c.requires.running c.requires.inside c.root-i.ensures c.in-New.ensures c.from.ensures _ refl refl

pub close-requires-clause-fits : goal.close-requires-clause-fits
close-requires-clause-fits t c = place_left c.requires.running c.requires.inside c.root-i.ensures c.in-New.ensures c.from.ensures

pub close-requires-in-Base-clause-running : goal.close-requires-in-Base-clause-running
close-requires-in-Base-clause-running t c = running_opened c.requires.running c.requires.inside c.root-i.ensures c.in-New.ensures c.from.ensures _ refl refl

pub close-requires-in-Base-clause-fits : goal.close-requires-in-Base-clause-fits
close-requires-in-Base-clause-fits t c = place_left c.requires.running c.requires.inside c.root-i.ensures c.in-New.ensures c.from.ensures

pub walk-requires : goal.walk-requires
walk-requires t c =
    let z = fewer_left c.requires.running c.requires.inside c.root-i.ensures c.in-New.ensures c.from.ensures in
    let d = parts_inside c.requires.running c.requires.inside c.root-i.ensures c.in-New.ensures c.from.ensures c.in-Branch.ensures in
    (omega (arith, c.decreases), (running_opened c.requires.running c.requires.inside c.root-i.ensures c.in-New.ensures c.from.ensures _ refl refl, d.0))

pub returns-in_err-left-in-Branch-clause-outcome : goal.returns-in_err-left-in-Branch-clause-outcome
returns-in_err-left-in-Branch-clause-outcome t c =
    let p = err_from_is_err_and c.from_residual.result c.from_residual.ensures.1 in
    rw p.1
    (λ above. c.in_err-left-in-Branch.ensures.outcome (left_below c.requires.running c.requires.inside c.root-i.ensures c.in-New.ensures c.from.ensures c.in-Branch.ensures above))

pub walk-requires-in-Branch : goal.walk-requires-in-Branch
walk-requires-in-Branch t c =
    let z = fewer_left c.requires.running c.requires.inside c.root-i.ensures c.in-New.ensures c.from.ensures in
    let d = parts_inside c.requires.running c.requires.inside c.root-i.ensures c.in-New.ensures c.from.ensures c.in-Branch.ensures in
    let l = c.in_ok-left-in-Branch.ensures in (
      omega (arith, c.decreases, l.outcome.fewer),
      (
        running_walked (running_opened c.requires.running c.requires.inside c.root-i.ensures c.in-New.ensures c.from.ensures _ refl refl) l.same l.outcome,
        omega (arith, d.1, ap (λ x. length x.now) l.same.graph),
      ),
    )

pub returns-in_err-right-in-Branch-clause-outcome : goal.returns-in_err-right-in-Branch-clause-outcome
returns-in_err-right-in-Branch-clause-outcome t c =
    let k = c.args.self.now in
    let l = c.in_ok-left-in-Branch.ensures in
    let p = err_from_is_err_and c.from_residual-in_err-right-in-Branch.result c.from_residual-in_err-right-in-Branch.ensures.1 in
    rw p.1
    (λ above v s. c.in_err-right-in-Branch.ensures.outcome
    (right_below c.requires.running c.requires.inside c.root-i.ensures c.in-New.ensures c.from.ensures c.in-Branch.ensures c.walk.new.self l.same.graph l.outcome above)
    v (subst (Solves v) (sym (nodes_same k c.walk.new.self l.same.graph)) s))

pub close-requires-in-Branch-clause-running : goal.close-requires-in-Branch-clause-running
close-requires-in-Branch-clause-running t c =
    let l = c.in_ok-left-in-Branch.ensures in
    let r = c.in_ok-right-in-Branch.ensures in
    running_walked
    (running_walked (running_opened c.requires.running c.requires.inside c.root-i.ensures c.in-New.ensures c.from.ensures _ refl refl) l.same l.outcome)
    r.same r.outcome

pub close-requires-in-Branch-clause-opened : goal.close-requires-in-Branch-clause-opened
close-requires-in-Branch-clause-opened t c =
    let l = c.in_ok-left-in-Branch.ensures in
    let r = c.in_ok-right-in-Branch.ensures in
    branch_open c.requires.running c.requires.inside c.root-i.ensures c.in-New.ensures c.from.ensures c.in-Branch.ensures
    _ l.same.graph l.outcome r.same (l.same.marks-long ∙ length-set _ _ _) r.outcome

pub close-requires-in-Branch-clause-complete : goal.close-requires-in-Branch-clause-complete
close-requires-in-Branch-clause-complete t c =
    let l = c.in_ok-left-in-Branch.ensures in
    let r = c.in_ok-right-in-Branch.ensures in
    branch_complete c.requires.running c.requires.inside c.root-i.ensures c.in-New.ensures c.from.ensures c.in-Branch.ensures
    _ l.same.graph l.outcome r.same (l.same.marks-long ∙ length-set _ _ _) r.outcome

pub close-requires-in-Branch-clause-fits : goal.close-requires-in-Branch-clause-fits
close-requires-in-Branch-clause-fits t c =
    let l = c.in_ok-left-in-Branch.ensures in
    let r = c.in_ok-right-in-Branch.ensures in
    branch_fits c.requires.running c.requires.inside c.root-i.ensures c.in-New.ensures c.from.ensures c.in-Branch.ensures
    _ l.same.graph l.outcome r.same (l.same.marks-long ∙ length-set _ _ _) r.outcome

pub returns-in-Var-clause-outcome : goal.returns-in-Var-clause-outcome
returns-in-Var-clause-outcome t c =
    let k = c.args.self.now in
    let i = c.root-i.result in
    leaf_listed c.requires.running c.requires.inside c.root-i.ensures c.in-New.ensures c.from.ensures
    _ _ (variable i) _ c.variable.result c.variable.ensures c.close.ensures.closed (reads_variable (nodes_at k.graph.now i ∙ sym c.in-Var.ensures)) (λ ps. (refl, tt, refl))

pub returns-in-Base-clause-outcome : goal.returns-in-Base-clause-outcome
returns-in-Base-clause-outcome t c =
    let k = c.args.self.now in
    let i = c.root-i.result in
    leaf_listed c.requires.running c.requires.inside c.root-i.ensures c.in-New.ensures c.from.ensures
    _ _ (base c.in-Base.c) _ c.base.result c.base.ensures c.close-in-Base.ensures.closed (reads_base (nodes_at k.graph.now i ∙ sym c.in-Base.ensures)) (λ ps. (refl, tt, refl))

pub returns-in_ok-right-in-Branch-clause-outcome : goal.returns-in_ok-right-in-Branch-clause-outcome
returns-in_ok-right-in-Branch-clause-outcome t c =
    let l = c.in_ok-left-in-Branch.ensures in
    let r = c.in_ok-right-in-Branch.ensures in
    branch_listed c.requires.running c.requires.inside c.root-i.ensures c.in-New.ensures c.from.ensures c.in-Branch.ensures
    _ l.same.graph l.outcome r.same (l.same.marks-long ∙ length-set _ _ _) r.outcome _ _ c.close-in-Branch.ensures.closed
