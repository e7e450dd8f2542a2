use Rattle.infer.proofs.Calls.{calls, calls_none}
use Rattle.infer.proofs.call.Goals as goal

pub returns-clause-called : goal.returns-clause-called
returns-clause-called c =
    let p = c.requires in
    let v = c.push-result.ensures in
    let w = c.push-whole.ensures in
    let u = c.unify.ensures in
    calls c.args.graph.now c.push-result.new.self c.push-whole.new.self _ _ _ _ p.sound p.room p.first p.second v.place v.used v.kept.1 (rw c.variable.ensures at v.nodes) w.place w.used w.kept.1 (rw c.arrow.ensures at w.nodes) c.unify.new.self _ u.unified _ c.in_ok-ok.ensures.value u.used u.kept.1

pub returns-in_err-ok-clause-called : goal.returns-in_err-ok-clause-called
returns-in_err-ok-clause-called c =
    let p = c.requires in
    let v = c.push-result.ensures in
    let w = c.push-whole.ensures in
    rw c.from_residual.ensures (calls_none c.args.graph.now c.push-result.new.self c.push-whole.new.self _ _ _ _ p.sound p.room p.first p.second v.place v.used v.kept.1 (rw c.variable.ensures at v.nodes) w.place w.used w.kept.1 (rw c.arrow.ensures at w.nodes) c.unify.new.self _ c.unify.ensures.unified c.in_err-ok.ensures.value)
