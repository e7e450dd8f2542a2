use Rattle.std.proofs.Common.{◌<◌, length, Some, refl, ◌∙◌, arith}
use Rattle.copy.specs.Instances.{Lists}
use Rattle.term.specs.declared.Symbol.TheVariants.{Variable, Abstraction, Application, Primitive, Reference}
use Rattle.infer.proofs.Prefixes.{Starts, starts_some, starts_none}
use Rattle.infer.proofs.Passing.{clash_past, clash_none, clash_variable, find_variable, clash_primitive, find_primitive, clash_reference, find_reference, body_sound, body_room, body_scoped, clash_body, find_abstraction, scope_back, clash_function, clash_argument, clash_call, find_application}
use Rattle.infer.proofs.Term.+pass.Goals.{in-Variable+in_ok-binder-in-Variable, in-Abstraction+in_ok-body-in-Abstraction, in-Application+in_ok-f-in-Application+in_ok-x-in-Application+in_ok-call-in-Application, in-Primitive+in_ok-copy-in-Primitive, in-Reference+in_ok-copy-in-Reference}
use Rattle.infer.proofs.Term.+pass.Goals as goal

pub returns-in_err-get-clause-passed : goal.returns-in_err-get-clause-passed
returns-in_err-get-clause-passed g t c = rw c.from_residual.ensures (clash_past _ _ _ _ _ c.args.graph.now c.in_err-get.ensures.lookup.3)

pub returns-in_err-symbol-clause-passed : goal.returns-in_err-symbol-clause-passed
returns-in_err-symbol-clause-passed g t c = rw c.from_residual-in_err-symbol.ensures (clash_none _ _ _ _ _ c.args.graph.now (starts_none _ _ _ c.in_ok-get.ensures.lookup.3 c.in_err-symbol.ensures))

pub returns-in_err-binder-in-Variable-clause-passed : goal.returns-in_err-binder-in-Variable-clause-passed
returns-in_err-binder-in-Variable-clause-passed g t c =
    let E : Lists = g.E.Source.list c.args.self.now.entries.now in
    let K : Lists = g.K.Source.list c.args.self.now.kept.now in
    let p = c.requires in
    let st : Starts c.args.self.now.nodes.now c.args.at (Some (Variable c.in-Variable.n)) = starts_some _ _ _ _ _ c.in_ok-get.ensures.lookup.3 c.in_ok-symbol.ensures c.in-Variable.is in
    rw c.from_residual-in_err-binder-in-Variable.ensures (clash_variable E K c.args.self.now.nodes.now c.args.at c.args.scope.now c.args.places.now c.args.graph.now p.sound p.room p.scoped _ st c.in_err-binder-in-Variable.ensures)

pub pass-requires : goal.pass-requires
pass-requires g t c κs within =
    let E : Lists = g.E.Source.list c.args.self.now.entries.now in
    let K : Lists = g.K.Source.list c.args.self.now.kept.now in
    let p = c.requires in
    let st : Starts c.args.self.now.nodes.now c.args.at (Some Abstraction) = starts_some _ _ _ _ _ c.in_ok-get.ensures.lookup.3 c.in_ok-symbol.ensures c.in-Abstraction.is in
    let b = c.push-binder.ensures in
    let e = c.enter.ensures in
    let e1 = rw c.variable.ensures at b.nodes in
    let room = body_room E K c.args.self.now.nodes.now c.args.at c.args.scope.now c.args.places.now c.args.graph.now p.sound p.room p.scoped st c.push-binder.new.self e1 b.used b.kept.1 c.enter.new.self c.push-binder.result b.place e.held in (
      omega (arith, c.decreases, st.0),
      (
        within.0,
        (
          within.1,
          (
            omega (arith, p.inner, st.0, e.depth, e.kept.1),
            (
              body_sound E K c.args.self.now.nodes.now c.args.at c.args.scope.now c.args.places.now c.args.graph.now p.sound p.room p.scoped st c.push-binder.new.self e1 b.used b.kept.1 c.enter.new.self c.push-binder.result b.place e.held,
              (
                omega (arith, room, p.room, b.kept.1),
                (
                  omega (arith, room, p.small),
                  (
                    omega (arith, p.inner, st.0, e.depth, e.kept.1),
                    (
                      p.placed,
                      body_scoped E K c.args.self.now.nodes.now c.args.at c.args.scope.now c.args.places.now c.args.graph.now p.sound p.room p.scoped st c.push-binder.new.self e1 b.used b.kept.1 c.enter.new.self c.push-binder.result b.place e.held,
                    ),
                  ),
                ),
              ),
            ),
          ),
        ),
      ),
    )

pub returns-in_err-body-in-Abstraction-clause-passed : goal.returns-in_err-body-in-Abstraction-clause-passed
returns-in_err-body-in-Abstraction-clause-passed g t c =
    let E : Lists = g.E.Source.list c.args.self.now.entries.now in
    let K : Lists = g.K.Source.list c.args.self.now.kept.now in
    let p = c.requires in
    let st : Starts c.args.self.now.nodes.now c.args.at (Some Abstraction) = starts_some _ _ _ _ _ c.in_ok-get.ensures.lookup.3 c.in_ok-symbol.ensures c.in-Abstraction.is in
    let b = c.push-binder.ensures in
    rw c.from_residual-in_err-body-in-Abstraction.ensures (clash_body E K c.args.self.now.nodes.now c.args.at c.args.scope.now c.args.places.now c.args.graph.now p.sound p.room p.scoped st c.push-binder.new.self (rw c.variable.ensures at b.nodes) b.used b.kept.1 c.enter.new.self c.push-binder.result b.place c.enter.ensures.held c.in_err-body-in-Abstraction.ensures.passed)

pub returns-in_err-f-in-Application-clause-passed : goal.returns-in_err-f-in-Application-clause-passed
returns-in_err-f-in-Application-clause-passed g t c =
    let E : Lists = g.E.Source.list c.args.self.now.entries.now in
    let K : Lists = g.K.Source.list c.args.self.now.kept.now in
    let p = c.requires in
    let st : Starts c.args.self.now.nodes.now c.args.at (Some Application) = starts_some _ _ _ _ _ c.in_ok-get.ensures.lookup.3 c.in_ok-symbol.ensures c.in-Application.is in
    rw c.from_residual-in_err-f-in-Application.ensures (clash_function E K c.args.self.now.nodes.now c.args.at c.args.scope.now c.args.places.now c.args.graph.now p.sound p.room p.scoped st c.in_err-f-in-Application.ensures.passed)

pub returns-in_err-x-in-Application-clause-passed : goal.returns-in_err-x-in-Application-clause-passed
returns-in_err-x-in-Application-clause-passed g t c =
    let E : Lists = g.E.Source.list c.args.self.now.entries.now in
    let K : Lists = g.K.Source.list c.args.self.now.kept.now in
    let p = c.requires in
    let st : Starts c.args.self.now.nodes.now c.args.at (Some Application) = starts_some _ _ _ _ _ c.in_ok-get.ensures.lookup.3 c.in_ok-symbol.ensures c.in-Application.is in
    rw c.from_residual-in_err-x-in-Application.ensures (clash_argument E K c.args.self.now.nodes.now c.args.at c.args.scope.now c.args.places.now c.args.graph.now p.sound p.room p.scoped st c.pass-in-Application.new.scope _ c.pass-in-Application.new.graph _ c.in_ok-f-in-Application.ensures.passed c.in_err-x-in-Application.ensures.passed)

pub returns-in_err-call-in-Application-clause-passed : goal.returns-in_err-call-in-Application-clause-passed
returns-in_err-call-in-Application-clause-passed g t c =
    let E : Lists = g.E.Source.list c.args.self.now.entries.now in
    let K : Lists = g.K.Source.list c.args.self.now.kept.now in
    let p = c.requires in
    let st : Starts c.args.self.now.nodes.now c.args.at (Some Application) = starts_some _ _ _ _ _ c.in_ok-get.ensures.lookup.3 c.in_ok-symbol.ensures c.in-Application.is in
    rw c.from_residual-in_err-call-in-Application.ensures (clash_call E K c.args.self.now.nodes.now c.args.at c.args.scope.now c.args.places.now c.args.graph.now p.sound p.room p.scoped st c.pass-in-Application.new.scope _ c.pass-in-Application.new.graph _ c.in_ok-f-in-Application.ensures.passed c.pass-in-Application-2.new.scope _ c.pass-in-Application-2.new.graph _ c.in_ok-x-in-Application.ensures.passed c.in_err-call-in-Application.ensures.called)

pub returns-in_err-copy-in-Primitive-clause-passed : goal.returns-in_err-copy-in-Primitive-clause-passed
returns-in_err-copy-in-Primitive-clause-passed g t c =
    let E : Lists = g.E.Source.list c.args.self.now.entries.now in
    let K : Lists = g.K.Source.list c.args.self.now.kept.now in
    let p = c.requires in
    let st : Starts c.args.self.now.nodes.now c.args.at (Some (Primitive c.in-Primitive.k)) = starts_some _ _ _ _ _ c.in_ok-get.ensures.lookup.3 c.in_ok-symbol.ensures c.in-Primitive.is in
    rw c.from_residual-in_err-copy-in-Primitive.ensures (clash_primitive E K c.args.self.now.nodes.now c.args.at c.args.scope.now c.args.places.now c.args.graph.now p.sound p.room p.scoped _ c.copy.new.graph st c.in_err-copy-in-Primitive.ensures.copied)

pub returns-in_err-copy-in-Reference-clause-passed : goal.returns-in_err-copy-in-Reference-clause-passed
returns-in_err-copy-in-Reference-clause-passed g t c =
    let E : Lists = g.E.Source.list c.args.self.now.entries.now in
    let K : Lists = g.K.Source.list c.args.self.now.kept.now in
    let p = c.requires in
    let st : Starts c.args.self.now.nodes.now c.args.at (Some (Reference c.in-Reference.n)) = starts_some _ _ _ _ _ c.in_ok-get.ensures.lookup.3 c.in_ok-symbol.ensures c.in-Reference.is in
    rw c.from_residual-in_err-copy-in-Reference.ensures (clash_reference E K c.args.self.now.nodes.now c.args.at c.args.scope.now c.args.places.now c.args.graph.now p.sound p.room p.scoped _ c.copy-in-Reference.new.graph st c.in_err-copy-in-Reference.ensures.copied)

pub returns-clause-graph : goal.returns-clause-graph
returns-clause-graph g t c =
    elim c.match-symbol.branch [
      | in-Variable+in_ok-binder-in-Variable w ↦ rw w.graph-is (refl, refl)
      | in-Abstraction+in_ok-body-in-Abstraction w ↦
          (let b = w.push-binder.ensures.kept in
          let e = w.in_ok-body-in-Abstraction.ensures.graph in
          let f = w.push.ensures.kept in
          rw w.graph-is (f.0 ∙ e.0 ∙ b.0, f.1 ∙ e.1 ∙ b.1))
      | in-Application+in_ok-f-in-Application+in_ok-x-in-Application+in_ok-call-in-Application w ↦
          (let f = w.in_ok-f-in-Application.ensures.graph in
          let x = w.in_ok-x-in-Application.ensures.graph in
          let k = w.call.ensures.kept in
          rw w.graph-is (k.0 ∙ x.0 ∙ f.0, k.1 ∙ x.1 ∙ f.1))
      | in-Primitive+in_ok-copy-in-Primitive w ↦ rw w.graph-is w.copy.ensures.kept
      | in-Reference+in_ok-copy-in-Reference w ↦ rw w.graph-is w.copy-in-Reference.ensures.kept
    ]

pub returns-clause-scope : goal.returns-clause-scope
returns-clause-scope g t c =
    elim c.match-symbol.branch [
      | in-Variable+in_ok-binder-in-Variable w ↦ rw w.scope-is (refl, refl)
      | in-Abstraction+in_ok-body-in-Abstraction w ↦
          (let b = w.enter.ensures.kept in
          let e = w.in_ok-body-in-Abstraction.ensures.scope in
          let f = w.leave.ensures.kept in
          rw w.scope-is (f.0 ∙ e.0 ∙ b.0, f.1 ∙ e.1 ∙ b.1))
      | in-Application+in_ok-f-in-Application+in_ok-x-in-Application+in_ok-call-in-Application w ↦
          (let f = w.in_ok-f-in-Application.ensures.scope in
          let x = w.in_ok-x-in-Application.ensures.scope in
          rw w.scope-is (x.0 ∙ f.0, x.1 ∙ f.1))
      | in-Primitive+in_ok-copy-in-Primitive w ↦ rw w.scope-is (refl, refl)
      | in-Reference+in_ok-copy-in-Reference w ↦ rw w.scope-is (refl, refl)
    ]

pub returns-clause-passed : goal.returns-clause-passed
returns-clause-passed g t c =
    let E : Lists = g.E.Source.list c.args.self.now.entries.now in
    let K : Lists = g.K.Source.list c.args.self.now.kept.now in
    let p = c.requires in
    let in_places : c.args.at < length c.args.places.now = omega (arith, p.placed, c.in_ok-get.ensures.lookup.3.0) in
    elim c.match-symbol.branch [
      | in-Variable+in_ok-binder-in-Variable w ↦
          (let st : Starts c.args.self.now.nodes.now c.args.at (Some (Variable w.in-Variable.n)) = starts_some _ _ _ _ _ c.in_ok-get.ensures.lookup.3 c.in_ok-symbol.ensures w.in-Variable.is in
          rw (w.scope-is, w.places-is, w.graph-is, w.found-is) (find_variable E K c.args.self.now.nodes.now c.args.at c.args.scope.now c.args.places.now c.args.graph.now p.sound p.room p.scoped _ _ st in_places w.in_ok-binder-in-Variable.ensures))
      | in-Abstraction+in_ok-body-in-Abstraction w ↦
          (let st : Starts c.args.self.now.nodes.now c.args.at (Some Abstraction) = starts_some _ _ _ _ _ c.in_ok-get.ensures.lookup.3 c.in_ok-symbol.ensures w.in-Abstraction.is in
          let b = w.push-binder.ensures in
          let e = w.enter.ensures in
          let f = w.in_ok-body-in-Abstraction.ensures in
          let l = w.leave.ensures in
          let k = w.push.ensures in
          let e1 = rw w.variable.ensures at b.nodes in
          let e3 = rw w.arrow.ensures at k.nodes in
          rw (w.scope-is, w.places-is, w.graph-is, w.found-is) (find_abstraction E K c.args.self.now.nodes.now c.args.at c.args.scope.now c.args.places.now c.args.graph.now p.sound p.room p.scoped st w.push-binder.new.self e1 b.used b.kept.1 w.enter.new.self w.push-binder.result b.place e.held w.pass.new.scope w.leave.new.self w.pass.new.places w.pass.new.graph w.push.new.self w.in_ok-body-in-Abstraction.body w.push.result f.passed (omega (arith, in_places)) (scope_back c.args.scope.now w.enter.new.self w.pass.new.scope w.leave.new.self _ p.deep e.held e.depth f.passed.scope f.passed.depth l.held) (omega (arith, l.depth, f.passed.depth, e.depth)) f.graph.1 k.place k.used k.kept.1 e3))
      | in-Application+in_ok-f-in-Application+in_ok-x-in-Application+in_ok-call-in-Application w ↦
          (let st : Starts c.args.self.now.nodes.now c.args.at (Some Application) = starts_some _ _ _ _ _ c.in_ok-get.ensures.lookup.3 c.in_ok-symbol.ensures w.in-Application.is in
          let f = w.in_ok-f-in-Application.ensures in
          let x = w.in_ok-x-in-Application.ensures in
          let k = w.call.ensures in
          rw (w.scope-is, w.places-is, w.graph-is, w.found-is) (find_application E K c.args.self.now.nodes.now c.args.at c.args.scope.now c.args.places.now c.args.graph.now p.sound p.room p.scoped st w.pass-in-Application.new.scope w.pass-in-Application.new.places w.pass-in-Application.new.graph w.in_ok-f-in-Application.f f.passed w.pass-in-Application-2.new.scope w.pass-in-Application-2.new.places w.pass-in-Application-2.new.graph w.in_ok-x-in-Application.x x.passed w.call.new.graph w.in_ok-call-in-Application.field-0 (omega (arith, in_places)) (k.kept.1 ∙ x.graph.1 ∙ f.graph.1) k.used w.in_ok-call-in-Application.ensures.called))
      | in-Primitive+in_ok-copy-in-Primitive w ↦
          (let st : Starts c.args.self.now.nodes.now c.args.at (Some (Primitive w.in-Primitive.k)) = starts_some _ _ _ _ _ c.in_ok-get.ensures.lookup.3 c.in_ok-symbol.ensures w.in-Primitive.is in
          rw (w.scope-is, w.places-is, w.graph-is, w.found-is) (find_primitive E K c.args.self.now.nodes.now c.args.at c.args.scope.now c.args.places.now c.args.graph.now p.sound p.room p.scoped _ _ w.copy.new.graph st in_places w.copy.ensures.used w.copy.ensures.kept.1 w.in_ok-copy-in-Primitive.ensures.copied))
      | in-Reference+in_ok-copy-in-Reference w ↦
          (let st : Starts c.args.self.now.nodes.now c.args.at (Some (Reference w.in-Reference.n)) = starts_some _ _ _ _ _ c.in_ok-get.ensures.lookup.3 c.in_ok-symbol.ensures w.in-Reference.is in
          rw (w.scope-is, w.places-is, w.graph-is, w.found-is) (find_reference E K c.args.self.now.nodes.now c.args.at c.args.scope.now c.args.places.now c.args.graph.now p.sound p.room p.scoped _ _ w.copy-in-Reference.new.graph st in_places w.copy-in-Reference.ensures.used w.copy-in-Reference.ensures.kept.1 w.in_ok-copy-in-Reference.ensures.copied))
    ]
