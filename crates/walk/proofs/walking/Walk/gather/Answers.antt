use Rattle.std.proofs.Common.{rules, ◌≡◌, ◌-◌, ◌<◌, eqb, ◌≢◌, List, get_or, sym, ◌∙◌, subst, arith}
use Rattle.std.proofs.lemmas.List.{get_or-set_other}
use Rattle.graph.specs.declared.Node.{Node}
use Rattle.walk.specs.Work.{key_of, part, Marked}
use Rattle.walk.specs.Lent.{nodes}
use Rattle.walk.proofs.Gathering.{variables_take, columns_more, narrow_more, row_worked, variables_worked, number_narrow, key_made}
use Rattle.walk.proofs.Opening.{nodes_same}
use Rattle.walk.proofs.walking.Walk.gather.Goals as goal

pub number_of-requires : goal.number_of-requires
number_of-requires c =
    let r = c.requires.running in
    let v = c.loop-p.invariant.columns r.state.0 r.state.1 in
    omega (arith, v.1, variables_take r.state.0 c.loop-p.p (omega (arith, r.state.1.long)), r.state.1.long, r.room.rest, r.room.few)

pub loop-p-preserved : goal.loop-p-preserved
loop-p-preserved c =
    let p = c.loop-p.p in
    let k = c.args.self.now in
    let u = c.loop-p.self in
    let os = u.origins.now in
    let ls = u.heads.now in
    let rs = u.nexts.now in
    let inv = c.loop-p.invariant in
    let r = c.requires.running in
    let key = c.key_at-key.result in
    let e = c.number_of.ensures in
    let w = inv.columns r.state.0 r.state.1 in
    let bound : c.loop-p.variables < 65536 = omega (arith, w.1, variables_take r.state.0 p (omega (arith, r.state.1.long)), r.state.1.long, r.room.rest, r.room.few) in
    record {
      same = search rules;
      marks = inv.marks;
      rest = λ q h. let ne : q ≢ p = omega arith in get_or-set_other os p q key.kind 0 ne ∙ inv.rest q (omega arith);
      narrow =
          narrow_more os ls rs p (omega arith) (omega arith) (omega arith) key.kind c.number_of.result key.right
          (omega arith) (number_narrow (eqb key.kind 0) c.number_of.result c.loop-p.variables key.left e.value bound (omega arith)) (omega arith) inv.narrow;
      columns = λ ps s.
          (let m = subst (λ (ns : List Node). Marked ns u.marks.now ps) (sym (nodes_same k u inv.same.graph)) (subst (λ ms. Marked (nodes k) ms ps) (sym inv.marks) s.marked) in
          let i = get_or os p 0 in
          let f = subst (λ ms. key ≡ key_of ps (part ps (get_or ms i 0 - 2))) inv.marks (c.key_at-key.ensures ps m) in
          let is = key_made (nodes k) k.marks.now ps (get_or k.origins.now p 0) i p key (s.made p (omega arith)) (inv.rest p (omega arith)) f in
          let v = inv.columns ps s in (
            columns_more os ls rs p (omega arith) (omega arith) (omega arith) key.kind c.number_of.result key.right ps
                (row_worked ps s.marked.built p (omega (arith, s.long)) key c.number_of.result c.loop-p.variables is v.1 e.value) v.0,
            variables_worked ps s.marked.built p (omega (arith, s.long)) key c.loop-p.variables _ is v.1 e.count,
          ));
    }
