use Rattle.std.proofs.Common.{arith}
use Rattle.std.proofs.lemmas.List.{length-map}
use Rattle.graph.specs.Graph.{view}
use Rattle.walk.specs.Lent.{nodes, held}
use Rattle.walk.proofs.Closing.{closed_found, closed_appended}
use Rattle.walk.proofs.walking.Walk.close.Goals as goal

pub returns-in-Some-clause-closed : goal.returns-in-Some-clause-closed
returns-in-Some-clause-closed c =
    let k = c.args.self.now in
    rw c.from.ensures (closed_found (nodes k) (held k) c.args.i c.args.x (omega (arith, c.requires.running.room.marks)) c.requires.opened c.requires.complete c.in-Some.place c.in-Some.ensures)

pub returns-in-None-clause-closed : goal.returns-in-None-clause-closed
returns-in-None-clause-closed c =
    let k = c.args.self.now in
    let e = c.append.ensures in
    let r = c.requires.running.room in
    closed_appended (nodes k) (held k) c.args.i c.args.x (omega (arith, r.marks)) c.requires.opened c.requires.complete
    c.in-None.ensures (omega (arith, length-map k.graph.now view)) c.requires.stands (omega arith) (omega arith) (omega arith)
    _ _ _ _ _ _ e.place e.count e.marks e.origins e.heads e.nexts
