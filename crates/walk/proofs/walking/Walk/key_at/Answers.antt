use Rattle.std.proofs.Common.{sym, ◌∙◌, ap₂}
use Rattle.types.specs.Lists.{node}
use Rattle.walk.proofs.Graphs.{nodes_at}
use Rattle.walk.proofs.Keys.{found_parts, key_variable, key_base, key_branch}
use Rattle.walk.proofs.walking.Walk.key_at.Goals as goal

pub place_of-requires : goal.place_of-requires
place_of-requires c =
    let k = c.args.self.now in
    let f = (found_parts k.graph.now k.marks.now c.requires.marked.0 c.requires.flat c.requires.marked.2 c.requires.long c.requires.marked.1 c.requires.few c.args.i _ _ _ c.requires.origin c.in-Branch.ensures).0 in
    record { inside = f.inside; known = f.known; done = f.done; few = f.few }

pub place_of-requires-in-Branch : goal.place_of-requires-in-Branch
place_of-requires-in-Branch c =
    let k = c.args.self.now in
    let f = (found_parts k.graph.now k.marks.now c.requires.marked.0 c.requires.flat c.requires.marked.2 c.requires.long c.requires.marked.1 c.requires.few c.args.i _ _ _ c.requires.origin c.in-Branch.ensures).1 in
    record { inside = f.inside; known = f.known; done = f.done; few = f.few }

pub returns-in-Var : goal.returns-in-Var
returns-in-Var c ps m =
    c.variable.ensures ∙ key_variable _ _ ps c.requires.flat m c.args.i _ c.requires.origin.inside c.requires.origin.mark (nodes_at c.args.self.now.graph.now c.args.i ∙ sym c.in-Var.ensures)

pub returns-in-Base : goal.returns-in-Base
returns-in-Base c ps m =
    c.base.ensures ∙ key_base _ _ ps c.requires.flat m c.args.i _ c.requires.origin.inside c.requires.origin.mark _ (nodes_at c.args.self.now.graph.now c.args.i ∙ sym c.in-Base.ensures)

pub returns-in-Branch : goal.returns-in-Branch
returns-in-Branch c ps m =
    ap₂ (node c.in-Branch.kind) c.place_of.ensures c.place_of-in-Branch.ensures
    ∙ key_branch _ _ ps c.requires.flat m c.args.i _ c.requires.origin.inside c.requires.origin.mark _ _ _ (nodes_at c.args.self.now.graph.now c.args.i ∙ sym c.in-Branch.ensures)
