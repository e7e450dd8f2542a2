use Rattle.std.proofs.Common.{ℕ, List, ◌++◌, length, sym, ap, ◌∙◌, arith}
use Rattle.printing.proofs.Arrows.{parts_lower, text_arrow}
use Rattle.printing.proofs.+push_type.Goals as goal

pub push_type-push_arrow-requires : goal.push_type-push_arrow-requires
push_type-push_arrow-requires t c =
    let low = parts_lower c.args.list.now c.requires.lawful c.args.place c.requires.here c.in-Some-Arrow.left c.in-Some-Arrow.right (cc) in
    let is = text_arrow c.args.list.now c.requires.lawful c.args.place c.requires.here c.in-Some-Arrow.left c.in-Some-Arrow.right (cc) in
    (omega (arith, low.0, low.1), (c.requires.lawful, (omega (arith, low.0), (omega (arith, low.1), omega (arith, ap length is, c.requires.room)))))

pub push_type-returns-in-Some-Arrow : goal.push_type-returns-in-Some-Arrow
push_type-returns-in-Some-Arrow t c =
    let is = text_arrow c.args.list.now c.requires.lawful c.args.place c.requires.here c.in-Some-Arrow.left c.in-Some-Arrow.right (cc) in
    c.push_arrow.ensures ∙ ap (λ (x : List ℕ). c.args.out.now.bytes ++ x) (sym is)
