use Rattle.std.proofs.Common.{length, ap, arith}
use Rattle.lines.proofs.Pieces.{filed_number}
use Rattle.lines.proofs.start_filed.Goals as goal

pub push_number-requires : goal.push_number-requires
push_number-requires c = omega (arith, filed_number c.args.number c.requires, ap length c.new-head.ensures, c.push_str.ensures.len)

pub push_str-requires-2 : goal.push_str-requires-2
push_str-requires-2 c =
    let few = filed_number c.args.number c.requires in
    (omega arith, omega (arith, few, ap length c.new-head.ensures, c.push_str.ensures.len, c.push_number.ensures.len))
