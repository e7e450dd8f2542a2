use Rattle.std.proofs.Common.{length, ap, arith}
use Rattle.lines.proofs.Pieces.{short_number, long_number}
use Rattle.lines.proofs.start_refused.Goals as goal

pub push_number-requires : goal.push_number-requires
push_number-requires c =
    let few = short_number c.args.refusal.number (omega arith) in
    omega (arith, ap length c.new-head.ensures, c.push_str.ensures.len)

pub push_str-requires-2 : goal.push_str-requires-2
push_str-requires-2 c =
    let few = short_number c.args.refusal.number (omega arith) in
    (omega arith, omega (arith, ap length c.new-head.ensures, c.push_str.ensures.len, c.push_number.ensures.len))

pub push_number-requires-2 : goal.push_number-requires-2
push_number-requires-2 c =
    let few = short_number c.args.refusal.number (omega arith) in
    let many = long_number c.args.refusal.place (omega arith) in
    omega (arith, ap length c.new-head.ensures, c.push_str.ensures.len, c.push_number.ensures.len, c.push_str-2.ensures.len)
