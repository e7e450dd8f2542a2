use Rattle.std.proofs.Common.{length, ap, arith}
use Rattle.printing.proofs.Arrows.{text_variable, text_arrow}
use Rattle.printing.proofs.length_at.Goals as goal

pub returns-in-Some-Variable : goal.returns-in-Some-Variable
returns-in-Some-Variable c =
    let is = text_variable c.args.list.now c.requires.lawful c.args.place c.requires.here c.in-Some-Variable.number (cc) in
    omega (arith, ap length is, c.letters_length.ensures.counted, c.letters_length.ensures.short)

pub returns-in-Some-Arrow : goal.returns-in-Some-Arrow
returns-in-Some-Arrow c =
    let is = text_arrow c.args.list.now c.requires.lawful c.args.place c.requires.here c.in-Some-Arrow.left c.in-Some-Arrow.right (cc) in
    omega (arith, ap length is, c.arrow_length.ensures)
