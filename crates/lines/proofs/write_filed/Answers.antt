use Rattle.std.proofs.Common.{length, ap, ◌∙◌, arith}
use Rattle.types.specs.Lists.{meaning}
use Rattle.printing.specs.Text.{text}
use Rattle.lines.proofs.Pieces.{filed_number, filed_head_long, short_text, filed_written}
use Rattle.lines.proofs.write_filed.Goals as goal

pub put_type-end-requires-clause-room : goal.put_type-end-requires-clause-room
put_type-end-requires-clause-room c =
    let few = filed_number c.args.number c.requires.filed in
    let size = ap length (c.as_bytes.ensures.value ∙ c.as_str.ensures.value ∙ c.start_filed-head.ensures) ∙ filed_head_long c.args.number in
    omega (arith, c.put-start.ensures.stop)

pub end_line-requires : goal.end_line-requires
end_line-requires c =
    let few = filed_number c.args.number c.requires.filed in
    let size = ap length (c.as_bytes.ensures.value ∙ c.as_str.ensures.value ∙ c.start_filed-head.ensures) ∙ filed_head_long c.args.number in
    let short = short_text (text (meaning c.args.list.now)) in
    omega (arith, c.put-start.ensures.stop, c.put_type-end.ensures.stop)

pub returns : goal.returns
returns c =
    let head = c.as_bytes.ensures.value ∙ c.as_str.ensures.value ∙ c.start_filed-head.ensures in
    filed_written c.args.number c.args.list.now c.args.out.now c.put-start.new.out _ _ c.put-start.result _ _ c.requires.filed c.requires.room
    (rw head at c.put-start.ensures)
    c.put_type-end.ensures
    c.end_line.ensures
