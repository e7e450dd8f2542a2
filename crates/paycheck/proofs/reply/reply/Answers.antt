use Rattle.std.proofs.Common.{take, refl}
use Rattle.std.proofs.lemmas.Result.{err_from_is_err_and}
use Rattle.printing.specs.declared.ShowFault.TheVariants.{Unlawful, TooLong}
use Rattle.paycheck.specs.Replies.{too_many_bytes, no_formula}
use Rattle.paycheck.proofs.Fronts.{untyped, lawful_front, types_line, too_long_line, shown_for}
use Rattle.paycheck.proofs.reply.reply.Goals as goal

pub returns-then-line-gt-LONGEST_TEXT : goal.returns-then-line-gt-LONGEST_TEXT
returns-then-line-gt-LONGEST_TEXT c = (too_many_bytes c.if-line-gt-LONGEST_TEXT.true, refl)

pub returns-in_err-count : goal.returns-in_err-count
returns-in_err-count c =
    let p = err_from_is_err_and c.from_residual.result c.from_residual.ensures.1 in
    rw (p.1, p.2) (no_formula c.if-line-gt-LONGEST_TEXT.false c.in_err-count.ensures.0, refl)

pub returns-in_err-records : goal.returns-in_err-records
returns-in_err-records c =
    let p = err_from_is_err_and c.from_residual-in_err-records.result c.from_residual-in_err-records.ensures.1 in
    rw (p.1, p.2) (untyped _ _ _ c.in_ok-count.ensures _ _ _ _ _ _ c.if-line-gt-LONGEST_TEXT.false c.in_err-records.ensures.answer, refl)

pub unreachable-requires : goal.unreachable-requires
unreachable-requires c =
    let m = shown_for (take c.in_ok-records.records c.type_term.new.types) c.args.out.now c.show.new.out _ Unlawful c.in-Err-Unlawful.field-0-is c.in-Err-Unlawful.ensures in
    m.unlawful (lawful_front _ _ _ c.in_ok-count.ensures _ _ _ c.in_ok-records.ensures.answer)

pub returns-in-Ok : goal.returns-in-Ok
returns-in-Ok c = types_line _ _ _ c.in_ok-count.ensures _ _ _ c.in_ok-records.ensures.answer _ _ _ c.if-line-gt-LONGEST_TEXT.false c.in-Ok.ensures

pub returns-in-Err-TooLong : goal.returns-in-Err-TooLong
returns-in-Err-TooLong c =
    let o = shown_for (take c.in_ok-records.records c.type_term.new.types) c.args.out.now c.show.new.out _ TooLong c.in-Err-TooLong.field-0-is c.in-Err-TooLong.ensures in
    (too_long_line _ _ _ c.in_ok-count.ensures _ _ _ c.in_ok-records.ensures.answer _ _ _ _ _ c.if-line-gt-LONGEST_TEXT.false o, o.leaves)
