use Rattle.std.proofs.Common.{◌<◌, length, sym, refl, subst, arith, length-append}
use Rattle.types.specs.Lists.{Lawful}
use Rattle.table.specs.View.{view, held, kept}
use Rattle.table.proofs.Views.{all_proper}
use Rattle.lines.specs.Lines.{Lined, refused_line}
use Rattle.book.proofs.Lines.{line_short, line_none, line_written, line_filed, refusal_written, line_refused}
use Rattle.book.proofs.Whole.{deals}
use Rattle.book.proofs.book.Book.line.Goals as goal

pub returns-then-out-lt-LINE_ROOM : goal.returns-then-out-lt-LINE_ROOM
returns-then-out-lt-LINE_ROOM g c =
    let b = c.args.self.now in
    record { done = deals g.C.Catalogue.entries g.C.Catalogue.lawful b b _ refl refl (line_short _ (view b.table) _ _ c.if-out-lt-LINE_ROOM.true); text = refl }

pub returns-then-number-count : goal.returns-then-number-count
returns-then-number-count g c =
    let b = c.args.self.now in
    record { done = deals g.C.Catalogue.entries g.C.Catalogue.lawful b b _ refl refl (line_none _ (view b.table) _ c.args.outcome c.in-Ok.number c.in-Ok.is c.if-out-lt-LINE_ROOM.false (omega (arith, c.count.ensures.rows, c.if-number-count.true))); text = refl }

pub write_filed-requires : goal.write_filed-requires
write_filed-requires g c =
    let v = view c.args.self.now.table in
    let h : c.in-Ok.number < length (kept v) = omega (arith, c.count.ensures.rows, c.if-number-count.false, length-append v.rows (held v.candidate)) in
    record {
      filed = omega (arith, c.count.ensures.few, c.if-number-count.false);
      lawful = subst Lawful (sym c.list.ensures) (all_proper c.args.self.now.table c.in-Ok.number h).lawful;
      room = c.if-out-lt-LINE_ROOM.false;
    }

pub returns-else-number-count : goal.returns-else-number-count
returns-else-number-count g c =
    let b = c.args.self.now in
    let v = view b.table in
    let es = g.C.Catalogue.entries b.catalogue in
    let room = length c.args.out.now in
    record {
      done = deals g.C.Catalogue.entries g.C.Catalogue.lawful b b _ refl refl
          (line_filed es v room c.args.outcome c.in-Ok.number c.in-Ok.is c.if-out-lt-LINE_ROOM.false c.list.result.now c.list.ensures c.args.out.now c.write_filed.new.out c.write_filed.result c.write_filed.ensures (omega (arith, c.count.ensures.rows, c.if-number-count.false)));
      text = line_written es v room c.args.outcome c.in-Ok.number c.in-Ok.is c.if-out-lt-LINE_ROOM.false c.list.result.now c.list.ensures c.args.out.now c.write_filed.new.out c.write_filed.result c.write_filed.ensures;
    }

pub returns-in-Err : goal.returns-in-Err
returns-in-Err g c =
    let b = c.args.self.now in
    let v = view b.table in
    let es = g.C.Catalogue.entries b.catalogue in
    let room = length c.args.out.now in
    let lined = subst (λ r. Lined (refused_line r) c.args.out.now c.write_refused.new.out c.write_refused.result) c.from.ensures c.write_refused.ensures in
    record {
      done = deals g.C.Catalogue.entries g.C.Catalogue.lawful b b _ refl refl (line_refused es v room c.args.outcome c.in-Err.fault c.in-Err.is c.if-out-lt-LINE_ROOM.false c.args.out.now c.write_refused.new.out c.write_refused.result lined);
      text = refusal_written es v room c.args.outcome c.in-Err.fault c.in-Err.is c.if-out-lt-LINE_ROOM.false c.args.out.now c.write_refused.new.out c.write_refused.result lined;
    }
