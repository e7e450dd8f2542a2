use Rattle.std.proofs.Common.{refl}
use Rattle.table.specs.View.{view}
use Rattle.book.proofs.Looks.{no_row, show_none}
use Rattle.book.proofs.Shows.{printed_row, shows_row, shows_too_long, left_alone, never_unlawful}
use Rattle.book.proofs.Whole.{deals}
use Rattle.book.proofs.book.Book.show.Goals as goal

pub returns-then-not-has_row : goal.returns-then-not-has_row
returns-then-not-has_row g c =
    let b = c.args.self.now in
    record { done = deals g.C.Catalogue.entries g.C.Catalogue.lawful b b _ refl refl (show_none _ (view b.table) c.args.number _ (no_row _ _ _ c.has_row.ensures c.if-not-has_row.true)); text = refl }

pub unreachable-requires : goal.unreachable-requires
unreachable-requires g c =
    never_unlawful c.args.self.now.table c.args.number c.list.result.now _ _ _ c.list.ensures (c.has_row.ensures.0 c.if-not-has_row.false) c.in-Err-Unlawful.field-0-is c.in-Err-Unlawful.ensures

pub returns-in-Ok : goal.returns-in-Ok
returns-in-Ok g c =
    let b = c.args.self.now in
    let p = c.in-Ok.ensures in
    record {
      done = deals g.C.Catalogue.entries g.C.Catalogue.lawful b b _ refl refl (shows_row (view b.table) c.args.number c.list.result.now c.args.out.now c.show.new.out c.list.ensures _ (c.has_row.ensures.0 c.if-not-has_row.false) c.in-Ok.length p);
      text = printed_row (view b.table) c.args.number c.list.result.now c.args.out.now c.show.new.out c.list.ensures c.in-Ok.length p;
    }

pub returns-in-Err-TooLong : goal.returns-in-Err-TooLong
returns-in-Err-TooLong g c =
    let b = c.args.self.now in
    let e = c.in-Err-TooLong in
    record {
      done = deals g.C.Catalogue.entries g.C.Catalogue.lawful b b _ refl refl (shows_too_long (view b.table) c.args.number c.list.result.now c.args.out.now c.show.new.out c.list.ensures _ (c.has_row.ensures.0 c.if-not-has_row.false) e.field-0 e.field-0-is e.ensures);
      text = left_alone (view b.table) c.args.number c.list.result.now c.args.out.now c.show.new.out c.list.ensures e.field-0 e.field-0-is e.ensures;
    }
