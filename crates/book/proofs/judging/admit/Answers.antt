use Rattle.std.proofs.Common.{sym, refl, ◌∙◌, arith}
use Rattle.book.specs.Judging.{busy, full, long}
use Rattle.book.proofs.judging.admit.Goals as goal

pub returns-then-is_open : goal.returns-then-is_open
returns-then-is_open c = (busy (sym c.is_open.ensures ∙ c.if-is_open.true), refl)

pub returns-then-count-ge-MOST_FORMULAS : goal.returns-then-count-ge-MOST_FORMULAS
returns-then-count-ge-MOST_FORMULAS c = (full (sym c.is_open.ensures ∙ c.if-is_open.false) (omega (arith, c.count.ensures.rows, c.if-count-ge-MOST_FORMULAS.true)), refl)

pub returns-then-text-gt-MOST_BYTES : goal.returns-then-text-gt-MOST_BYTES
returns-then-text-gt-MOST_BYTES c =
    (long (sym c.is_open.ensures ∙ c.if-is_open.false) (omega (arith, c.count.ensures.rows, c.if-count-ge-MOST_FORMULAS.false)) c.if-text-gt-MOST_BYTES.true, refl)
