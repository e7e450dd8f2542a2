use Rattle.std.proofs.Common.{cond, ◌&&◌, leb, ap, ◌∙◌}
use lib.ListN.{get_or-replicate}
use Rattle.text.specs.declared.bytes.Class.TheVariants.{Other, Letter, Digit, Underscore, Space}
use Rattle.text.proofs.Marks.{one_more, all_marked}
use Rattle.text.proofs.bytes.classes.Goals as goal

pub loop-mark-init : goal.loop-mark-init
loop-mark-init c = record {
  long = c.give-4.array_long;
  each = λ b h. c.give-4.ensures b ∙ ap (cond (leb 32 b && leb b 32) Space) (c.give-3.ensures b ∙ ap (cond (leb 95 b && leb b 95) Underscore) (c.give-2.ensures b ∙ ap (cond (leb 48 b && leb b 57) Digit) (c.give.ensures b ∙ ap (cond (leb 97 b && leb b 122) Letter) (get_or-replicate 256 b Other Other h))));
}

pub loop-mark-preserved : goal.loop-mark-preserved
loop-mark-preserved c = record { long = c.give-in-loop-mark.array_long; each = λ b h. c.give-in-loop-mark.ensures b ∙ one_more c.loop-mark.mark-index b _ c.loop-mark-test.true (c.loop-mark.invariant.each b h) }

pub returns-clause-each : goal.returns-clause-each
returns-clause-each c = λ b h. all_marked c.loop-mark.mark-index b _ c.loop-mark-test.false (c.loop-mark.invariant.each b h)
