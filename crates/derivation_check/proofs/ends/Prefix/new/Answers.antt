use Rattle.std.proofs.Common.{refl, ◌∙◌}
use Rattle.std.proofs.lemmas.List.{length-set}
use Rattle.derivation_check.proofs.Spans.{noted_more}
use Rattle.derivation_check.proofs.ends.Prefix.new.Goals as goal

pub loop-i-preserved : goal.loop-i-preserved
loop-i-preserved c =
    record {
      noted = noted_more _ _ _ _ _ _ c.loop-i-test.true refl c.loop-i.invariant.noted c.parts_of.ensures c.span-size.ensures.is;
      long = length-set _ _ _ ∙ c.loop-i.invariant.long;
    }
