use Rattle.std.proofs.Common.{arith, ap, ◌∙◌}
use Rattle.derivation_check.specs.Prefixes.{end}
use Rattle.derivation_check.proofs.Spans.{span_fits, span_more}
use Rattle.derivation_check.proofs.ends.Prefix.span.Goals as goal

pub end_at-at-requires : goal.end_at-at-requires
end_at-at-requires c = omega (arith, span_fits c.loop.counter c.args.self.now.terms.now)

pub loop-preserved : goal.loop-preserved
loop-preserved c = c.end_at-at.ensures ∙ ap (end c.args.self.now.terms.now) c.loop.invariant ∙ span_more c.args.self.now.terms.now c.loop.counter

pub returns-clause-few : goal.returns-clause-few
returns-clause-few c = omega (arith, span_fits c.loop.counter c.args.self.now.terms.now)
