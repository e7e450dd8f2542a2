use Rattle.std.proofs.Common.{arith, drop, length-drop}
use Rattle.derivation_check.proofs.Spans.{span_fits}
use Rattle.derivation_check.proofs.ends.Prefix.end_at.Goals as goal

pub overflow_add-result : goal.overflow_add-result
overflow_add-result c =
    let h = c.in-Some.ensures.lookup in
    omega (arith, c.args.self.now.known c.args.at h.3.0, h.3.1 0, span_fits 1 (drop c.args.at c.args.self.now.terms.now), length-drop c.args.at c.args.self.now.terms.now)
