use Rattle.std.proofs.Common.{◌≡◌}
use Rattle.derivation_check.specs.Prefixes.{span}
use Rattle.derivation_check.proofs.ends.Prefix.span.Given as goal

abbrev pub invariant-loop : goal.invariant-loop
invariant-loop l = l.at ≡ span l.counter l.self.terms.now
