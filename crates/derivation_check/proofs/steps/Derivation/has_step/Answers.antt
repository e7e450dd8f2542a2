use Rattle.derivation_check.proofs.Spans.{binder_inside}
use Rattle.derivation_check.proofs.steps.Derivation.has_step.Goals as goal

pub is_from-requires-clause-whole : goal.is_from-requires-clause-whole
is_from-requires-clause-whole g c = binder_inside _ _ _ _ _ _ c.find_binder.ensures c.in-Some.is c.requires c.args.self.now.one_each
