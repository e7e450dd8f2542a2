use Rattle.std.proofs.Common.{sym, ◌∙◌, rules}
use borrow.Author.Tests.{tests}
use Rattle.std.proofs.lemmas.Iterator.Adapters.{option_map_id}
use Rattle.std.proofs.lemmas.Iterator.Consumers.{nth_from_yields_List, YieldsList-at, YieldsList-from_filter}
use Rattle.derivation_check.specs.Prefixes.{opens}
use Rattle.derivation_check.proofs.Binders.{YieldsList-from_rev_range, binder_listed}
use Rattle.derivation_check.proofs.ends.Prefix.find_binder.Goals as goal

pub returns : goal.returns
returns c =
    sym (option_map_id c.nth.result)
    ∙ nth_from_yields_List c.nth.result c.nth.new.self c.args.number c.nth.ensures.ran
    (YieldsList-from_filter _ (opens c.args.self.now.terms.now c.args.i) (YieldsList-at c.filter.ensures.source (YieldsList-from_rev_range c.rev.result c.args.i c.rev.ensures.source)) c.filter.ensures.closure (λ x r q k. search (rules, tests)))
    ∙ binder_listed c.args.self.now.terms.now c.args.i c.args.i c.args.number
