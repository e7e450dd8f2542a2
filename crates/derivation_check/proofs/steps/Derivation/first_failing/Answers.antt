use Rattle.std.proofs.Common.{rules}
use borrow.Author.Tests.{tests}
use Rattle.std.proofs.lemmas.Iterator.{first_from_Range}
use Rattle.derivation_check.specs.Steps.{Step}
use Rattle.derivation_check.specs.Arrows.{type_of}
use Rattle.derivation_check.proofs.Answering.{judged}
use Rattle.derivation_check.proofs.steps.Derivation.first_failing.Goals as goal

pub returns : goal.returns
returns g c =
    let d = c.args.self.now in
    let step = Step (g.E.Source.list d.entries.now) (g.K.Source.list d.kept.now) d.term.terms.now (type_of d.types) in
    judged _ _ _ _ c.find.result (first_from_Range _ _ _ c.find.result (λ i. step i → ⊥) step c.find.ensures.ran (λ x q k. search (rules, tests)) (λ x q k. search (rules, tests)))
