use Rattle.std.proofs.Common.{ℕ, get_or, rules, tests}
use Rattle.std.proofs.lemmas.Iterator.{first_from_Range}
use Rattle.types.specs.Lists.{zero_node}
use Rattle.copy.specs.Copies.{IsVariable}
use Rattle.copy.proofs.Firsts.{first_found}
use Rattle.copy.proofs.Listed.search.Goals as goal

pub returns-clause-first : goal.returns-clause-first
returns-clause-first g c =
    let Is : ℕ → Type 0 = λ j. IsVariable (get_or c.args.self.now j zero_node) c.args.number in
    rw c.unwrap_or.ensures (first_found c.args.self.now c.args.number c.args.i c.find.result c.requires.is (first_from_Range _ _ _ c.find.result Is (λ j. Is j → ⊥) c.find.ensures.ran (λ x q k. search (rules, tests)) (λ x q k. search (rules, tests))))
