use Rattle.std.proofs.Common.{ℕ, rules, tests, arith, get_or}
use Rattle.std.proofs.lemmas.Iterator.{cases_from_all, YieldsList-from_range}
use Rattle.types.specs.Lists.{LawfulNode, zero_node}
use Rattle.catalogue_file.specs.Parts.{nodes_of}
use Rattle.catalogue_file.proofs.Ranges.{all_below}
use Rattle.catalogue_file.proofs.parts.are_lawful.Goals as goal

pub returns-then-contains : goal.returns-then-contains
returns-then-contains c =
    let nodes = nodes_of c.args.rest.now in
    let Here = λ (p : ℕ). LawfulNode p (get_or nodes p zero_node) in
    let each = all_below Here c.node_count-count.result c.all.result
    (cases_from_all _ _ _ Here (λ p. Here p → ⊥) c.all.ensures.ran (YieldsList-from_range 0 c.node_count-count.result c.node_count-count.result (cc) (omega arith)) (λ x q k. search (rules, tests)) (λ x q k. search (rules, tests))) in (
      λ e. record { some = search rules; few = search rules; each = λ p below. each.0 e p (omega (arith, c.node_count-count.ensures.value)) },
      λ lawful. each.1 (λ p below. lawful.each p (omega (arith, c.node_count-count.ensures.value))),
    )
