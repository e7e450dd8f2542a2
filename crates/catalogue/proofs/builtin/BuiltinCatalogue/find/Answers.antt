use Rattle.std.proofs.Common.{rules, tests}
use Rattle.std.proofs.lemmas.Iterator.{first_from_Range}
use Rattle.catalogue.specs.Table.{builtin}
use Rattle.catalogue.proofs.Finding.{Yes, No, least_found}
use Rattle.catalogue.proofs.builtin.BuiltinCatalogue.find.Goals as goal

pub returns : goal.returns
returns c =
    least_found builtin c.args.name.now c.count.result c.find.result c.count.ensures
    (first_from_Range _ _ _ _ (Yes builtin c.args.name.now) (No builtin c.args.name.now) c.find.ensures.ran (λ x q k. search (rules, tests)) (λ x q k. search (rules, tests)))
