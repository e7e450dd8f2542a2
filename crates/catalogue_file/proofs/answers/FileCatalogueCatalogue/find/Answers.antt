use Rattle.std.proofs.Common.{rules, tests}
use Rattle.std.proofs.lemmas.Iterator.{first_from_Range}
use Rattle.catalogue.proofs.Finding.{Yes, No, least_found}
use Rattle.catalogue_file.specs.Contents.{contents}
use Rattle.catalogue_file.proofs.answers.FileCatalogueCatalogue.find.Goals as goal

pub returns : goal.returns
returns c =
    least_found (contents c.args.self.now) c.args.name.now c.count.result c.find.result c.count.ensures
    (first_from_Range _ _ _ _ (Yes (contents c.args.self.now) c.args.name.now) (No (contents c.args.self.now) c.args.name.now) c.find.ensures.ran (λ x q k. search (rules, tests)) (λ x q k. search (rules, tests)))
