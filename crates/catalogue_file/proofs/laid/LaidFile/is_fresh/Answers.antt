use Rattle.std.proofs.Common.{ℕ, rules, tests, arith}
use Rattle.std.proofs.lemmas.Iterator.{cases_from_all, YieldsList-from_range}
use Rattle.catalogue.specs.Names.{Same}
use Rattle.catalogue_file.specs.Files.{entry}
use Rattle.catalogue_file.proofs.Ranges.{all_below}
use Rattle.catalogue_file.proofs.laid.LaidFile.is_fresh.Goals as goal

pub returns : goal.returns
returns c =
    let f = c.args.self.now.headed.sized in
    let Other = λ (j : ℕ). Same (entry f.layout f.bytes.now j).name (entry f.layout f.bytes.now c.args.k).name → ⊥ in
    all_below Other c.args.k c.all.result
    (cases_from_all _ _ _ Other (λ j. Other j → ⊥) c.all.ensures.ran (YieldsList-from_range 0 c.args.k c.args.k (cc) (omega arith)) (λ x q k. search (rules, tests)) (λ x q k. search (rules, tests)))
