use Rattle.std.proofs.Common.{rules, tests}
use Rattle.catalogue_file.specs.Checking.{unlawful}
use Rattle.catalogue_file.proofs.Framed.{framed}
use Rattle.catalogue_file.proofs.laid.LaidFile.lawful.Goals as goal

pub returns-in-None : goal.returns-in-None
returns-in-None c = λ k below. let said = c.in-None.ensures k below in search (rules, tests)

pub returns-in-Some : goal.returns-in-Some
returns-in-Some c = let said = c.in-Some.ensures in λ formed. unlawful (framed c.args.self.now) formed (record { inside = said.0; before = λ j below. let yes = said.2 j below in search (rules, tests); fails = λ h. search (rules, tests) })
