use Rattle.std.proofs.Common.{◌≡◌, ℕ, ◌<◌}
use Rattle.catalogue_file.specs.Files.{offset}
use Rattle.catalogue_file.specs.Questions.{due}
use Rattle.catalogue_file.proofs.headed.HeadedFile.laid.Given as goal

abbrev pub invariant-loop-k : goal.invariant-loop-k
invariant-loop-k l =
    let f = l.self.sized in
    (l.due ≡ due f.layout f.bytes.now l.k) × ((j : ℕ) → j < l.k → offset f.layout f.bytes.now j ≡ due f.layout f.bytes.now j)
