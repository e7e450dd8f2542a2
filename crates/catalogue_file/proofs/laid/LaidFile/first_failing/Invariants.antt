use Rattle.std.proofs.Common.{ℕ, ◌<◌, true}
use Rattle.catalogue_file.proofs.laid.LaidFile.first_failing.Given as goal

abbrev pub invariant-loop-k : goal.invariant-loop-k
invariant-loop-k g l = (j : ℕ) → j < l.k → goal.F-post g l.holds j true
