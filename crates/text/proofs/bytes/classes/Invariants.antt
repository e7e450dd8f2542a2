use Rattle.std.proofs.Common.{◌≡◌, ℕ, ◌<◌, length, get_or}
use Rattle.text.specs.declared.bytes.Class.TheVariants.{Other}
use Rattle.text.proofs.Marks.{so_far}
use Rattle.text.proofs.bytes.classes.Given as goal

abbrev pub invariant-loop-mark : goal.invariant-loop-mark
invariant-loop-mark l = record { long : length l.table ≡ 256; each : (b : ℕ) → b < 256 → get_or l.table b Other ≡ so_far l.mark-index b }
