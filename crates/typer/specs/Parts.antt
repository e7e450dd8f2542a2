-- How a number memory is cut for the work.
use Rattle.std.specs.Prelude.{◌≡◌, ℕ, length}
use Rattle.typer.specs.declared.nodes.Parts.{Parts}

-- two parts as long as a term, and four as long as a type memory
pub record Cut (nodes records : ℕ) (p : Parts) : Type 0 where
  pub binders : length p.binders.now ≡ nodes
  pub roots : length p.roots.now ≡ nodes
  pub marks : length p.marks.now ≡ records
  pub origins : length p.origins.now ≡ records
  pub heads : length p.heads.now ≡ records
  pub nexts : length p.nexts.now ≡ records
