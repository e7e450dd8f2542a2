-- Layouts of catalogue files: where the pairs stand, the layouts that there are, and which can be read.
use Rattle.std.specs.Prelude.{ℕ, ◌+◌, ◌*◌, ◌≤◌}
use Rattle.catalogue_file.specs.declared.layout.Layout.{Layout}

-- the layout with numbers of 16 bits
abbrev pub short : Layout
short = record { front = 0; mark = 0; width = 2; least = 2; most = 65535; entries = 256; nodes = 64 }

-- where pair k starts, behind the count and the pairs before it; with k the count, where the entries start
unfoldable pub pair_place : Layout → ℕ → ℕ
pair_place l k = l.front + l.width + 2 * l.width * k

-- numbers of at most four bytes, the count inside the shortest file, and no more entries or nodes than a catalogue may have
pub record Fit (l : Layout) : Type 0 where
  pub front : l.front ≤ 4
  pub narrow : l.width ≤ 4
  pub counted : l.front + l.width ≤ l.least
  pub few : l.entries ≤ 65535
  pub lists : l.nodes ≤ 4096
