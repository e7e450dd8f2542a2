-- The questions that are put before a term is typed: how large it is, and whether the memories suffice.
use Rattle.std.specs.Prelude.{◌≡◌, ℕ, ◌+◌, ◌*◌, ◌<◌, ◌≤◌}
use Rattle.refusal.specs.Saying.{saying}
use Rattle.refusal.specs.declared.Layer.TheVariants as layer
use Rattle.refusal.specs.declared.Refusal.{Refusal}

-- how many numbers the work takes on a term that needs n type records and has t nodes
abbrev pub numbers_for : ℕ → ℕ → ℕ
numbers_for n t = 8 * (n + t)

-- a term of t nodes that needs n records can be worked on in a memory of so many type records and one of so many numbers
pub record Serves (n t types numbers : ℕ) : Type 0 where
  pub few : n ≤ 4096
  pub records : n ≤ types
  pub enough : numbers_for n t ≤ numbers

-- n is the need, and few enough
pub record Few (need n : ℕ) : Type 0 where
  pub is : n ≡ need
  pub few : need ≤ 4096

-- n is the need, and it can be worked on
pub record Served (need t types numbers n : ℕ) : Type 0 where
  pub is : n ≡ need
  pub serves : Serves need t types numbers

-- The first question that is answered with no: are at most 4,096 records needed (30), has the type memory as many (31),
-- has the number memory the needed numbers (32)?
pub data Unserved (n t types numbers : ℕ) : Refusal → Type 0 where
  too_much : 4096 < n → Unserved n t types numbers (saying 30 layer.Types 0)
  no_type_room : n ≤ 4096 → types < n → Unserved n t types numbers (saying 31 layer.Types 0)
  no_number_room : n ≤ 4096 → n ≤ types → numbers < numbers_for n t → Unserved n t types numbers (saying 32 layer.Types 0)
