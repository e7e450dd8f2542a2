-- The first entry, of so many, for which a question is answered with no.
use Rattle.std.specs.Prelude.{ℕ, ◌<◌, Bool, true, false, Some, None, Option}

pub record FirstFails (P : ℕ → Type 0) (n k : ℕ) : Type 0 where
  pub inside : k < n
  pub before : (j : ℕ) → j < k → P j
  pub fails : P k → ⊥

-- the first of n that fails, or that none does
abbrev pub First : (ℕ → Type 0) → ℕ → Option ℕ → Type 0
First P n None = (k : ℕ) → k < n → P k
First P n (Some k) = FirstFails P n k

-- what was answered, put to n in order until the first no: yes by all of them, or by all before the one that said no
abbrev pub Answered : (ℕ → Bool → Type 0) → ℕ → Option ℕ → Type 0
Answered Q n None = (k : ℕ) → k < n → Q k true
Answered Q n (Some k) = (k < n) × Q k false × ((j : ℕ) → j < k → Q j true)
