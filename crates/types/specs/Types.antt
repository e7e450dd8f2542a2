-- Simple types: finite trees of any size.
use Rattle.std.specs.Prelude.{◌≡◌, ℕ}

-- a variable by its number, a base by its code, or a branch of some kind with two parts
pub data Ty : Type 0 where
  variable : ℕ → Ty
  base : ℕ → Ty
  branch : ℕ → Ty → Ty → Ty

-- the type of functions from a to b is the branch of kind 2
abbrev pub arrow : Ty → Ty → Ty
arrow a b = branch 2 a b

-- a type for each variable, put in its place everywhere alike
abbrev pub apply : (ℕ → Ty) → Ty → Ty
apply σ (variable n) = σ n
apply σ (base c) = base c
apply σ (branch k a b) = branch k (apply σ a) (apply σ b)

-- u is t with types put for its variables
abbrev pub Instance : Ty → Ty → Type 0
Instance t u = (σ : ℕ → Ty) × (apply σ t ≡ u)
