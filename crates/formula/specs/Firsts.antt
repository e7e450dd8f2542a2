-- The first of a list that a question is answered with no for.
use Rattle.std.specs.Prelude.{◌≡◌, ℕ, List, ◌∷◌, ◌++◌, Some, None, Option}
use Rattle.std.specs.List.{AllByRecursion}

-- P fails first of the item that stands at p
pub record FirstNot {A : Type 0} (P : A → Type 0) (at : A → ℕ) (xs : List A) (p : ℕ) : Type 0 where
  pub before : List A
  pub item : A
  pub rest : List A
  pub split : xs ≡ before ++ (item ∷ rest)
  pub earlier : AllByRecursion P before
  pub fails : P item → ⊥
  pub stands : p ≡ at item

-- where P fails first, if anywhere
abbrev pub Fails : {A : Type 0} → (A → Type 0) → (A → ℕ) → List A → Option ℕ → Type 0
Fails P at xs None = AllByRecursion P xs
Fails P at xs (Some p) = FirstNot P at xs p
