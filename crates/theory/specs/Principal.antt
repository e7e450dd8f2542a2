-- Principal types: of terms by the typing steps alone, and as what kept lists mean.
use Rattle.std.specs.Prelude.{ℕ, ◌<◌, List, [], length}
use Rattle.types.specs.declared.TypeNode.{TypeNode}
use Rattle.types.specs.Types.{Ty, Instance}
use Rattle.types.specs.Lists.{Lawful, meaning}
use Rattle.term.specs.Terms.{Term}
use Rattle.copy.specs.Instances.{Lists}
use Rattle.infer.specs.Typing.{HasType}
use Rattle.theory.specs.Closed.{Closed}
use Rattle.theory.specs.Expansion.{row}

-- τ is a type of the closed term t, where E has the types of primitives and K those of references, and each such type is
-- an instance of τ
pub record MostGeneral (E K : Lists) (t : Term) (τ : Ty) : Type 0 where
  pub has : HasType E K [] t τ
  pub most : (σ : Ty) → HasType E K [] t σ → Instance τ σ

-- t has no type
abbrev pub Typeless : Lists → Lists → Term → Type 0
Typeless E K t = (τ : Ty) → HasType E K [] t τ → ⊥

-- each list that has nodes is lawful
abbrev pub LawfulLists : Lists → Type 0
LawfulLists K = (n : ℕ) → 0 < length (K n) → Lawful (K n)

-- no kept lists: a reference has no type
abbrev pub none : Lists
none n = []

-- the same by the typing steps alone
abbrev pub Has : Lists → Term → Ty → Type 0
Has E t τ = HasType E none [] t τ

abbrev pub Typable : Lists → Term → Type 0
Typable E t = (τ : Ty) × Has E t τ

abbrev pub Principal : Lists → Term → Ty → Type 0
Principal E t τ = MostGeneral E none t τ

-- the list l is kept for a row whose expansion is x
pub record KeptRow (E : Lists) (x : Term) (l : List TypeNode) : Type 0 where
  pub lawful : Lawful l
  pub closed : Closed 0 x
  pub principal : Principal E x (meaning l)

-- K has the lists of the rows, whose expansions are xs
abbrev pub Kept : Lists → List Term → Lists → Type 0
Kept E xs K = (n : ℕ) → n < length xs → KeptRow E (row xs n) (K n)
