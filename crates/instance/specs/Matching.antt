-- What a general list, node by node from its last, asks of all substitutions at once. A table has the place of each of
-- its entries that has one.
use Rattle.std.specs.Prelude.{◌≡◌, ℕ, ◌+◌, ◌<◌, Bool, true, false, ◌≢◌, ◌⊎◌, List, length, Option, Some, None, slice_index_or}
use Rattle.types.specs.declared.TypeNode.{TypeNode}
use Rattle.types.specs.Types.{Ty, apply}
use Rattle.types.specs.Lists.{type_at}

-- the entry has the place, and was free or had it before; the others are as they were
pub record Gave (before after : List (Option ℕ)) (entry place : ℕ) : Type 0 where
  pub has : slice_index_or after entry None ≡ Some place
  pub others : (e : ℕ) → e ≢ entry → slice_index_or after e None ≡ slice_index_or before e None
  pub had : (slice_index_or before entry None ≡ None) ⊎ (slice_index_or before entry None ≡ Some place)

-- the entry has another place
pub record Taken (before : List (Option ℕ)) (entry place : ℕ) : Type 0 where
  pub other : ℕ
  pub has : slice_index_or before entry None ≡ Some other
  pub differs : other ≢ place

abbrev pub Given : List (Option ℕ) → List (Option ℕ) → ℕ → ℕ → Bool → Type 0
Given before after entry place true = Gave before after entry place
Given before after entry place false = Taken before entry place

-- what is still asked of a substitution: that the first k nodes of the general list mean the types at their places, and
-- that it gives the variables the types at theirs
pub record Pending (general special : List TypeNode) (nodes variables : List (Option ℕ)) (k : ℕ) (σ : ℕ → Ty) : Type 0 where
  pub parts : (j q : ℕ) → j < k → slice_index_or nodes j None ≡ Some q → apply σ (type_at general j) ≡ type_at special q
  pub named : (v q : ℕ) → slice_index_or variables v None ≡ Some q → σ v ≡ type_at special q

-- the places of the first k nodes, and of the variables, are below n
pub record Within (n : ℕ) (nodes variables : List (Option ℕ)) (k : ℕ) : Type 0 where
  pub parts : (j q : ℕ) → j < k → slice_index_or nodes j None ≡ Some q → q < n
  pub named : (v q : ℕ) → slice_index_or variables v None ≡ Some q → q < n

-- one node less is asked, and the same substitutions remain
pub record Passed (general special : List TypeNode) (nodes nodes' variables variables' : List (Option ℕ)) (k : ℕ) : Type 0 where
  pub within : Within (length special) nodes' variables' k
  pub onto : (σ : ℕ → Ty) → Pending general special nodes variables (k + 1) σ → Pending general special nodes' variables' k σ
  pub back : (σ : ℕ → Ty) → Pending general special nodes' variables' k σ → Pending general special nodes variables (k + 1) σ

-- no substitution does what is asked
abbrev pub Clash : List TypeNode → List TypeNode → List (Option ℕ) → List (Option ℕ) → ℕ → Type 0
Clash general special nodes variables k = (σ : ℕ → Ty) → Pending general special nodes variables k σ → ⊥

abbrev pub Stepped : List TypeNode → List TypeNode → List (Option ℕ) → List (Option ℕ) → List (Option ℕ) → List (Option ℕ) → ℕ → Bool → Type 0
Stepped general special nodes nodes' variables variables' k true = Passed general special nodes nodes' variables variables' k
Stepped general special nodes nodes' variables variables' k false = Clash general special nodes variables (k + 1)
