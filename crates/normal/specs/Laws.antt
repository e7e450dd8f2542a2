-- What normal lists say, and when two are one.
use Rattle.std.specs.Prelude.{◌≡◌, ℕ, ◌<◌, ◌≤◌, List, [], ◌∷◌, ◌++◌, map, length, get_or, take, slice_index_or}
use Rattle.std.specs.List.{AllByRecursion}
use Rattle.types.specs.declared.TypeNode.{TypeNode}
use Rattle.types.specs.Types.{Ty, variable, base, branch, arrow, apply, Instance}
use Rattle.types.specs.Lists.{node, zero_node, Lawful, type_at, meaning}
use Rattle.normal.specs.Normal.{place, parts, rank, normal, normal_of}

-- each branch is of a kind from 2 on, so that its record is told from those of variables and bases
abbrev pub Proper : Ty → Type 0
Proper (variable i) = Unit {0}
Proper (base c) = Unit {0}
Proper (branch k a b) = (2 ≤ k) × Proper a × Proper b

-- made of variables, bases with codes up to 5, and arrows
abbrev pub Simple : Ty → Type 0
Simple (variable i) = Unit {0}
Simple (base c) = c ≤ 5
Simple (branch k a b) = (k ≡ 2) × Simple a × Simple b

-- no two records are equal
abbrev pub Once : List TypeNode → Type 0
Once l = (j k : ℕ) → j < length l → k < length l → slice_index_or l j zero_node ≡ slice_index_or l k zero_node → j ≡ k

-- parts stand below their wholes
abbrev pub Lower : List TypeNode → Type 0
Lower l = (p : ℕ) → p < length l → 2 ≤ (get_or l p zero_node).kind → ((get_or l p zero_node).left < p) × ((get_or l p zero_node).right < p)

-- t with its variables numbered as they appear among the types
abbrev pub numbered : List Ty → Ty → Ty
numbered ts t = apply (λ i. variable (rank (parts ts) i)) t

-- each type is the other with its variables renamed
abbrev pub Renamed : Ty → Ty → Type 0
Renamed t u = (f : ℕ → ℕ) × (g : ℕ → ℕ) × (apply (λ i. variable (f i)) t ≡ u) × (apply (λ i. variable (g i)) u ≡ t)

-- A normal list has no two equal records, and parts stand below their wholes.
abbrev pub NormalOnce : Type 0
NormalOnce = (ts : List Ty) → AllByRecursion Proper ts → Once (normal ts) × Lower (normal ts)

-- A normal list of simple types, up to 4,096 records long, is lawful.
abbrev pub NormalLawful : Type 0
NormalLawful = (ts : List Ty) → AllByRecursion Simple ts → 0 < length ts → length (normal ts) ≤ 4096 → Lawful (normal ts)

-- It means its types, up to the numbers of their variables.
abbrev pub NormalMeans : Type 0
NormalMeans =
    ((t : Ty) → Proper t → meaning (normal_of t) ≡ numbered (t ∷ []) t)
    × ((ts : List Ty) (k : ℕ) → AllByRecursion Proper ts → k < length ts → type_at (normal ts) (place (parts ts) (slice_index_or ts k (variable 0))) ≡ numbered ts (slice_index_or ts k (variable 0)))

-- Types renamed together have the same normal list.
abbrev pub RenamingKeepsList : Type 0
RenamingKeepsList = (ts us : List Ty) (ρ σ : ℕ → Ty) → map (apply ρ) ts ≡ us → map (apply σ) us ≡ ts → normal ts ≡ normal us

-- Instances of each other are renamings of each other.
abbrev pub MutualRenames : Type 0
MutualRenames = (t u : Ty) → Instance t u → Instance u t → Renamed t u

-- Types have one normal list if and only if they are instances of each other.
abbrev pub OneListIffMutual : Type 0
OneListIffMutual =
    (t u : Ty) → Proper t → Proper u → (normal_of t ≡ normal_of u → Instance t u × Instance u t) × (Instance t u × Instance u t → normal_of t ≡ normal_of u)

-- Several types with one normal list, each at its fellow's place in it, are renamed together.
abbrev pub OneListRenames : Type 0
OneListRenames =
    (ts us : List Ty) → AllByRecursion Proper ts → AllByRecursion Proper us → length ts ≡ length us → normal ts ≡ normal us
    → ((k : ℕ) → k < length ts → place (parts ts) (slice_index_or ts k (variable 0)) ≡ place (parts us) (slice_index_or us k (variable 0)))
    → (ρ : ℕ → Ty) × ((k : ℕ) → k < length ts → apply ρ (slice_index_or ts k (variable 0)) ≡ slice_index_or us k (variable 0))

-- In a lawful list without equal records different places have different types.
abbrev pub PlacesAreTypes : Type 0
PlacesAreTypes = (l : List TypeNode) → Lawful l → Once l → (p q : ℕ) → p < length l → q < length l → type_at l p ≡ type_at l q → p ≡ q

-- The normal list of some types begins that of these and more.
abbrev pub NormalBegins : Type 0
NormalBegins = (ts us : List Ty) → AllByRecursion Proper ts → take (length (normal ts)) (normal (ts ++ us)) ≡ normal ts

-- The normal list of what a normal list means is that list.
abbrev pub NormalAgain : Type 0
NormalAgain = (t : Ty) → Proper t → normal_of (meaning (normal_of t)) ≡ normal_of t

-- the normal list of ((b → a) → (a → Integer)) → (a → Integer), with 3 for a, 7 for b and 0 for Integer's code
abbrev pub Example : Type 0
Example =
    (let last : Ty = arrow (variable 3) (base 0) in normal_of (arrow (arrow (arrow (variable 7) (variable 3)) last) last))
    ≡ (node 0 0 0 ∷ node 0 1 0 ∷ node 2 0 1 ∷ node 1 0 0 ∷ node 2 1 3 ∷ node 2 2 4 ∷ node 2 5 4 ∷ [])
