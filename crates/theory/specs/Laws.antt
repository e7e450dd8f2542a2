-- The laws of types, expansions and principal types.
use Rattle.std.specs.Prelude.{◌≡◌, ℕ, ◌<◌, ◌≤◌, List, [], ◌∷◌, ◌++◌, map, length}
use Rattle.std.specs.List.{AllByRecursion}
use Rattle.types.specs.declared.TypeNode.{TypeNode}
use Rattle.types.specs.Types.{Ty, apply, Instance}
use Rattle.types.specs.Lists.{Lawful, meaning}
use Rattle.term.specs.Terms.{Term}
use Rattle.normal.specs.Normal.{normal_of}
use Rattle.normal.specs.Laws.{Proper, Simple}
use Rattle.copy.specs.Instances.{Lists, OfList}
use Rattle.infer.specs.Typing.{Typing, HasType}
use Rattle.theory.specs.Closed.{Closed, Below}
use Rattle.theory.specs.Expansion.{expand}
use Rattle.theory.specs.Principal.{MostGeneral, Typeless, none, Typable, Principal, LawfulLists, KeptRow, Kept}

-- The types of a term are those that its typings give the root.
abbrev pub TypingsGiveTypes : Type 0
TypingsGiveTypes =
    (E K : Lists) (Γ : List Ty) (t : Term) (i : ℕ)
    → ((T : ℕ → Ty) → Typing E K Γ t T i → HasType E K Γ t (T i)) × ((τ : Ty) → HasType E K Γ t τ → (T : ℕ → Ty) × Typing E K Γ t T i × (T i ≡ τ))

-- Instances of a type of t are types of t, where the binders have instances by the same substitution.
abbrev pub TypesHaveInstances : Type 0
TypesHaveInstances = (E K : Lists) (Γ : List Ty) (t : Term) (τ : Ty) (σ : ℕ → Ty) → HasType E K Γ t τ → HasType E K (map (apply σ) Γ) t (apply σ τ)

-- A term that has a type is closed, and without references if there are no kept lists.
abbrev pub TypedIsClosed : Type 0
TypedIsClosed = (E K : Lists) (Γ : List Ty) (t : Term) (τ : Ty) → HasType E K Γ t τ → Closed (length Γ) t

abbrev pub TypedIsWhole : Type 0
TypedIsWhole = (E : Lists) (Γ : List Ty) (t : Term) (τ : Ty) → HasType E none Γ t τ → Below 0 t

-- Only the binders that a term's variables reach matter; so a closed term has the same types everywhere.
abbrev pub OuterBindersIdle : Type 0
OuterBindersIdle = (E K : Lists) (Γ Δ Θ : List Ty) (t : Term) (τ : Ty) → Closed (length Γ) t → HasType E K (Γ ++ Δ) t τ → HasType E K (Γ ++ Θ) t τ

-- Only the kept lists that a term's references reach matter.
abbrev pub LaterRowsIdle : Type 0
LaterRowsIdle = (E K L : Lists) (k : ℕ) (Γ : List Ty) (t : Term) (τ : Ty) → ((n : ℕ) → n < k → K n ≡ L n) → Below k t → HasType E K Γ t τ → HasType E L Γ t τ

-- An expansion is closed and without references.
abbrev pub ExpansionsClosed : Type 0
ExpansionsClosed = (xs : List Term) (d : ℕ) (t : Term) → AllByRecursion (Closed 0) xs → Closed d t → Closed d (expand xs t)

abbrev pub ExpansionsWhole : Type 0
ExpansionsWhole = (xs : List Term) (t : Term) → AllByRecursion (Below 0) xs → Below (length xs) t → Below 0 (expand xs t)

-- Rows filed later leave it as it is.
abbrev pub ExpansionsLast : Type 0
ExpansionsLast = (xs ys : List Term) (t : Term) → Below (length xs) t → expand (xs ++ ys) t ≡ expand xs t

-- The instances of what a kept list means are exactly the types of its row's expansion, wherever that stands.
abbrev pub TypesOfRows : Type 0
TypesOfRows =
    (E : Lists) (x : Term) (l : List TypeNode) → KeptRow E x l → (Γ : List Ty) (τ : Ty)
    → (OfList l τ → HasType E none Γ x τ) × (HasType E none Γ x τ → OfList l τ)

-- By instances of the kept types a formula has exactly the types of its expansion.
abbrev pub TypesOfExpansions : Type 0
TypesOfExpansions =
    (E : Lists) (xs : List Term) (K : Lists) → Kept E xs K → (Γ : List Ty) (t : Term) (τ : Ty) → Below (length xs) t
    → (HasType E K Γ t τ → HasType E none Γ (expand xs t) τ) × (HasType E none Γ (expand xs t) τ → HasType E K Γ t τ)

-- So the most general type by instances of the kept types is the expansion's principal type, and back.
abbrev pub PrincipalOfExpansions : Type 0
PrincipalOfExpansions =
    (E : Lists) (xs : List Term) (K : Lists) → Kept E xs K → (t : Term) (τ : Ty) → Below (length xs) t
    → (MostGeneral E K t τ → Principal E (expand xs t) τ) × (Principal E (expand xs t) τ → MostGeneral E K t τ)

-- A formula has no type by instances of the kept types exactly when its expansion has none.
abbrev pub TypelessExpansions : Type 0
TypelessExpansions =
    (E : Lists) (xs : List Term) (K : Lists) → Kept E xs K → (t : Term) → Below (length xs) t
    → (Typeless E K t → Typable E (expand xs t) → ⊥) × ((Typable E (expand xs t) → ⊥) → Typeless E K t)

-- A row more is kept with a list that means the formula's most general type by instances of the kept types.
abbrev pub KeptGrows : Type 0
KeptGrows =
    (E : Lists) (xs : List Term) (K L : Lists) (t : Term) → Kept E xs K → ((n : ℕ) → n < length xs → K n ≡ L n)
    → Below (length xs) t → Lawful (L (length xs)) → MostGeneral E K t (meaning (L (length xs))) → Kept E (xs ++ (expand xs t ∷ [])) L

-- The first rows are kept without the others.
abbrev pub KeptShrinks : Type 0
KeptShrinks = (E : Lists) (xs ys : List Term) (K L : Lists) → Kept E (xs ++ ys) K → ((n : ℕ) → n < length xs → K n ≡ L n) → Kept E xs L

-- Two principal types of a term are instances of each other and have one normal list.
abbrev pub PrincipalIsOne : Type 0
PrincipalIsOne = (E K : Lists) (t : Term) (τ σ : Ty) → MostGeneral E K t τ → MostGeneral E K t σ → Instance τ σ × Instance σ τ × (normal_of τ ≡ normal_of σ)

-- What is an instance of a principal type, and has it as an instance, is principal too.
abbrev pub PrincipalRenamed : Type 0
PrincipalRenamed = (E K : Lists) (t : Term) (τ σ : Ty) → MostGeneral E K t τ → Instance τ σ → Instance σ τ → MostGeneral E K t σ

-- A principal type has no branch that a list cannot have, whatever the lists of primitives and references are.
abbrev pub PrincipalIsProper : Type 0
PrincipalIsProper = (E K : Lists) (t : Term) (τ : Ty) → MostGeneral E K t τ → Proper τ

-- With lawful lists it is made of variables, bases with codes up to 5, and arrows.
abbrev pub PrincipalIsSimple : Type 0
PrincipalIsSimple = (E K : Lists) (t : Term) (τ : Ty) → LawfulLists E → LawfulLists K → MostGeneral E K t τ → Simple τ

-- The normal list of a principal type means a principal type.
abbrev pub NormalIsPrincipal : Type 0
NormalIsPrincipal = (E K : Lists) (t : Term) (τ : Ty) → MostGeneral E K t τ → MostGeneral E K t (meaning (normal_of τ))

-- So it may be kept, if it is not too long.
abbrev pub NormalIsKept : Type 0
NormalIsKept = (E : Lists) (x : Term) (τ : Ty) → LawfulLists E → Principal E x τ → length (normal_of τ) ≤ 4096 → KeptRow E x (normal_of τ)
