-- What the names and references of a formula mean.
use Rattle.std.specs.Prelude.{ℕ, ◌<◌, ◌⊎◌, List, [], ◌∷◌, ◌++◌, length, Some, slice_index_or}
use Rattle.catalogue.specs.Names.{Name, Same}
use Rattle.catalogue.specs.Entries.{Entry, Bears, Least}
use Rattle.grammar.specs.Grammar.{Tree, named, referred, abstracted, applied}
use Rattle.term.specs.Terms.{Term, variable, abstraction, application, primitive, reference}

-- A scope lists the names of the binders around a place, the innermost first. The innermost that bears the name w is
-- the one with k binders between.
pub record Bound (scope : List Name) (w : Name) (k : ℕ) : Type 0 where
  pub within : k < length scope
  pub bears : Same (slice_index_or scope k []) w
  pub innermost : (j : ℕ) → j < k → Same (slice_index_or scope j []) w → ⊥

-- The term of a tree: a name means the innermost binder around it that bears it, else the catalogue's entry.
pub data Resolves (es : List Entry) : List Name → Tree → Term → Type 0 where
  bound : {scope : List Name} {w : Name} {o k : ℕ} → Bound scope w k → Resolves es scope (named w o) (variable k)
  entered : {scope : List Name} {w : Name} {o k : ℕ} → ((j : ℕ) → Bound scope w j → ⊥) → Least es w (Some k) → Resolves es scope (named w o) (primitive k)
  refers : {scope : List Name} {n o : ℕ} → Resolves es scope (referred n o) (reference n)
  binds : {scope : List Name} {w : Name} {o : ℕ} {t : Tree} {b : Term} → Resolves es (w ∷ scope) t b → Resolves es scope (abstracted w o t) (abstraction b)
  applies : {scope : List Name} {t u : Tree} {f a : Term} → Resolves es scope t f → Resolves es scope u a → Resolves es scope (applied t u) (application f a)

-- a use of a name: where it stands, and in which scope
pub record Use : Type 0 where
  pub name : Name
  pub at : ℕ
  pub scope : List Name

-- the uses of names in the order of the text
abbrev pub uses : List Name → Tree → List Use
uses scope (named w o) = record { name = w; at = o; scope = scope } ∷ []
uses scope (referred n o) = []
uses scope (abstracted w o t) = uses (w ∷ scope) t
uses scope (applied t u) = uses scope t ++ uses scope u

-- the name is bound where it is used, or in the catalogue
abbrev pub Known : List Entry → Use → Type 0
Known es u = ((k : ℕ) × Bound u.scope u.name k) ⊎ ((k : ℕ) × Bears es k u.name)

pub record Reference : Type 0 where
  pub number : ℕ
  pub at : ℕ

-- the references in the order of the text
abbrev pub references : Tree → List Reference
references (named w o) = []
references (referred n o) = record { number = n; at = o } ∷ []
references (abstracted w o t) = references t
references (applied t u) = references t ++ references u

-- the reference is to one of the formulas filed so far
abbrev pub Filed : ℕ → Reference → Type 0
Filed filed r = r.number < filed
