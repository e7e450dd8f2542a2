-- What is answered of a term's derivation: a type for each node, in one list.
use Rattle.std.specs.Prelude.{◌≡◌, ℕ, ◌-◌, ◌<◌, ◌≤◌, List, ◌++◌, length, take, replicate, slice_index}
use Rattle.refusal.specs.Saying.{saying}
use Rattle.refusal.specs.declared.Layer.TheVariants as layer
use Rattle.refusal.specs.declared.Refusal.{Refusal}
use Rattle.types.specs.declared.TypeNode.{TypeNode}
use Rattle.types.specs.Types.{Ty}
use Rattle.types.specs.Lists.{zero_node, Lawful, type_at}
use Rattle.term.specs.declared.TermNode.{TermNode}
use Rattle.term.specs.Terms.{Term, prefix}
use Rattle.copy.specs.Instances.{Lists}
use Rattle.infer.specs.Heads.{need}
use Rattle.normal.specs.Normal.{place, parts, normal, normal_of}
use Rattle.normal.specs.Laws.{Once}
use Rattle.typer.specs.declared.fault.TypesFault.{TypesFault}
use Rattle.typer.specs.declared.fault.TypesFault.TheVariants.{TooMuch, NoTypeRoom, NoNumberRoom, NoType}
use Rattle.typer.specs.Questions.{numbers_for, Serves}
use Rattle.typer.specs.Answers.{PrincipalType, PrincipalTyping, NoTypes, Cleared, Zeros}
use Rattle.typer.specs.Nodes.{of}

-- a derivation of a term of t nodes that needs n records has room in memories of so many records, places and numbers
pub record Holds (n t types places numbers : ℕ) : Type 0 where
  pub serves : Serves n t types numbers
  pub wide : t ≤ places

-- n is the need, and there is room
pub record Roomy (need t types places numbers n : ℕ) : Type 0 where
  pub is : n ≡ need
  pub holds : Holds need t types places numbers

-- the type memory has the needed records, at most 4,096
pub record Fits (n types : ℕ) : Type 0 where
  pub few : n ≤ 4096
  pub records : n ≤ types

-- why it has not: more than 4,096 are needed, or it has fewer
abbrev pub NotFits : ℕ → ℕ → TypesFault → Type 0
NotFits n types TooMuch = 4096 < n
NotFits n types NoTypeRoom = (n ≤ 4096) × (types < n)
NotFits n types NoNumberRoom = ⊥
NotFits n types NoType = ⊥

-- The first question that is answered with no: has the type memory the needed records (73), has the place memory a place
-- for each node (74), has the number memory the needed numbers (75)?
pub data Roomless (n t types places numbers : ℕ) : Refusal → Type 0 where
  no_type_room : (Fits n types → ⊥) → Roomless n t types places numbers (saying 73 layer.Book 0)
  no_place_room : Fits n types → places < t → Roomless n t types places numbers (saying 74 layer.Book 0)
  no_number_room : Fits n types → t ≤ places → numbers < numbers_for n t → Roomless n t types places numbers (saying 75 layer.Book 0)

-- The type memory holds the normal list of the types of the term's nodes, n records, and zero nodes behind it; place k
-- is that of node k's type, and behind the term's places, and in the number memory, are zeros. With the types at these
-- places the term has a typing of which each of its typings is an instance.
pub record Derived (E K : Lists) (ts : List TermNode) (types : List TypeNode) (places numbers : List ℕ) (n : ℕ) : Type 0 where
  pub nodes : List Ty
  pub long : length nodes ≡ length ts
  pub count : n ≡ length (normal nodes)
  pub within : n ≤ need E K ts
  pub holds : types ≡ normal nodes ++ replicate (length types - n) zero_node
  pub stands : (k : ℕ) → k < length ts → slice_index places k ≡ place (parts nodes) (of nodes k)
  pub behind : (k : ℕ) → length ts ≤ k → slice_index places k ≡ 0
  pub zeros : Zeros numbers
  pub once : Once (normal nodes)
  pub lawful : (t : Term) → prefix t ≡ ts → Lawful (normal nodes)
  pub principal : (t : Term) → prefix t ≡ ts → PrincipalTyping E K t (λ k. type_at (normal nodes) (slice_index places k))
  -- the list begins with that of the term's most general type
  pub begins : (t : Term) → prefix t ≡ ts → (τ : Ty) → PrincipalType E K t τ → take (length (normal_of τ)) (normal nodes) ≡ normal_of τ

-- `Derived`, and the types that the list is made of are a principal typing themselves
pub record DerivedNodes (E K : Lists) (ts : List TermNode) (types : List TypeNode) (places numbers : List ℕ) (n : ℕ) : Type 0 where
  pub derived : Derived E K ts types places numbers n
  pub typing : (t : Term) → prefix t ≡ ts → PrincipalTyping E K t (of derived.nodes)

-- The first question that is answered with no. Those before the work leave the memories as they were; that the term has
-- no type (40) leaves zeros in all three.
pub data Underived (E K : Lists) (ts : List TermNode) (types types' : List TypeNode) (places places' numbers numbers' : List ℕ) : Refusal → Type 0 where
  roomless : {r : Refusal} → Roomless (need E K ts) (length ts) (length types) (length places) (length numbers) r → types' ≡ types → places' ≡ places → numbers' ≡ numbers → Underived E K ts types types' places places' numbers numbers' r
  no_type : Holds (need E K ts) (length ts) (length types) (length places) (length numbers) → NoTypes E K ts → Cleared types' → Zeros places' → Zeros numbers' → Underived E K ts types types' places places' numbers numbers' (saying 40 layer.Types 0)
