-- The types of a term's first nodes, in their normal list.
use Rattle.std.specs.Prelude.{◌≡◌, ℕ, ◌-◌, ◌<◌, ◌≤◌, List, ◌++◌, length, take, replicate, Some, None, Option, slice_index, slice_index_or}
use Rattle.std.specs.List.{AllByRecursion}
use Rattle.types.specs.declared.TypeNode.{TypeNode}
use Rattle.types.specs.Types.{Ty, variable}
use Rattle.types.specs.Lists.{zero_node}
use Rattle.term.specs.declared.TermNode.{TermNode}
use Rattle.term.specs.Terms.{Term, prefix}
use Rattle.copy.specs.Instances.{Lists}
use Rattle.infer.specs.Heads.{need}
use Rattle.normal.specs.Normal.{place, parts, normal}
use Rattle.normal.specs.Laws.{Proper}
use Rattle.typer.specs.Answers.{PrincipalTyping, NoTypes, Cleared}

-- the type of the node at a place
abbrev pub of : List Ty → ℕ → Ty
of us p = slice_index_or us p (variable 0)

-- The memory holds the normal list of the types of the first nodes, as many as there are places qs, n records, and zero
-- nodes behind it; the places are those of the types.
pub record NodesListed (E K : Lists) (ts : List TermNode) (qs : List ℕ) (memory : List TypeNode) (n : ℕ) : Type 0 where
  pub types : List Ty
  pub long : length types ≡ length ts
  pub some : 0 < length ts
  pub proper : AllByRecursion Proper types
  pub principal : (t : Term) → prefix t ≡ ts → PrincipalTyping E K t (of types)
  pub count : n ≡ length (normal (take (length qs) types))
  pub within : n ≤ need E K ts
  pub holds : memory ≡ normal (take (length qs) types) ++ replicate (length memory - n) zero_node
  pub places : (k : ℕ) → k < length qs → slice_index qs k ≡ place (parts (take (length qs) types)) (of types k)

-- or the term has no type, and the memory is cleared
pub record Nowhere (E K : Lists) (ts : List TermNode) (memory : List TypeNode) : Type 0 where
  pub none : NoTypes E K ts
  pub clear : Cleared memory

abbrev pub Listing : Lists → Lists → List TermNode → List ℕ → List TypeNode → Option ℕ → Type 0
Listing E K ts qs memory (Some n) = NodesListed E K ts qs memory n
Listing E K ts qs memory None = Nowhere E K ts memory
