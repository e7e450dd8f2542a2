-- What is listed when the walk has gone over several nodes, and what is promised of the whole.
use Rattle.std.specs.Prelude.{◌≡◌, ℕ, ◌-◌, ◌<◌, ◌≤◌, List, [], ◌++◌, map, length, replicate, Ok, Err, Result, ◌≢◌, slice_index, slice_index_or}
use Rattle.types.specs.declared.TypeNode.{TypeNode}
use Rattle.types.specs.Types.{Ty, variable}
use Rattle.types.specs.Lists.{node, zero_node}
use Rattle.graph.specs.Graph.{Solves}
use Rattle.graph.specs.declared.Node.{Node}
use Rattle.graph.specs.declared.Node.TheVariants.{Var, Base, Branch, Link}
use Rattle.normal.specs.Normal.{place, postorders, firsts, parts, records, normal}
use Rattle.normal.specs.Laws.{Proper, Simple}
use Rattle.walk.specs.Reads.{Reads, MostGeneral}
use Rattle.walk.specs.Work.{Work, State, Room}
use Rattle.walk.specs.declared.Looped.{Looped}

-- no node is open
abbrev pub Shut : List ℕ → Type 0
Shut ms = (k : ℕ) → slice_index ms k ≢ 1

-- no types solve the graph
abbrev pub Unsolvable : List Node → Type 0
Unsolvable ns = (v : ℕ → Ty) → Solves v ns → ⊥

-- the types of the nodes r 0, r 1, .. below r i were listed after the parts ps
pub record Sofar (ns : List Node) (w : Work) (r : ℕ → ℕ) (ps : List Ty) (i : ℕ) : Type 0 where
  pub types : List Ty
  pub long : length types ≡ i
  pub reads : (k : ℕ) → k < i → Reads ns (r k) (slice_index_or types k (variable 0))
  pub state : State ns w (firsts ps (postorders types))

-- and the places qs are theirs
abbrev pub Placed : List ℕ → List Ty → ℕ → Type 0
Placed qs ts i = (k : ℕ) → k < i → slice_index qs k ≡ place (parts ts) (slice_index_or ts k (variable 0))

pub record Rooted (ns : List Node) (w : Work) (rs qs : List ℕ) (n : ℕ) : Type 0 where
  pub sofar : Sofar ns w (λ k. slice_index rs k) [] (length rs)
  pub placed : Placed qs sofar.types (length rs)
  pub shut : Shut w.marks
  pub room : Room (length ns) w
  pub count : n ≡ w.count

abbrev pub Roots : List Node → Work → List ℕ → List ℕ → Result ℕ Looped → Type 0
Roots ns w rs qs (Ok n) = Rooted ns w rs qs n
Roots ns w rs qs (Err e) = Unsolvable ns

-- every node was listed, after the parts that stood
pub record Rested (ns : List Node) (w w' : Work) : Type 0 where
  pub sofar : (ps : List Ty) → State ns w ps → Sofar ns w' (λ k. k) ps (length ns)
  pub room : Room (length ns) w'

abbrev pub Rest : List Node → Work → Work → Result (Unit {0}) Looped → Type 0
Rest ns w w' (Ok u) = Rested ns w w'
Rest ns w w' (Err e) = Unsolvable ns

-- three columns of numbers that hold the first n records of the parts
pub record Columns (ps : List Ty) (n : ℕ) (kinds lefts rights : List ℕ) : Type 0 where
  pub row : (p : ℕ) → p < n → node (slice_index kinds p) (slice_index lefts p) (slice_index rights p) ≡ slice_index_or (records ps) p zero_node

-- and fit a record
pub record Narrow (n : ℕ) (kinds lefts rights : List ℕ) : Type 0 where
  pub kind : (p : ℕ) → p < n → slice_index kinds p < 256
  pub left : (p : ℕ) → p < n → slice_index lefts p < 65536
  pub right : (p : ℕ) → p < n → slice_index rights p < 65536

-- a node that says nothing but variables, bases with codes up to 5, and arrows
abbrev pub SimpleNode : Node → Type 0
SimpleNode Var = Unit {0}
SimpleNode (Base c) = c ≤ 5
SimpleNode (Branch k l r) = k ≡ 2
SimpleNode (Link j) = Unit {0}

abbrev pub SimpleGraph : List Node → Type 0
SimpleGraph ns = (i : ℕ) → i < length ns → SimpleNode (slice_index_or ns i Var)

-- The graph has a most general solution. The places qs are those of the types of the roots rs in their normal list.
pub record Canonical (ns : List Node) (rs qs : List ℕ) : Type 0 where
  pub types : ℕ → Ty
  pub general : MostGeneral types ns
  pub proper : (i : ℕ) → i < length ns → Proper (types i)
  pub simple : SimpleGraph ns → (i : ℕ) → i < length ns → Simple (types i)
  pub places : (k : ℕ) → k < length rs → slice_index qs k ≡ place (parts (map types rs)) (types (slice_index rs k))

-- three columns hold the normal list of the roots' types
pub record Gathered (ns : List Node) (rs qs kinds lefts rights : List ℕ) (n : ℕ) : Type 0 where
  pub found : Canonical ns rs qs
  pub count : n ≡ length (normal (map found.types rs))
  pub row : (p : ℕ) → p < n → node (slice_index kinds p) (slice_index lefts p) (slice_index rights p) ≡ slice_index_or (normal (map found.types rs)) p zero_node
  pub narrow : Narrow n kinds lefts rights
  pub within : n ≤ length ns

abbrev pub Gathering : List Node → List ℕ → List ℕ → List ℕ → List ℕ → List ℕ → Result ℕ Looped → Type 0
Gathering ns rs qs kinds lefts rights (Ok n) = Gathered ns rs qs kinds lefts rights n
Gathering ns rs qs kinds lefts rights (Err e) = Unsolvable ns

-- The memory holds the normal list of the roots' types, n records, and zero nodes behind it.
pub record Listed (ns : List Node) (rs qs : List ℕ) (memory : List TypeNode) (n : ℕ) : Type 0 where
  pub found : Canonical ns rs qs
  pub count : n ≡ length (normal (map found.types rs))
  pub list : memory ≡ normal (map found.types rs) ++ replicate (length memory - n) zero_node

-- or the graph has no solution, and the memory is cleared
abbrev pub Listing : List Node → List ℕ → List ℕ → List TypeNode → Result ℕ Looped → Type 0
Listing ns rs qs memory (Ok n) = Listed ns rs qs memory n
Listing ns rs qs memory (Err e) = Unsolvable ns × (memory ≡ replicate (length memory) zero_node)

-- Whichever most general solution is taken, the normal list of the roots' types is the same.
abbrev pub OneList : Type 0
OneList =
    (ns : List Node) (rs : List ℕ) (τ σ : ℕ → Ty) → MostGeneral τ ns → MostGeneral σ ns → ((k : ℕ) → k < length rs → slice_index rs k < length ns)
    → normal (map τ rs) ≡ normal (map σ rs)
