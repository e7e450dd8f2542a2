-- Type graphs in a memory of type nodes, and their solutions.
use Rattle.std.specs.Prelude.{◌≡◌, ℕ, ◌+◌, ◌<◌, ◌≤◌, cond, List, [], ◌∷◌, map, length, take, ◌==◌, slice_index_or}
use Rattle.types.specs.Types.{Ty, base, branch}
use Rattle.types.specs.Lists.{node}
use Rattle.types.specs.declared.TypeNode.{TypeNode}
use Rattle.graph.specs.declared.Node.{Node}
use Rattle.graph.specs.declared.Node.TheVariants.{Var, Base, Branch, Link}

-- a record, read as a graph node: kind 0 is a variable, 1 a base, 255 a link, any other a branch of that kind
abbrev pub view : TypeNode → Node
view t = cond (t.kind == 0) Var (cond (t.kind == 1) (Base t.left) (cond (t.kind == 255) (Link t.left) (Branch t.kind t.left t.right)))

-- the record that says what a node is
abbrev pub record_of : Node → TypeNode
record_of Var = node 0 0 0
record_of (Base c) = node 1 c 0
record_of (Branch k l r) = node k l r
record_of (Link j) = node 255 j 0

-- the graph in the first n records of a memory
abbrev pub graph : List TypeNode → ℕ → List Node
graph ts n = map view (take n ts)

-- what node i asks of a valuation, which gives each graph node a type
abbrev pub Says : (ℕ → Ty) → ℕ → Node → Type 0
Says v i Var = Unit {0}
Says v i (Base c) = v i ≡ base c
Says v i (Branch k l r) = v i ≡ branch k (v l) (v r)
Says v i (Link j) = v i ≡ v j

-- the valuation meets what each node asks
abbrev pub Solves : (ℕ → Ty) → List Node → Type 0
Solves v ns = (i : ℕ) → i < length ns → Says v i (slice_index_or ns i Var)

-- a branch has its parts within the graph of n nodes, and a link goes down
abbrev pub Inside : ℕ → ℕ → Node → Type 0
Inside n i Var = Unit {0}
Inside n i (Base c) = Unit {0}
Inside n i (Branch k l r) = (l < n) × (r < n)
Inside n i (Link j) = j < i

abbrev pub Sound : List Node → Type 0
Sound ns = (i : ℕ) → i < length ns → Inside (length ns) i (slice_index_or ns i Var)

-- a node that is no link stands for its class
abbrev pub alive : Node → ℕ
alive Var = 1
alive (Base c) = 1
alive (Branch k l r) = 1
alive (Link j) = 0

-- how many classes a graph has
abbrev pub live : List Node → ℕ
live [] = 0
live (n ∷ ns) = alive n + live ns

-- the valuations that solve ns and meet E are those that solve ms and meet F
pub record Kept (ns ms : List Node) (E F : (ℕ → Ty) → Type 0) : Type 0 where
  pub sound : Sound ms
  pub fewer : live ms ≤ live ns
  pub onto : (v : ℕ → Ty) → Solves v ns → E v → Solves v ms × F v
  pub back : (v : ℕ → Ty) → Solves v ms → F v → Solves v ns × E v

abbrev pub Always : (ℕ → Ty) → Type 0
Always v = Unit {0}

-- no class has another representative
abbrev pub Still : List Node → List Node → Type 0
Still ns ms = (k : ℕ) → alive (slice_index_or ms k Var) ≡ alive (slice_index_or ns k Var)
