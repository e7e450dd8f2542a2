-- What the walk over a graph keeps: the list of the parts met so far, in four lent memories of numbers.
use Rattle.std.specs.Prelude.{◌≡◌, ℕ, zero, suc, ◌+◌, ◌<◌, ◌≤◌, List, [], ◌∷◌, length, get_or, Ok, Err, Result, ◌≢◌, slice_index, slice_index_or, slice_set}
use Rattle.types.specs.declared.TypeNode.{TypeNode}
use Rattle.types.specs.Types.{Ty, variable, base, branch}
use Rattle.types.specs.Lists.{node}
use Rattle.graph.specs.Graph.{Solves, alive}
use Rattle.graph.specs.declared.Node.{Node}
use Rattle.graph.specs.declared.Node.TheVariants.{Var, Branch}
use Rattle.normal.specs.Normal.{place, postorder, add, firsts}
use Rattle.normal.specs.Built.{Ready, Built}
use Rattle.walk.specs.Reads.{Reads, root}
use Rattle.walk.specs.Table.{Table, bucket}
use Rattle.walk.specs.declared.Looped.{Looped}
use Rattle.walk.specs.declared.walking.Mark.{Mark}
use Rattle.walk.specs.declared.walking.Mark.TheVariants.{New, Open, Done}

-- a mark, as a number
abbrev pub written_as : Mark → ℕ
written_as New = 0
written_as Open = 1
written_as (Done p) = p + 2

-- marks, by graph node: 0 not entered, 1 open, p + 2 done at the place p; origins, by place: the graph node that first
-- made this part; heads and nexts: the table of the parts; and how many places there are
pub record Work : Type 0 where
  pub marks : List ℕ
  pub origins : List ℕ
  pub heads : List ℕ
  pub nexts : List ℕ
  pub count : ℕ

abbrev pub work : List ℕ → List ℕ → List ℕ → List ℕ → ℕ → Work
work ms os hs xs n = record { marks = ms; origins = os; heads = hs; nexts = xs; count = n }

-- what tells a type among the parts ps: as in its record, but a variable by the node that it is
abbrev pub key_of : List Ty → Ty → TypeNode
key_of ps (variable i) = node 0 i 0
key_of ps (base c) = node 1 c 0
key_of ps (branch k a b) = node k (place ps a) (place ps b)

abbrev pub part : List Ty → ℕ → Ty
part ps p = slice_index_or ps p (variable 0)

-- the parts of node i are done
abbrev pub Complete : List Node → List ℕ → ℕ → Type 0
Complete ns ms i = (h l r : ℕ) → slice_index_or ns i Var ≡ Branch h l r → (2 ≤ slice_index ms (root ns l)) × (2 ≤ slice_index ms (root ns r))

-- each node that is done reads as the part at its place, and its parts are done
pub record Marked (ns : List Node) (ms : List ℕ) (ps : List Ty) : Type 0 where
  pub built : Built ps
  pub read : (k p : ℕ) → k < length ns → slice_index ms k ≡ p + 2 → (p < length ps) × Reads ns k (part ps p)
  pub complete : (k p : ℕ) → k < length ns → slice_index ms k ≡ p + 2 → Complete ns ms k

-- node k is done at the place p, and stands for its class
pub record Origin (ns : List Node) (ms : List ℕ) (k p : ℕ) : Type 0 where
  pub inside : k < length ns
  pub stands : alive (slice_index_or ns k Var) ≡ 1
  pub mark : get_or ms k 0 ≡ p + 2

-- the parts ps are listed
pub record State (ns : List Node) (w : Work) (ps : List Ty) : Type 0 where
  pub marked : Marked ns w.marks ps
  pub long : length ps ≡ w.count
  pub made : (p : ℕ) → p < w.count → Origin ns w.marks (slice_index w.origins p) p
  pub table : Table (λ p. bucket (length w.heads) (key_of ps (part ps p))) w.count w.heads w.nexts

-- how many nodes are not entered yet
abbrev pub zeros : List ℕ → ℕ
zeros [] = 0
zeros (zero ∷ xs) = suc (zeros xs)
zeros (suc x ∷ xs) = zeros xs

-- there is room for each node that is still to come
pub record Room (n : ℕ) (w : Work) : Type 0 where
  pub marks : length w.marks ≡ n
  pub origins : length w.origins ≡ n
  pub heads : length w.heads ≡ n
  pub nexts : length w.nexts ≡ n
  pub rest : w.count + zeros w.marks ≤ n
  pub few : n ≤ 65536

-- entered nodes stay as they are, and none is left open
abbrev pub Grown : List ℕ → List ℕ → Type 0
Grown ms ms' = (k : ℕ) → ((slice_index ms k ≢ 0) → slice_index ms' k ≡ slice_index ms k) × (slice_index ms k ≡ 0 → slice_index ms' k ≢ 1)

-- the type of a node was listed after the parts ps, and stands at p
pub record Exact (ns : List Node) (w : Work) (at p : ℕ) (ps : List Ty) : Type 0 where
  pub type : Ty
  pub reads : Reads ns at type
  pub state : State ns w (firsts ps (postorder type))
  pub here : p ≡ place (firsts ps (postorder type)) type

pub record Walked (ns : List Node) (w w' : Work) (at p : ℕ) : Type 0 where
  pub fewer : zeros w'.marks ≤ zeros w.marks
  pub rest : w'.count + zeros w'.marks ≤ w.count + zeros w.marks
  pub grown : Grown w.marks w'.marks
  pub mark : get_or w'.marks (root ns at) 0 ≡ p + 2
  pub exact : (ps : List Ty) → State ns w ps → Exact ns w' at p ps

-- each solution gives each open node a larger type than the node at
abbrev pub size : Ty → ℕ
size (variable i) = 1
size (base c) = 1
size (branch k a b) = 1 + (size a + size b)

abbrev pub Above : List Node → List ℕ → ℕ → Type 0
Above ns ms at = (k : ℕ) → k < length ns → slice_index ms k ≡ 1 → (v : ℕ → Ty) → Solves v ns → size (v at) < size (v k)

abbrev pub Outcome : List Node → Work → Work → ℕ → Result ℕ Looped → Type 0
Outcome ns w w' at (Ok p) = Walked ns w w' at p
Outcome ns w w' at (Err e) = Above ns w.marks at → (v : ℕ → Ty) → Solves v ns → ⊥

-- node i is done: its type, with this key, was found among the parts or put behind them
pub record Closed (ns : List Node) (w w' : Work) (i : ℕ) (key : TypeNode) (p : ℕ) : Type 0 where
  pub marks : w'.marks ≡ slice_set w.marks i (p + 2)
  pub count : w'.count ≤ w.count + 1
  pub exact : (ps : List Ty) (t : Ty) → State ns w ps → Ready ps t → key_of ps t ≡ key → Reads ns i t → State ns w' (add ps t) × (p ≡ place (add ps t) t)
