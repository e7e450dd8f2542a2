-- Lists of type nodes: which are lawful, and what type they mean.
use Rattle.std.specs.Prelude.{◌≡◌, ℕ, zero, suc, ◌-◌, ◌<◌, ◌≤◌, List, length, get_or, slice_index_or}
use Rattle.types.specs.declared.TypeNode.{TypeNode}
use Rattle.types.specs.Types.{Ty, variable, base, branch}

abbrev pub node : ℕ → ℕ → ℕ → TypeNode
node kind left right = record { kind = kind; left = left; right = right }

-- what a cleared memory holds
abbrev pub zero_node : TypeNode
zero_node = node 0 0 0

-- the node may stand at the place: a variable up to 4,095, a base with a code up to 5, or an arrow of lower places
pub record LawfulNode (place : ℕ) (n : TypeNode) : Type 0 where
  pub kinds : n.kind ≤ 2
  pub leaf : n.kind < 2 → n.right ≡ 0
  pub number : n.kind ≡ 0 → n.left ≤ 4095
  pub code : n.kind ≡ 1 → n.left ≤ 5
  pub lower : 2 ≤ n.kind → (n.left < place) × (n.right < place)

-- one to 4,096 nodes, each lawful where it stands
pub record Lawful (l : List TypeNode) : Type 0 where
  pub some : 0 < length l
  pub few : length l ≤ 4096
  pub each : (p : ℕ) → p < length l → LawfulNode p (slice_index_or l p zero_node)

-- the type of a node of a kind, with a number or two parts
abbrev pub shape : ℕ → ℕ → Ty → Ty → Ty
shape zero n a b = variable n
shape (suc zero) n a b = base n
shape (suc (suc k)) n a b = branch (suc (suc k)) a b

-- the type at a place, read to a depth
abbrev pub reading : ℕ → List TypeNode → ℕ → Ty
reading zero l p = variable 0
reading (suc d) l p =
    shape (get_or l p zero_node).kind (get_or l p zero_node).left (reading d l (get_or l p zero_node).left) (reading d l (get_or l p zero_node).right)

-- the type at a place: parts stand lower, so the place itself is deep enough
abbrev pub type_at : List TypeNode → ℕ → Ty
type_at l p = reading (suc p) l p

-- the type that a lawful list means, that at its last node
abbrev pub meaning : List TypeNode → Ty
meaning l = type_at l (length l - 1)
