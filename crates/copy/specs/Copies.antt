-- Copies of lists of type nodes behind a graph.
use Rattle.std.specs.Prelude.{◌≡◌, ℕ, ◌+◌, ◌<◌, ◌≤◌, List, length, get_or, Some, None, Option, slice_index, slice_index_or}
use Rattle.types.specs.Lists.{zero_node}
use Rattle.types.specs.declared.TypeNode.{TypeNode}
use Rattle.graph.specs.declared.Node.{Node}
use Rattle.graph.specs.declared.Node.TheVariants.{Var, Base, Branch, Link}
use Rattle.copy.specs.Instances.{OfList}
use Rattle.copy.specs.Told.{Told}

-- the node is the variable of number a
pub record IsVariable (x : TypeNode) (a : ℕ) : Type 0 where
  pub leaf : x.kind ≡ 0
  pub number : x.left ≡ a

-- p is the first place of the variable a
pub record First (l : List TypeNode) (a p : ℕ) : Type 0 where
  pub here : IsVariable (slice_index_or l p zero_node) a
  pub before : (j : ℕ) → j < p → IsVariable (slice_index_or l j zero_node) a → ⊥

-- the variable a stands at the place j, below i
pub record StandsBelow (l : List TypeNode) (i a j : ℕ) : Type 0 where
  pub below : j < i
  pub here : IsVariable (slice_index_or l j zero_node) a

-- the table has the first place of each variable that stands below i, if its number is within the table
pub record Noted (l : List TypeNode) (i : ℕ) (seen : List ℕ) : Type 0 where
  pub each : (j a : ℕ) → StandsBelow l i a j → a < length seen → First l a (slice_index seen a)

-- what the node at a place becomes in a copy, where the places move up by n: a variable that stood before is a link to
-- the copy of its first node
abbrev pub Fresh : List TypeNode → ℕ → ℕ → Node → Type 0
Fresh l n p Var = First l (get_or l p zero_node).left p
Fresh l n p (Base c) = ((get_or l p zero_node).kind ≡ 1) × ((get_or l p zero_node).left ≡ c)
Fresh l n p (Branch k a b) = (2 ≤ k) × ((get_or l p zero_node).kind ≡ k) × (a ≡ n + (get_or l p zero_node).left) × (b ≡ n + (get_or l p zero_node).right)
Fresh l n p (Link m) = (j : ℕ) × (m ≡ n + j) × (j < p) × ((get_or l p zero_node).kind ≡ 0) × First l (get_or l p zero_node).left j

-- ms is ns and behind it a copy of a list, whose root is a node with exactly the instances of the list's type; a list
-- without nodes has no copy
abbrev pub Copied : List TypeNode → List Node → List Node → Option ℕ → Type 0
Copied l ns ms (Some i) = Told ns ms i (λ v τ. OfList l τ)
Copied l ns ms None = length l ≡ 0
