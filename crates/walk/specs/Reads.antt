-- The types that the nodes of a graph stand for.
use Rattle.std.specs.Prelude.{◌≡◌, ℕ, ◌<◌, ◌≤◌, List, length, slice_index_or}
use Rattle.types.specs.Types.{Ty, variable, base, branch, apply}
use Rattle.graph.specs.Graph.{Solves, Sound, alive}
use Rattle.graph.specs.declared.Node.{Node}
use Rattle.graph.specs.declared.Node.TheVariants.{Var, Base, Branch, Link}

-- node i, read to the end, is a type whose variables are nodes
pub data Reads (ns : List Node) : ℕ → Ty → Type 0 where
  reads_variable : {i : ℕ} → slice_index_or ns i Var ≡ Var → Reads ns i (variable i)
  reads_base : {i c : ℕ} → slice_index_or ns i Var ≡ Base c → Reads ns i (base c)
  reads_branch : {i k l r : ℕ} {a b : Ty} → slice_index_or ns i Var ≡ Branch k l r → Reads ns l a → Reads ns r b → Reads ns i (branch k a b)
  reads_link : {i j : ℕ} {t : Ty} → slice_index_or ns i Var ≡ Link j → Reads ns j t → Reads ns i t

-- a solution of which every solution is an instance, by itself
pub record MostGeneral (τ : ℕ → Ty) (ns : List Node) : Type 0 where
  pub solves : Solves τ ns
  pub general : (v : ℕ → Ty) → Solves v ns → (i : ℕ) → i < length ns → apply v (τ i) ≡ v i

-- where a link goes, or the node itself
abbrev pub target : ℕ → Node → ℕ
target i Var = i
target i (Base c) = i
target i (Branch k l r) = i
target i (Link j) = j

abbrev pub root : List Node → ℕ → ℕ
root ns i = target i (slice_index_or ns i Var)

-- a branch has a kind of its own
abbrev pub Kind : Node → Type 0
Kind Var = Unit {0}
Kind (Base c) = Unit {0}
Kind (Branch k l r) = 2 ≤ k
Kind (Link j) = Unit {0}

-- node i, or the node that its link goes to, stands for the class
abbrev pub Straight : List Node → ℕ → Type 0
Straight ns i = alive (slice_index_or ns (root ns i) Var) ≡ 1

-- a graph whose links all go straight to the node that stands for the class
pub record Flat (ns : List Node) : Type 0 where
  pub sound : Sound ns
  pub kinds : (i : ℕ) → Kind (slice_index_or ns i Var)
  pub straight : (i : ℕ) → i < length ns → Straight ns i
