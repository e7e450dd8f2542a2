-- Graphs that grow: which types a node has in the solutions of the larger graph.
use Rattle.std.specs.Prelude.{◌≡◌, ℕ, ◌<◌, ◌≤◌, List, length}
use Rattle.types.specs.Types.{Ty}
use Rattle.graph.specs.Graph.{Solves, Sound}
use Rattle.graph.specs.declared.Node.{Node}

-- w gives the first n nodes what v gives them
abbrev pub Agree : ℕ → (ℕ → Ty) → (ℕ → Ty) → Type 0
Agree n w v = (k : ℕ) → k < n → w k ≡ v k

-- ms grew from ns, and its node i has exactly the types τ that E allows, whatever the older nodes have
pub record Told (ns ms : List Node) (i : ℕ) (E : (ℕ → Ty) → Ty → Type 0) : Type 0 where
  pub sound : Sound ms
  pub longer : length ns ≤ length ms
  pub inside : i < length ms
  pub back : (v : ℕ → Ty) → Solves v ms → Solves v ns × E v (v i)
  pub onto : (v : ℕ → Ty) (τ : Ty) → Solves v ns → E v τ → (w : ℕ → Ty) × Agree (length ns) w v × Solves w ms × (w i ≡ τ)

-- no solution of ns leaves a type that E allows
abbrev pub Never : List Node → ((ℕ → Ty) → Ty → Type 0) → Type 0
Never ns E = (v : ℕ → Ty) (τ : Ty) → Solves v ns → E v τ → ⊥
