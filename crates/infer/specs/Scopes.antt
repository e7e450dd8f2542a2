-- The binders around a place.
use Rattle.std.specs.Prelude.{◌≡◌, ℕ, ◌<◌, List, length, take, slice_index}
use Rattle.infer.specs.declared.Scope.{Scope}

-- the graph nodes of the binders, the innermost last
abbrev pub held : Scope → List ℕ
held s = take s.depth s.binders.now

-- t keeps its binders where s does
abbrev pub AsBefore : Scope → Scope → Type 0
AsBefore s t = (t.binders.ghost_name ≡ s.binders.ghost_name) × (length t.binders.now ≡ length s.binders.now)

-- the numbers are graph nodes below n
abbrev pub Scoped : List ℕ → ℕ → Type 0
Scoped xs n = (k : ℕ) → k < length xs → slice_index xs k < n
