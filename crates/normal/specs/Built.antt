-- Lists of types that a walk makes one at a time: each is new, and comes after its parts.
use Rattle.std.specs.Prelude.{◌≡◌, ℕ, suc, ◌≤◌, true, false, List, [], ◌∷◌, ◌++◌}
use Rattle.types.specs.Types.{Ty, variable, base, branch}
use Rattle.normal.specs.Normal.{has}

-- t may come next: it is a leaf, or its parts are there
abbrev pub Ready : List Ty → Ty → Type 0
Ready ps (variable i) = Unit {0}
Ready ps (base c) = Unit {0}
Ready ps (branch k a b) = (2 ≤ k) × (has ps a ≡ true) × (has ps b ≡ true)

pub data Built : List Ty → Type 0 where
  none : Built []
  more : {ps : List Ty} (t : Ty) → Built ps → has ps t ≡ false → Ready ps t → Built (ps ++ (t ∷ []))

-- how many of the types are variables
abbrev pub variables : List Ty → ℕ
variables [] = 0
variables (variable j ∷ ps) = suc (variables ps)
variables (base c ∷ ps) = variables ps
variables (branch k a b ∷ ps) = variables ps
