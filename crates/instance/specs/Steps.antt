-- A step of a matching.
use Rattle.std.specs.Prelude.{ℕ, Bool, length}
use Rattle.instance.specs.declared.matching.Matching.{Matching}
use Rattle.instance.specs.Matching.{Within, Stepped}
use Rattle.instance.specs.Slots.{places}

-- the places of the first k nodes, and of the variables, are places of the special list
abbrev pub Inside : Matching → ℕ → Type 0
Inside m k = Within (length m.special.now) (places m.nodes) (places m.variables) k

-- node k is asked no more, or no substitution does what was asked
abbrev pub Steps : Matching → Matching → ℕ → Bool → Type 0
Steps m m' k r = Stepped m.general.now m.special.now (places m.nodes) (places m'.nodes) (places m.variables) (places m'.variables) k r
