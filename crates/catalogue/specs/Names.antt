-- When two names are one name.
use Rattle.std.specs.Prelude.{◌≡◌, ℕ, List}

-- a name is its bytes
abbrev pub Name : Type 0
Name = List ℕ

-- two names are the same when their bytes are equal
abbrev pub Same : Name → Name → Type 0
Same a b = a ≡ b
