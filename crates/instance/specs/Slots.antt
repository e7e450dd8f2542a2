-- The places in a table of two-byte entries.
use Rattle.std.specs.Prelude.{ℕ, zero, suc, List, map, Option, Some, None}
use Rattle.instance.specs.declared.matching.Slot.{Slot}

-- zero is for none, and p + 1 for the place p
abbrev pub place_in : ℕ → Option ℕ
place_in zero = None
place_in (suc p) = Some p

abbrev pub place_of : Slot → Option ℕ
place_of s = place_in s.0

abbrev pub places : List Slot → List (Option ℕ)
places t = map place_of t
