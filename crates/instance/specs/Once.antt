-- Lists without equal records, in which places stand for types.
use Rattle.std.specs.Prelude.{◌≡◌, ℕ, ◌<◌, List, length, Some, None, Option, ◌≢◌, slice_index_or}
use Rattle.types.specs.declared.TypeNode.{TypeNode}
use Rattle.types.specs.Lists.{zero_node, type_at}

-- the record stands nowhere in the list
abbrev pub Absent : List TypeNode → TypeNode → Type 0
Absent l n = (p : ℕ) → p < length l → slice_index_or l p zero_node ≢ n

-- a place of the record, or none if it has none
abbrev pub Found : List TypeNode → TypeNode → Option ℕ → Type 0
Found l n (Some p) = (p < length l) × (slice_index_or l p zero_node ≡ n)
Found l n None = Absent l n

-- equal records are at equal places
abbrev pub Once : List TypeNode → Type 0
Once l = (p q : ℕ) → p < length l → q < length l → slice_index_or l p zero_node ≡ slice_index_or l q zero_node → p ≡ q

-- equal types are at equal places
abbrev pub PlacesAreTypes : List TypeNode → Type 0
PlacesAreTypes l = (p q : ℕ) → p < length l → q < length l → type_at l p ≡ type_at l q → p ≡ q
