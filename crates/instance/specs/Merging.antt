-- A list brought into one without equal records, each place of it with its place there.
use Rattle.std.specs.Prelude.{◌≡◌, ℕ, ◌<◌, ◌≤◌, cond, ◌⊎◌, List, [], ◌∷◌, ◌++◌, length, get_or, nat_lt, slice_index, slice_index_or}
use Rattle.types.specs.declared.TypeNode.{TypeNode}
use Rattle.types.specs.Lists.{node, zero_node, LawfulNode, type_at}
use Rattle.instance.specs.Once.{Absent, Once}

-- the record with new places for its parts
abbrev pub moved : TypeNode → List ℕ → TypeNode
moved n places = cond (nat_lt n.kind 2) n (node n.kind (slice_index places n.left) (slice_index places n.right))

-- the record stands at a place, and was put last unless it was there
pub record Keeps (old new : List TypeNode) (n : TypeNode) (place : ℕ) : Type 0 where
  pub inside : place < length new
  pub there : get_or new place zero_node ≡ n
  pub grown : (new ≡ old) ⊎ ((new ≡ old ++ (n ∷ [])) × Absent old n)

-- the first n places of a list have places with the same types in a merged list without equal records, noted in turn
pub record Merged (list merged : List TypeNode) (places : List ℕ) (n : ℕ) : Type 0 where
  pub few : length merged ≤ n
  pub noted : length places ≡ n
  pub each : (p : ℕ) → p < length merged → LawfulNode p (slice_index_or merged p zero_node)
  pub once : Once merged
  pub inside : (p : ℕ) → p < n → slice_index places p < length merged
  pub same : (p : ℕ) → p < n → type_at merged (slice_index places p) ≡ type_at list p
