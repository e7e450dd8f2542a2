-- The bytes of one entry of a catalogue file: how long its name is, the name, and nodes of five bytes.
use Rattle.std.specs.Prelude.{◌≡◌, ℕ, ◌*◌, ◌<◌, ◌≤◌, List, [], ◌∷◌, length, take, drop, slice_index_or}
use Rattle.types.specs.declared.TypeNode.{TypeNode}
use Rattle.types.specs.Lists.{node}
use Rattle.text.specs.Words.{IsName}
use Rattle.catalogue.specs.Names.{Name}
use Rattle.catalogue.specs.Entries.{Entry}
use Rattle.catalogue_file.specs.Numbers.{number}

-- the name has as many bytes as the first byte says
abbrev pub name_of : List ℕ → Name
name_of [] = []
name_of (n ∷ bs) = take n bs

-- what stands behind the name
abbrev pub rest_of : List ℕ → List ℕ
rest_of [] = []
rest_of (n ∷ bs) = drop n bs

-- whole nodes, each of a byte for the kind, two for the left and two for the right
abbrev pub nodes_of : List ℕ → List TypeNode
nodes_of [] = []
nodes_of (k ∷ []) = []
nodes_of (k ∷ l ∷ []) = []
nodes_of (k ∷ l ∷ m ∷ []) = []
nodes_of (k ∷ l ∷ m ∷ r ∷ []) = []
nodes_of (k ∷ l ∷ m ∷ r ∷ s ∷ bs) = node k (number (l ∷ m ∷ [])) (number (r ∷ s ∷ [])) ∷ nodes_of bs

-- the nodes of an entry
abbrev pub list_in : List ℕ → List TypeNode
list_in bs = nodes_of (rest_of bs)

-- what the bytes of an entry mean
abbrev pub entry_in : List ℕ → Entry
entry_in bs = record { name = name_of bs; list = list_in bs }

-- the name and the byte in front of it lie inside, the name is lawful, and behind it stand 1 to `most` whole nodes
pub record Formed (most : ℕ) (bs : List ℕ) : Type 0 where
  pub inside : slice_index_or bs 0 0 < length bs
  pub named : IsName (name_of bs)
  pub whole : length (rest_of bs) ≡ 5 * length (list_in bs)
  pub some : 0 < length (list_in bs)
  pub few : length (list_in bs) ≤ most
