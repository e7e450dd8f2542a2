-- The questions that are put to a catalogue file, one after the other.
use Rattle.std.specs.Prelude.{◌≡◌, ℕ, zero, suc, ◌+◌, ◌<◌, ◌≤◌, List, length, take}
use Rattle.types.specs.Lists.{Lawful}
use Rattle.catalogue.specs.Names.{Same}
use Rattle.catalogue_file.specs.declared.layout.Layout.{Layout}
use Rattle.catalogue_file.specs.Numbers.{number}
use Rattle.catalogue_file.specs.Layouts.{pair_place}
use Rattle.catalogue_file.specs.Parts.{Formed}
use Rattle.catalogue_file.specs.Files.{count, offset, size, part, entry}

-- the file is neither too short nor too long
pub record Sized (l : Layout) (bs : List ℕ) : Type 0 where
  pub enough : l.least ≤ length bs
  pub short : length bs ≤ l.most

-- it begins with the layout's mark, has few enough entries, and their pairs are inside
pub record Headed (l : Layout) (bs : List ℕ) : Type 0 where
  pub marked : number (take l.front bs) ≡ l.mark
  pub few : count l bs ≤ l.entries
  pub inside : pair_place l (count l bs) ≤ length bs

-- where entry k is due: the first behind the pairs, each next where the former ends
abbrev pub due : Layout → List ℕ → ℕ → ℕ
due l bs zero = pair_place l (count l bs)
due l bs (suc k) = offset l bs k + size l bs k

-- each entry starts where it is due, and where one more would be due the file ends
pub record Laid (l : Layout) (bs : List ℕ) : Type 0 where
  pub starts : (k : ℕ) → k < count l bs → offset l bs k ≡ due l bs k
  pub ends : due l bs (count l bs) ≡ length bs

-- entry k is a lawful name and whole nodes
abbrev pub FormedAt : Layout → List ℕ → ℕ → Type 0
FormedAt l bs k = Formed l.nodes (part l bs k)

-- the nodes of entry k are lawful
abbrev pub LawfulAt : Layout → List ℕ → ℕ → Type 0
LawfulAt l bs k = Lawful (entry l bs k).list

-- no earlier entry bears the name of entry k
abbrev pub FreshAt : Layout → List ℕ → ℕ → Type 0
FreshAt l bs k = (j : ℕ) → j < k → Same (entry l bs j).name (entry l bs k).name → ⊥
