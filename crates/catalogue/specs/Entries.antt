-- What a catalogue means: a list of entries, each a name and a lawful list of type nodes.
use Rattle.std.specs.Prelude.{ℕ, ◌<◌, List, [], length, Some, None, Option, slice_index_or}
use Rattle.types.specs.declared.TypeNode.{TypeNode}
use Rattle.types.specs.Lists.{Lawful}
use Rattle.catalogue.specs.Names.{Name, Same}

pub record Entry : Type 0 where
  pub name : Name
  pub list : List TypeNode

abbrev pub no_entry : Entry
no_entry = record { name = []; list = [] }

-- the list of entry k, without nodes where there is no such entry
abbrev pub list_of : List Entry → ℕ → List TypeNode
list_of es k = (slice_index_or es k no_entry).list

-- entry k bears the name
pub record Bears (es : List Entry) (k : ℕ) (n : Name) : Type 0 where
  pub within : k < length es
  pub same : Same (slice_index_or es k no_entry).name n

-- the least number whose entry bears the name, or that there is none
abbrev pub Least : List Entry → Name → Option ℕ → Type 0
Least es n (Some k) = Bears es k n × ((j : ℕ) → j < k → Bears es j n → ⊥)
Least es n None = (j : ℕ) → Bears es j n → ⊥

-- every entry's list is lawful
abbrev pub AllLawful : List Entry → Type 0
AllLawful es = (k : ℕ) → k < length es → Lawful (list_of es k)
