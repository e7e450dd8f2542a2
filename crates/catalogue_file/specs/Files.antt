-- What a catalogue file means: the entries that its pairs of offset and length point at, in order.
use Rattle.std.specs.Prelude.{ℕ, ◌+◌, List, map, take, drop}
use Rattle.std.specs.List.{range_with_len}
use Rattle.catalogue.specs.Entries.{Entry}
use Rattle.catalogue_file.specs.declared.layout.Layout.{Layout}
use Rattle.catalogue_file.specs.Numbers.{number}
use Rattle.catalogue_file.specs.Layouts.{pair_place}
use Rattle.catalogue_file.specs.Parts.{entry_in}

-- the number at an offset, of the layout's width
unfoldable pub field : Layout → List ℕ → ℕ → ℕ
field l bs at = number (take l.width (drop at bs))

-- how many entries the file has
abbrev pub count : Layout → List ℕ → ℕ
count l bs = field l bs l.front

-- where entry k starts, and how many bytes it has
abbrev pub offset : Layout → List ℕ → ℕ → ℕ
offset l bs k = field l bs (pair_place l k)

abbrev pub size : Layout → List ℕ → ℕ → ℕ
size l bs k = field l bs (pair_place l k + l.width)

-- the bytes of entry k
abbrev pub part : Layout → List ℕ → ℕ → List ℕ
part l bs k = take (size l bs k) (drop (offset l bs k) bs)

abbrev pub entry : Layout → List ℕ → ℕ → Entry
entry l bs k = entry_in (part l bs k)

-- all entries, in order
abbrev pub entries_of : Layout → List ℕ → List Entry
entries_of l bs = map (entry l bs) (range_with_len 0 (count l bs))
