-- What a catalogue over an accepted file means: the entries of the file, few enough and all of them lawful.
use Rattle.std.specs.Prelude.{◌≡◌, ℕ, ◌<◌, ◌≤◌, List, length, slice_index_or}
use Rattle.std.proofs.Common.{sym, subst, le_trans, zero-add}
use Rattle.std.proofs.lemmas.List.FromFn.{length-map-range_with_len, get_or-map-range_with_len}
use Rattle.types.specs.Lists.{Lawful}
use Rattle.catalogue.specs.Entries.{Entry, no_entry, AllLawful}
use Rattle.catalogue_file.specs.declared.layout.Layout.{Layout}
use Rattle.catalogue_file.specs.declared.file.FileCatalogue.{FileCatalogue}
use Rattle.catalogue_file.specs.Files.{count, entry, entries_of}
use Rattle.catalogue_file.specs.Checking.{Sound}
use Rattle.catalogue_file.specs.Facts.{fit_known, framed_known, lawful_known}

abbrev pub layout_of : FileCatalogue → Layout
layout_of c = c.laid.headed.sized.layout

abbrev pub bytes_of : FileCatalogue → List ℕ
bytes_of c = c.laid.headed.sized.bytes.now

abbrev pub contents : FileCatalogue → List Entry
contents c = entries_of (layout_of c) (bytes_of c)

-- the file is sound under the layout, and the catalogue means its entries
pub record Means (l : Layout) (bs : List ℕ) (c : FileCatalogue) : Type 0 where
  pub sound : Sound l bs
  pub means : contents c ≡ entries_of l bs

-- there are as many entries as the file says
pub entries_long : (l : Layout) (bs : List ℕ) → length (entries_of l bs) ≡ count l bs
entries_long l bs = length-map-range_with_len (entry l bs) 0 (count l bs)

-- entry k is the one that pair k points at
pub entry_at : (l : Layout) (bs : List ℕ) (k : ℕ) → k < count l bs → slice_index_or (entries_of l bs) k no_entry ≡ entry l bs k
entry_at l bs k h = get_or-map-range_with_len (entry l bs) 0 (count l bs) k k no_entry h (zero-add k)

pub contents_few : (c : FileCatalogue) → length (contents c) ≤ 65535
contents_few c =
    subst (λ n. n ≤ 65535) (sym (entries_long (layout_of c) (bytes_of c))) (le_trans (framed_known c.sound).headed.few (fit_known c.laid.headed.sized.fit).few)

pub contents_lawful : (c : FileCatalogue) → AllLawful (contents c)
contents_lawful c k h =
    let l = layout_of c in
    let bs = bytes_of c in
    let inside : k < count l bs = subst (λ n. k < n) (entries_long l bs) h in
    subst (λ e. Lawful e.list) (sym (entry_at l bs k inside)) (lawful_known c.sound k inside)
