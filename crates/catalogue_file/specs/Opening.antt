-- What a catalogue file opens as: its entries, or no entries beside the fault.
use Rattle.std.specs.Prelude.{◌≡◌, ℕ, List, [], MatchOption}
use Rattle.catalogue_file.specs.declared.fault.FileFault.{FileFault}
use Rattle.catalogue_file.specs.declared.opening.Opened.{Opened}
use Rattle.catalogue_file.specs.Layouts.{short}
use Rattle.catalogue_file.specs.Files.{entries_of}
use Rattle.catalogue_file.specs.Checking.{Sound, Refuses}
use Rattle.catalogue_file.specs.Faults.{says}
use Rattle.catalogue_file.specs.Contents.{contents}

-- every question has a yes, and the catalogue means exactly the entries of the file, in order
pub record Accepted (bs : List ℕ) (r : Opened) : Type 0 where
  pub sound : Sound short bs
  pub means : contents r.catalogue ≡ entries_of short bs

-- a question has a no, and the catalogue has no entries
pub record Refused (bs : List ℕ) (r : Opened) (fault : FileFault) : Type 0 where
  pub refuses : Refuses short bs (says fault)
  pub none : contents r.catalogue ≡ []

abbrev pub Opens : List ℕ → Opened → Type 0
Opens bs r = MatchOption r.fault (Accepted bs r) (Refused bs r)
