-- A file whose entries are known to stand one behind the other is framed, and sound where each entry answers with yes.
use Rattle.catalogue_file.specs.declared.laid.LaidFile.{LaidFile}
use Rattle.catalogue_file.specs.Facts.{sized_known, headed_known, laid_known}
use Rattle.catalogue_file.specs.Questions.{FormedAt, LawfulAt, FreshAt}
use Rattle.catalogue_file.specs.Checking.{Each, Framed, Sound}

module _ (f : LaidFile) where
  pub framed : Framed f.headed.sized.layout f.headed.sized.bytes.now
  framed = record { sized = sized_known f.headed.sized.sized; headed = headed_known f.headed.headed; laid = laid_known f.laid }

  pub sound : Each f.headed.sized.layout f.headed.sized.bytes.now FormedAt → Each f.headed.sized.layout f.headed.sized.bytes.now LawfulAt → Each f.headed.sized.layout f.headed.sized.bytes.now FreshAt → Sound f.headed.sized.layout f.headed.sized.bytes.now
  sound a b c = record { framed = framed; formed = a; lawful = b; fresh = c }
