use Rattle.std.proofs.Common.{refl}
use Rattle.catalogue_file.specs.Layouts.{pair_place}
use Rattle.catalogue_file.proofs.sized.SizedFile.pair_start.Goals as goal

pub returns-clause-value : goal.returns-clause-value
unfolding pair_place
returns-clause-value c = refl
