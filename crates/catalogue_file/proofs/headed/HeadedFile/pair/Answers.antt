use Rattle.std.proofs.Common.{arith}
use Rattle.catalogue_file.specs.Facts.{fit_known, headed_known}
use Rattle.catalogue_file.proofs.Places.{pair_inside}
use Rattle.catalogue_file.proofs.headed.HeadedFile.pair.Goals as goal

pub field-requires : goal.field-requires
field-requires c = omega (arith, pair_inside _ _ c.args.k (headed_known c.args.self.now.headed) c.requires, c.pair_start-at.ensures.value)

pub overflow_add-at : goal.overflow_add-at
overflow_add-at c = omega (arith, (fit_known c.args.self.now.sized.fit).narrow, c.pair_start-at.ensures.small)

pub field-requires-2 : goal.field-requires-2
field-requires-2 c = omega (arith, pair_inside _ _ c.args.k (headed_known c.args.self.now.headed) c.requires, c.pair_start-at.ensures.value)
