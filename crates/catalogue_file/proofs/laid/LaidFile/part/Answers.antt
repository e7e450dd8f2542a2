use Rattle.std.proofs.Common.{arith}
use Rattle.catalogue_file.specs.Facts.{laid_known}
use Rattle.catalogue_file.proofs.Places.{part_inside}
use Rattle.catalogue_file.proofs.laid.LaidFile.part.Goals as goal

pub slice_bounds-result-end : goal.slice_bounds-result-end
slice_bounds-result-end c =
    omega (arith, part_inside _ _ c.args.k (laid_known c.args.self.now.laid) c.requires, c.pair-offset.ensures.offset, c.pair-offset.ensures.size)
