use Rattle.std.proofs.Common.{ap, ◌∙◌, arith}
use Rattle.catalogue_file.specs.Layouts.{pair_place}
use Rattle.catalogue_file.specs.Questions.{Headed}
use Rattle.catalogue_file.specs.Checking.{wrong_count}
use Rattle.catalogue_file.specs.Facts.{sized_known}
use Rattle.catalogue_file.proofs.sized.SizedFile.headed.Goals as goal
use Rattle.catalogue_file.proofs.sized.SizedFile.headed.Goals.{else-read_number-layout-via-then-read_number-layout+then-count-layout+else-pair_start-self, else-read_number-layout-via-then-read_number-layout+else-count-layout, else-read_number-layout-via-else-read_number-layout}

pub returns-else-read_number-layout : goal.returns-else-read_number-layout
returns-else-read_number-layout c =
    let place = pair_place c.args.self.layout in
    let no : Headed c.args.self.layout c.args.self.bytes.now → ⊥ = λ headed. elim c.else-read_number-layout.branch [
      | else-read_number-layout-via-then-read_number-layout+then-count-layout+else-pair_start-self w ↦ let e = ap place c.count-count.ensures.value in absurd (omega (arith, headed.inside, w.pair_start.ensures.value))
      | else-read_number-layout-via-then-read_number-layout+else-count-layout w ↦ absurd (omega (arith, headed.few))
      | else-read_number-layout-via-else-read_number-layout w ↦ w.if-read_number-layout.false (c.read_number.ensures.value ∙ headed.marked)
    ] in
    (no, wrong_count (sized_known c.args.self.sized) no)
