use Rattle.std.proofs.Common.{arith}
use Rattle.catalogue_file.specs.Questions.{Sized}
use Rattle.catalogue_file.specs.Checking.{wrong_length}
use Rattle.catalogue_file.proofs.sized.SizedFile.new.Goals as goal
use Rattle.catalogue_file.proofs.sized.SizedFile.new.Goals.{else-layout-bytes-via-then-layout-bytes+else-bytes-layout, else-layout-bytes-via-else-layout-bytes}

pub returns-else-layout-bytes : goal.returns-else-layout-bytes
returns-else-layout-bytes c =
    let no : Sized c.args.layout c.args.bytes.now → ⊥ = λ sized. elim c.else-layout-bytes.branch [ else-layout-bytes-via-then-layout-bytes+else-bytes-layout w ↦ absurd (omega arith) | else-layout-bytes-via-else-layout-bytes w ↦ absurd (omega arith) ] in
    (no, wrong_length no)
