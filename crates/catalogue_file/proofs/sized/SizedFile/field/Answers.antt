use Rattle.std.proofs.Common.{◌≡◌, ◌+◌, ◌-◌, take, drop, ap, ◌∙◌, arith}
use Rattle.catalogue_file.specs.Numbers.{number}
use Rattle.catalogue_file.specs.Files.{field}
use Rattle.catalogue_file.proofs.sized.SizedFile.field.Goals as goal

pub returns-clause-value : goal.returns-clause-value
unfolding field
returns-clause-value c =
    let width = c.args.self.now.layout.width in
    let long : c.args.at + width - c.args.at ≡ width = omega arith in
    c.read_number.ensures.value ∙ ap (λ n. number (take n (drop c.args.at c.args.self.now.bytes.now))) long
