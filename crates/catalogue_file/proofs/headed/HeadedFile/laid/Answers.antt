use Rattle.std.proofs.Common.{◌≡◌, sym, ap, ◌∙◌, arith}
use Rattle.catalogue_file.specs.Files.{count}
use Rattle.catalogue_file.specs.Questions.{due, Laid}
use Rattle.catalogue_file.specs.Checking.{gap}
use Rattle.catalogue_file.specs.Facts.{sized_known, headed_known}
use Rattle.catalogue_file.proofs.headed.HeadedFile.laid.Goals as goal

pub returns-then-offset-due : goal.returns-then-offset-due
returns-then-offset-due c =
    let no : Laid c.args.self.sized.layout c.args.self.sized.bytes.now → ⊥ = λ laid. c.if-offset-due.true (c.pair-offset.ensures.offset ∙ laid.starts c.loop-k.k (omega (arith, c.count-count.ensures.value)) ∙ sym c.loop-k.invariant.0) in
    (no, gap (sized_known c.args.self.sized.sized) (headed_known c.args.self.headed) no)

pub returns-else-due-self : goal.returns-else-due-self
returns-else-due-self c =
    let f = c.args.self.sized in
    let last : c.loop-k.k ≡ count f.layout f.bytes.now = omega (arith, c.count-count.ensures.value) in
    let no : Laid f.layout f.bytes.now → ⊥ = λ laid. c.if-due-self.false (c.loop-k.invariant.0 ∙ ap (due f.layout f.bytes.now) last ∙ laid.ends) in
    (no, gap (sized_known f.sized) (headed_known c.args.self.headed) no)
