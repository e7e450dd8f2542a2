use Rattle.std.proofs.Common.{sym, refl, ◌∙◌, ⊎_elim, arith}
use Rattle.text.proofs.ByteFacts.{mark_hash}
use Rattle.text.proofs.Scanning.{scans_mark, stray_other}
use Rattle.text.proofs.lexer.Lexer.token_at.Goals as goal

pub returns-in-Some : goal.returns-in-Some
returns-in-Some c =
    record {
      less = omega arith;
      within = omega arith;
      scans = scans_mark c.args.self.now.text.now c.args.at _ c.requires.0 (sym c.in-Some.ensures);
    }

pub reference_at-requires : goal.reference_at-requires
reference_at-requires c = (c.requires.0, mark_hash _ (sym c.in-Mark.ensures) (sym c.in_default.ensures))

pub returns-in-Other : goal.returns-in-Other
returns-in-Other c =
    let text = c.args.self.now.text.now in
    let at = c.args.at in (
      refl,
      ⊎_elim
          (λ e. stray_other text at c.requires.0 (sym c.of.ensures ∙ e))
          (λ e. absurd (c.requires.1 (sym c.of.ensures ∙ e)))
          c.in-Other.is,
    )
