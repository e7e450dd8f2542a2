use Rattle.std.proofs.Common.{◌≡◌, ℕ, refl, arith}
use Rattle.text.proofs.Scanning.{scans_name, stray_name, lead_some}
use Rattle.text.proofs.lexer.Lexer.name_at.Goals as goal

pub returns-then-not-is_name : goal.returns-then-not-is_name
returns-then-not-is_name c = (
  refl,
  stray_name c.args.self.now.text.now c.args.at c.run_end-end.result _ c.run_end-end.ensures.whole refl c.requires.0 c.requires.1
      (λ i. let z = c.if-not-is_name.ensures.1 i in let n : ◌≡◌ {A = ℕ} 0 1 = cc in omega arith),
)

pub returns : goal.returns
returns c =
    let text = c.args.self.now.text.now in
    let at = c.args.at in
    let run = c.run_end-end.ensures in
    record {
      less = omega (arith, run.whole, lead_some text at c.requires.0 c.requires.1);
      within = run.within;
      scans = scans_name text at c.run_end-end.result _ run.whole refl (c.if-not-is_name.ensures.0 refl);
    }
