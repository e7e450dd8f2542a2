use Rattle.std.proofs.Common.{◌≡◌, refl, arith}
use Rattle.text.proofs.Exits.{exit_is}
use Rattle.text.specs.declared.fault.TextFault.TheVariants.{Stray}
use Rattle.text.proofs.Scanning.{scans_number, stray_number}
use Rattle.text.proofs.lexer.Lexer.reference_at.Goals as goal

pub returns-in_err-n : goal.returns-in_err-n
returns-in_err-n c =
    let exit = exit_is c.from_residual.result _ c.from_residual.ensures.1 in
    let none = c.in_err-n.ensures.ok_part in
    let said = rw none at c.in_err-n.ensures.value in
    let fault : c.in_err-n.field-0.0 ≡ Stray c.args.at = cc in
    let no_number = rw none at c.number.ensures in
    rw (exit, fault) (refl, stray_number c.args.self.now.text.now c.args.at c.run_end-end.result _ c.requires.0 c.requires.1 c.run_end-end.ensures.whole refl no_number)

pub returns : goal.returns
returns c =
    let run = c.run_end-end.ensures in
    let n = rw c.in_ok-n.ensures.ok_part at c.number.ensures in
    record {
      less = omega (arith, run.whole);
      within = run.within;
      scans = scans_number c.args.self.now.text.now c.args.at c.run_end-end.result _ c.requires.0 c.requires.1 run.whole refl c.in_ok-n.n n;
    }
