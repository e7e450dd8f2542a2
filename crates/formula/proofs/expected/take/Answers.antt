use Rattle.std.proofs.Common.{◌≡◌, refl}
use Rattle.text.proofs.Exits.{exit_is}
use Rattle.text.specs.declared.fault.TextFault.TheVariants.{Misplaced}
use Rattle.formula.proofs.Tokens.{reads_sign, nothing_made}
use Rattle.formula.proofs.expected.take.Goals as goal

pub returns-in_err-made : goal.returns-in_err-made
returns-in_err-made g c =
    let exit = exit_is c.from_residual-in_err-made.result _ c.from_residual-in_err-made.ensures.1 in
    let none = c.in_err-made.ensures.ok_part in
    let value = rw none at c.in_err-made.ensures.value in
    let fault : c.in_err-made.field-0.0 ≡ Misplaced c.in_ok-found.found.at = cc in
    rw exit (nothing_made {T = g.row.T.Denot} (λ x r. goal.F-post g c.args.wanted x r) _ _ c.in_ok-found.found _ c.in_ok-found.ensures (rw none at c.wanted.ensures) fault)

pub returns : goal.returns
returns g c = (c.in_ok-found.found.token, rw c.in_ok-made.ensures.ok_part at c.wanted.ensures, reads_sign _ _ _ c.in_ok-found.ensures _ refl)
