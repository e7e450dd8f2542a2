use Rattle.std.proofs.Common.{◌≡◌, refl, ap, ⊎_elim, rules}
use Rattle.text.proofs.Exits.{exit_is}
use Rattle.text.specs.declared.token.Token.TheVariants.{Name}
use Rattle.text.specs.Lexing.{sign_of}
use Rattle.grammar.specs.Machine.{binder, before_dot, step}
use Rattle.formula.proofs.Signs.{dot_stuck}
use Rattle.formula.proofs.Tokens.{blames_end, blames_other, blames_later}
use Rattle.formula.proofs.expected.binder.Goals as goal

pub returns-in_err-end : goal.returns-in_err-end
returns-in_err-end c =
    let exit = exit_is c.from_residual-in_err-end.result _ c.from_residual-in_err-end.ensures.1 in
    let name = c.in_ok-name.ensures in
    let is : name.0 ≡ Name c.in_ok-name.name = search rules in
    rw exit (λ ts r k. blames_later _ _ _ _ name.2 (binder k) _ (λ o. ap (λ y. step (binder k) (sign_of y) o) is) ts r
    (λ o us r. ⊎_elim (λ e. blames_end (before_dot c.in_ok-name.name.now o k) us _ _ e tt refl)
    (λ s. blames_other (before_dot c.in_ok-name.name.now o k) us _ _ s.0 s.1 s.2 s.3 s.4 tt (dot_stuck _ _ k s.0 s.1 (λ e. let m = s.5 in search rules)))
    (c.in_err-end.ensures us r)))
