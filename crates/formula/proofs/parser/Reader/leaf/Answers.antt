use Rattle.std.proofs.Common.{[], ◌∷◌, sym, refl, ap, inl, inr, arith}
use Rattle.term.specs.Terms.{variable, primitive, node}
use Rattle.formula.specs.Names.{bound, entered}
use Rattle.formula.proofs.parser.Reader.leaf.Goals as goal

pub returns-in-Some : goal.returns-in-Some
returns-in-Some g c =
    let b = c.in-Some.ensures in
    (λ o. inl (b.0, b.1), λ few. (variable b.0, ap (λ k. node 0 k ∷ []) (sym (b.2 (omega (arith, b.1.within)))), λ o. bound b.1))

pub returns : goal.returns
returns g c =
    let f = c.in_ok-k.ensures in
    (λ o. inr (c.in_ok-k.k, f.0), λ few. (primitive c.in_ok-k.k, refl, λ o. entered c.in_default.ensures f))
