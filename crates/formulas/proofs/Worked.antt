-- The derivations of the worked formulas, and why some have none.
use mathlib.Core.Path.{◌≡◌, refl, ap}
use mathlib.Core.List.{List, [], ◌∷◌}
use Prim.Native.Nat.{ℕ, ◌<◌}
use native.Mathlib.Omega.{arith}
use lib.ListN.{length, get_or}
use Rattle.types.specs.declared.TypeNode.{TypeNode}
use Rattle.types.specs.Types.{Ty, base, arrow, apply, variable as type_variable}
use Rattle.types.specs.Lists.{meaning}
use Rattle.term.specs.Terms.{Term, variable, application, prefix}
use Rattle.normal.specs.Normal.{normal_of}
use Rattle.copy.specs.Instances.{Lists, OfList}
use Rattle.infer.specs.Typing.{HasType}
use Rattle.infer.specs.Heads.{need}
use Rattle.theory.specs.Principal.{MostGeneral, Typeless, none}
use Rattle.typer.specs.Questions.{no_number_room}
use Rattle.walk.specs.Work.{size}
use Rattle.formulas.specs.Worked.{entries, one_row, Typed, Untyped, Bounded, WorkedFormulas}
use Rattle.formulas.specs.Worked.{identity, composition, self_application, self_applied_identity, reference_twice, choose, pay, pay_without_net}
use Rattle.formulas.specs.Worked.{a, b, c, hours, rate, paid, flag}

-- the measures are counted, and the list is written out
typed : {K : Lists} {t : Term} {τ : Ty} → MostGeneral entries K t τ → Typed K t (length (prefix t)) (need entries K (prefix t)) τ (normal_of τ)
typed m = record { measured = record { nodes = refl; records = refl }; general = m; list = refl }

untyped : {K : Lists} {t : Term} → Typeless entries K t → Untyped K t (length (prefix t)) (need entries K (prefix t))
untyped never = record { measured = record { nodes = refl; records = refl }; typeless = never }

-- a listed type itself
as_listed : {l : List TypeNode} {τ : Ty} → 0 < length l → apply type_variable (meaning l) ≡ τ → OfList l τ
as_listed some e = record { some = some; instance = (type_variable, e) }

numbers_of_identity : Bounded none identity 2 32 31
numbers_of_identity = record { serves = record { few = omega arith; records = omega arith; enough = omega arith }; refused = no_number_room (omega arith) (omega arith) (omega arith); never = λ more s. let h = s.enough in omega arith }

identity_general : MostGeneral entries none identity (arrow a a)
identity_general = record { has = (a, a, refl, (omega arith, refl)); most = λ σ d. let e = d.2 in let f = d.3.1 in (λ n. d.0, (cc)) }

composition_general : MostGeneral entries none composition (arrow (arrow a b) (arrow (arrow c a) (arrow c b)))
composition_general = record {
  has = (arrow a b, _, refl, (arrow c a, _, refl, (c, b, refl, (a, (omega arith, refl), (c, (omega arith, refl), (omega arith, refl))))));
  most = λ σ d.
      let in_g = d.3 in
      let in-x = in_g.3 in
      let call = in-x.3 in
      let inner = call.2 in
      let x : Ty = call.0 in
      let y : Ty = in-x.1 in
      let z : Ty = inner.0 in
      let whole = d.2 in
      let after-f = in_g.2 in
      let after-g = in-x.2 in
      let f = call.1.1 in
      let g = inner.1.1 in
      let v = inner.2.1 in
      (λ n. get_or (x ∷ y ∷ z ∷ []) n (base 0), (cc));
}

-- a type is no part of itself
no_function_of_itself : (α β : Ty) → α ≡ arrow α β → ⊥
no_function_of_itself α β e = omega (arith, ap size e)

no_self_application : (α τ : Ty) → HasType entries none (α ∷ []) (application (variable 0) (variable 0)) τ → ⊥
no_self_application α τ d =
    let function = d.1.1 in
    let argument = d.2.1 in
    no_function_of_itself α τ (cc)

self_application_typeless : Typeless entries none self_application
self_application_typeless τ d = no_self_application d.0 d.1 d.3

self_applied_identity_typeless : Typeless entries none self_applied_identity
self_applied_identity_typeless τ d = self_application_typeless (arrow d.0 τ) d.1

reference_twice_general : MostGeneral entries one_row reference_twice (arrow a a)
reference_twice_general = record {
  has = (arrow a a, record { some = omega arith; instance = (λ n. arrow a a, refl) }, record { some = omega arith; instance = (λ n. a, refl) });
  most = λ σ d.
      let function = d.1.instance.1 in
      let argument = d.2.instance.1 in
      (d.2.instance.0, (cc));
}

choose_general : MostGeneral entries none choose (arrow flag (arrow a (arrow a a)))
choose_general = record { has = as_listed (omega arith) refl; most = λ σ d. d.instance }

pay_general : MostGeneral entries none pay (arrow hours (arrow rate paid))
pay_general = record {
  has =
      (hours, _, refl, (rate, _, refl, (base 3, as_listed (omega arith) refl, (base 2, as_listed (omega arith) refl, (rate, (hours, as_listed (omega arith) refl, (omega arith, refl)), (omega arith, refl))))));
  most = λ σ d.
      let whole = d.2 in
      let after-h = d.3.2 in
      let paid-of = d.3.3 in
      let net-of = paid-of.2 in
      let gross-of-h = net-of.2.1 in
      let r = net-of.2.2.1 in
      let h = gross-of-h.2.1 in
      let p = paid-of.1.instance.1 in
      let n = net-of.1.instance.1 in
      let g = gross-of-h.1.instance.1 in
      (type_variable, (cc));
}

pay_without_net_typeless : Typeless entries none pay_without_net
pay_without_net_typeless τ d =
    let paid-of = d.3.3 in
    let p = paid-of.1.instance.1 in
    let g = paid-of.2.1.1.instance.1 in
    let z : ◌≡◌ {A = ℕ} 2 3 = cc in
    omega arith

pub worked_formulas : WorkedFormulas
worked_formulas = record {
  of_identity = typed identity_general;
  numbers_of_identity = numbers_of_identity;
  of_composition = typed composition_general;
  of_self_application = untyped self_application_typeless;
  of_self_applied_identity = untyped self_applied_identity_typeless;
  of_reference_twice = typed reference_twice_general;
  of_choose = typed choose_general;
  of_pay = typed pay_general;
  of_pay_without_net = untyped pay_without_net_typeless;
}
