-- Typings with each type changed by one map; the types of a principal typing are simple, since the lists are.
use Rattle.std.proofs.Common.{◌≡◌, ℕ, ◌+◌, ◌<◌, ◌≤◌, cond, eqb, ltb, ◌≢◌, List, [], ◌∷◌, map, sym, refl, ap, ◌∙◌, ap₂, ⊎_elim, arith}
use Rattle.std.proofs.lemmas.List.{length-map, get_or-map}
use Rattle.std.proofs.lemmas.Bool.{cases_lt, cases_eq, cond-true, cond-false, eq-eqb, ne_eqb, lt-ltb, le-ltb}
use Rattle.types.specs.Types.{Ty, variable, base, branch, apply}
use Rattle.types.specs.Lists.{meaning}
use Rattle.term.specs.Terms.{Term, abstraction, application, primitive, reference}
use Rattle.term.specs.Terms.{variable as bound}
use Rattle.copy.specs.Instances.{Lists}
use Rattle.infer.specs.Typing.{size, Typing}
use Rattle.infer.proofs.Typings.{some_node, typing_gives, type_typing}
use Rattle.theory.specs.Principal.{LawfulLists}
use Rattle.theory.proofs.Types.{Carries, of_list_over}
use Rattle.theory.proofs.Principals.{meaning_simple}
use Rattle.normal.specs.Laws.{Simple}
use Rattle.normal.proofs.Meaning.{apply_apply}
use Rattle.typer.specs.Answers.{PrincipalType, PrincipalTyping}

module _ (E K : Lists) (f : Ty → Ty) (c : Carries E K f) where
  pub typing_mapped : (t : Term) (Γ : List Ty) (T : ℕ → Ty) (i : ℕ) → Typing E K Γ t T i → Typing E K (map f Γ) t (λ p. f (T p)) i
  typing_mapped (bound n) Γ T i d = (omega (arith, length-map Γ f, d.0), get_or-map f Γ n (base 0) (base 0) d.0 ∙ ap f d.1)
  typing_mapped (abstraction b) Γ T i d = (f d.0, ap f d.1 ∙ c.arrows d.0 (T (i + 1)), typing_mapped b (d.0 ∷ Γ) T (i + 1) d.2)
  typing_mapped (application g a) Γ T i d =
      (ap f d.0 ∙ c.arrows (T (i + 1 + size g)) (T i), typing_mapped g Γ T (i + 1) d.1, typing_mapped a Γ T (i + 1 + size g) d.2)
  typing_mapped (primitive k) Γ T i d = of_list_over (E k) f (T i) (c.primitives k d.some) d
  typing_mapped (reference n) Γ T i d = of_list_over (K n) f (T i) (c.references n d.some) d

-- an instance of an instance
pub applied : (E K : Lists) (ρ : ℕ → Ty) → Carries E K (apply ρ)
applied E K ρ = record { arrows = λ a b. refl; primitives = λ k h σ. apply_apply ρ σ (meaning (E k)); references = λ n h σ. apply_apply ρ σ (meaning (K n)) }

-- ---- a type with each part that is not simple cut off

abbrev plain : Ty → Ty
plain (variable n) = variable n
plain (base c) = cond (ltb c 6) (base c) (variable 0)
plain (branch k a b) = cond (eqb k 2) (branch 2 (plain a) (plain b)) (variable 0)

plain_applied : (σ : ℕ → Ty) (t : Ty) → Simple t → plain (apply σ t) ≡ apply (λ i. plain (σ i)) t
plain_applied σ (variable n) s = refl
plain_applied σ (base c) s = cond-true (ltb c 6) (base c) (variable 0) (lt-ltb c 6 (omega arith))
plain_applied σ (branch k a b) s =
    cond-true (eqb k 2) (branch 2 (plain (apply σ a)) (plain (apply σ b))) (variable 0) (eq-eqb k 2 s.0)
    ∙ ap₂ (branch 2) (plain_applied σ a s.1) (plain_applied σ b s.2)
    ∙ ap (λ (h : ℕ). branch h (apply (λ i. plain (σ i)) a) (apply (λ i. plain (σ i)) b)) (sym s.0)

uncut_simple : (w : ℕ → Ty) (t : Ty) → apply w t ≡ plain t → Simple t
uncut_simple w (variable n) e = tt
uncut_simple w (base c) e =
    ⊎_elim (λ (h : c < 6). omega arith) (λ (h : 6 ≤ c). let q : base c ≡ variable 0 = e ∙ cond-false (ltb c 6) (base c) (variable 0) (le-ltb c 6 h) in cc) (cases_lt c 6)
uncut_simple w (branch k a b) e =
    ⊎_elim
    (λ (h : k ≡ 2).
    let q : branch k (apply w a) (apply w b) ≡ branch 2 (plain a) (plain b) = e ∙ cond-true (eqb k 2) (branch 2 (plain a) (plain b)) (variable 0) (eq-eqb k 2 h) in
    let ea : apply w a ≡ plain a = cc in
    let eb : apply w b ≡ plain b = cc in
    (h, uncut_simple w a ea, uncut_simple w b eb))
    (λ (h : k ≢ 2). let q : branch k (apply w a) (apply w b) ≡ variable 0 = e ∙ cond-false (eqb k 2) (branch 2 (plain a) (plain b)) (variable 0) (ne_eqb k 2 h) in cc)
    (cases_eq k 2)

module _ (E K : Lists) (t : Term) (T : ℕ → Ty) (d : PrincipalTyping E K t T) where
  pub principal_type : PrincipalType E K t (T 0)
  principal_type =
      record {
        has = typing_gives E K t [] T 0 d.typing;
        most = λ υ h. let u = type_typing E K t [] υ 0 h in let g = d.general u.0 u.1 in (g.0, g.1 0 (some_node t) ∙ u.2);
      }

  pub principal_simple : LawfulLists E → LawfulLists K → (p : ℕ) → p < size t → Simple (T p)
  principal_simple we wk p h =
      let plains : Carries E K plain = record { arrows = λ a b. refl; primitives = λ k some σ. plain_applied σ (meaning (E k)) (meaning_simple (E k) (we k some)); references = λ n some σ. plain_applied σ (meaning (K n)) (meaning_simple (K n) (wk n some)) } in
      let g = d.general (λ q. plain (T q)) (typing_mapped E K plain plains t [] T 0 d.typing) in
      uncut_simple g.0 (T p) (g.1 p h)
