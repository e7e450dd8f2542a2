-- Principal types are one up to the numbers of their variables, and have normal lists.
use Rattle.std.proofs.Common.{◌≡◌, ℕ, zero, suc, ◌-◌, ◌<◌, ◌≤◌, cond, ltb, List, [], ◌∷◌, length, get_or, sym, refl, ap, ◌∙◌, subst, ⊎_elim, arith}
use Rattle.std.proofs.lemmas.Bool.{cases_lt, cond-true, cond-false, lt-ltb, le-ltb}
use Rattle.types.specs.declared.TypeNode.{TypeNode}
use Rattle.types.specs.Types.{Ty, variable, base, branch, apply, Instance}
use Rattle.types.specs.Lists.{zero_node, Lawful, shape, reading, meaning}
use Rattle.term.specs.Terms.{Term}
use Rattle.normal.specs.Normal.{normal_of}
use Rattle.normal.specs.Laws.{Proper, Simple}
use Rattle.normal.proofs.Meaning.{apply_apply, normal_lawful}
use Rattle.normal.proofs.Rename.{mutual_keeps_list, one_list_iff_mutual, normal_again}
use Rattle.copy.specs.Instances.{Lists}
use Rattle.infer.specs.Typing.{HasType}
use Rattle.theory.specs.Principal.{MostGeneral, none}
use Rattle.theory.specs.Laws.{PrincipalIsOne, PrincipalRenamed, PrincipalIsProper, PrincipalIsSimple, NormalIsPrincipal, NormalIsKept}
use Rattle.theory.proofs.Types.{Over, Carries, carried, types_have_instances}
use Rattle.theory.proofs.Kept.{kept_row}

pub principal_is_one : PrincipalIsOne
principal_is_one E K t τ σ m n = let i = m.most σ n.has in let j = n.most τ m.has in (i, j, mutual_keeps_list τ σ i j)

pub instance_of_instance : (t u w : Ty) → Instance t u → Instance u w → Instance t w
instance_of_instance t u w i j = ((λ n. apply j.0 (i.0 n)), sym (apply_apply j.0 i.0 t) ∙ ap (apply j.0) i.1 ∙ j.1)

pub principal_renamed : PrincipalRenamed
principal_renamed E K t τ σ m i j =
    record { has = subst (HasType E K [] t) i.1 (types_have_instances E K [] t τ i.0 m.has); most = λ ρ d. instance_of_instance σ τ ρ j (m.most ρ d) }

-- other codes and kinds
module _ (code kind : ℕ → ℕ) where
  abbrev recoded : Ty → Ty
  recoded (variable i) = variable i
  recoded (base c) = base (code c)
  recoded (branch k a b) = branch (kind k) (recoded a) (recoded b)

  -- t has those that stay
  abbrev pub Fixed : Ty → Type 0
  Fixed (variable i) = Unit {0}
  Fixed (base c) = code c ≡ c
  Fixed (branch k a b) = (kind k ≡ k) × Fixed a × Fixed b

  recoded_over : (t : Ty) → Fixed t → Over recoded t
  recoded_over (variable i) f σ = refl
  recoded_over (base c) f σ = ap base f
  recoded_over (branch k a b) f σ = let e = f.0 in let x = recoded_over a f.1 σ in let y = recoded_over b f.2 σ in cc

  instance_fixed : (t : Ty) (σ : ℕ → Ty) → apply σ t ≡ recoded t → Fixed t
  instance_fixed (variable i) σ e = tt
  instance_fixed (base c) σ e = cc
  instance_fixed (branch k a b) σ e = (cc, instance_fixed a σ (cc), instance_fixed b σ (cc))

  -- a principal type has only codes and kinds that the lists have, and the arrow's: else putting others for them would
  -- make a type that is no instance of it
  pub principal_fixed : (E K : Lists) (t : Term) (τ : Ty) → kind 2 ≡ 2 → ((k : ℕ) → 0 < length (E k) → Fixed (meaning (E k))) → ((n : ℕ) → 0 < length (K n) → Fixed (meaning (K n))) → MostGeneral E K t τ → Fixed τ
  principal_fixed E K t τ two p r m =
      let carries : Carries E K recoded = record { arrows = λ a b. ap (λ (k : ℕ). branch k (recoded a) (recoded b)) two; primitives = λ k h. recoded_over (meaning (E k)) (p k h); references = λ n h. recoded_over (meaning (K n)) (r n h) } in
      let i = m.most (recoded τ) (carried E K recoded carries t [] τ m.has) in
      instance_fixed τ i.0 i.1

-- what a list means is proper
shape_proper : (k n : ℕ) (a b : Ty) → Proper a → Proper b → Proper (shape k n a b)
shape_proper zero n a b x y = tt
shape_proper (suc zero) n a b x y = tt
shape_proper (suc (suc k)) n a b x y = (omega arith, x, y)

pub reading_proper : (d : ℕ) (l : List TypeNode) (p : ℕ) → Proper (reading d l p)
reading_proper zero l p = tt
reading_proper (suc d) l p =
    let n = get_or l p zero_node in
    shape_proper n.kind n.left (reading d l n.left) (reading d l n.right) (reading_proper d l n.left) (reading_proper d l n.right)

pub meaning_proper : (l : List TypeNode) → Proper (meaning l)
meaning_proper l = reading_proper (suc (length l - 1)) l (length l - 1)

-- and what a lawful list means is simple
shape_simple : (k n : ℕ) (a b : Ty) → k ≤ 2 → (k ≡ 1 → n ≤ 5) → (2 ≤ k → Simple a × Simple b) → Simple (shape k n a b)
shape_simple zero n a b two code parts = tt
shape_simple (suc zero) n a b two code parts = code refl
shape_simple (suc (suc k)) n a b two code parts = let both = parts (omega arith) in (omega arith, both.0, both.1)

pub reading_simple : (d : ℕ) (l : List TypeNode) (p : ℕ) → Lawful l → p < length l → Simple (reading d l p)
reading_simple zero l p lawful h = tt
reading_simple (suc d) l p lawful h =
    let n = get_or l p zero_node in
    let here = lawful.each p h in
    shape_simple n.kind n.left (reading d l n.left) (reading d l n.right) here.kinds here.code
    (λ two. let low = here.lower two in (reading_simple d l n.left lawful (omega (arith, low.0)), reading_simple d l n.right lawful (omega (arith, low.1))))

pub meaning_simple : (l : List TypeNode) → Lawful l → Simple (meaning l)
meaning_simple l lawful = let some = lawful.some in reading_simple (suc (length l - 1)) l (length l - 1) lawful (omega arith)

-- kinds from 2 on stay, and all others become arrows
abbrev upper : ℕ → ℕ
upper k = cond (ltb k 2) 2 k

upper_stays : (k : ℕ) → 2 ≤ k → upper k ≡ k
upper_stays k h = cond-false (ltb k 2) 2 k (le-ltb k 2 h)

upper_from : (k : ℕ) → upper k ≡ k → 2 ≤ k
upper_from k e = ⊎_elim (λ (h : k < 2). omega (arith, sym (cond-true (ltb k 2) 2 k (lt-ltb k 2 h)) ∙ e)) (λ (h : 2 ≤ k). h) (cases_lt k 2)

proper_fixed : (t : Ty) → Proper t → Fixed (λ c. c) upper t
proper_fixed (variable i) w = tt
proper_fixed (base c) w = refl
proper_fixed (branch k a b) w = (upper_stays k w.0, proper_fixed a w.1, proper_fixed b w.2)

fixed_proper : (t : Ty) → Fixed (λ c. c) upper t → Proper t
fixed_proper (variable i) f = tt
fixed_proper (base c) f = tt
fixed_proper (branch k a b) f = (upper_from k f.0, fixed_proper a f.1, fixed_proper b f.2)

pub principal_is_proper : PrincipalIsProper
principal_is_proper E K t τ m =
    fixed_proper τ (principal_fixed (λ c. c) upper E K t τ refl (λ k h. proper_fixed (meaning (E k)) (meaning_proper (E k))) (λ n h. proper_fixed (meaning (K n)) (meaning_proper (K n))) m)

-- codes up to 5 stay, and all kinds become arrows
abbrev lower : ℕ → ℕ
lower c = cond (ltb 5 c) 0 c

lower_stays : (c : ℕ) → c ≤ 5 → lower c ≡ c
lower_stays c h = cond-false (ltb 5 c) 0 c (le-ltb 5 c h)

lower_from : (c : ℕ) → lower c ≡ c → c ≤ 5
lower_from c e = ⊎_elim (λ (h : 5 < c). omega (arith, sym (cond-true (ltb 5 c) 0 c (lt-ltb 5 c h)) ∙ e)) (λ (h : c ≤ 5). h) (cases_lt 5 c)

simple_fixed : (t : Ty) → Simple t → Fixed lower (λ k. 2) t
simple_fixed (variable i) w = tt
simple_fixed (base c) w = lower_stays c w
simple_fixed (branch k a b) w = (sym w.0, simple_fixed a w.1, simple_fixed b w.2)

fixed_simple : (t : Ty) → Fixed lower (λ k. 2) t → Simple t
fixed_simple (variable i) f = tt
fixed_simple (base c) f = lower_from c f
fixed_simple (branch k a b) f = (sym f.0, fixed_simple a f.1, fixed_simple b f.2)

pub principal_is_simple : PrincipalIsSimple
principal_is_simple E K t τ le lk m =
    fixed_simple τ (principal_fixed lower (λ k. 2) E K t τ refl (λ k h. simple_fixed (meaning (E k)) (meaning_simple (E k) (le k h))) (λ n h. simple_fixed (meaning (K n)) (meaning_simple (K n) (lk n h))) m)

pub normal_is_principal : NormalIsPrincipal
normal_is_principal E K t τ m =
    let w = principal_is_proper E K t τ m in
    let l = normal_of τ in
    let both = (one_list_iff_mutual (meaning l) τ (meaning_proper l) w).0 (normal_again τ w) in
    principal_renamed E K t τ (meaning l) m both.1 both.0

pub normal_is_kept : NormalIsKept
normal_is_kept E x τ lawful m few =
    let simple = principal_is_simple E none x τ lawful (λ n h. absurd (omega arith)) m in
    kept_row E x (normal_of τ) (normal_lawful (τ ∷ []) (simple, tt) (omega arith) few) (normal_is_principal E none x τ m)
