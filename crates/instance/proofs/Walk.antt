-- The general list from its last node down: the substitutions that do what is still asked are those that make its type
-- the one at the place.
use Rattle.std.proofs.Common.{◌≡◌, ℕ, ◌+◌, ◌-◌, ◌<◌, ◌≤◌, true, false, List, length, get_or, set, replicate, Option, Some, None, unwrap_or, Decides, sym, refl, ap, subst, arith}
use Rattle.std.proofs.lemmas.List.{get_or-set_same, length-replicate}
use Rattle.std.proofs.lemmas.Bool.{false≢true}
use Rattle.types.specs.declared.TypeNode.{TypeNode}
use Rattle.types.specs.Types.{Ty, apply, Instance}
use Rattle.types.specs.Lists.{type_at, meaning}
use Rattle.instance.specs.Matching.{Pending, Within, Clash}
use Rattle.instance.proofs.Tables.{none_given, one_given}

pub record Walked (g s : List TypeNode) (place : ℕ) (ns vs : List (Option ℕ)) (k : ℕ) : Type 0 where
  pub within : Within (length s) ns vs k
  pub onto : (σ : ℕ → Ty) → apply σ (meaning g) ≡ type_at s place → Pending g s ns vs k σ
  pub back : (σ : ℕ → Ty) → Pending g s ns vs k σ → apply σ (meaning g) ≡ type_at s place

module _ (g s : List TypeNode) (place : ℕ) where
  walk_new : 0 < length g → length g ≤ 4096 → place < length s → Walked g s place (set (replicate 4096 None) (length g - 1) (Some place)) (replicate 4096 None) (length g)
  walk_new some few inside =
      let last = length g - 1 in
      let h : last < 4096 = omega arith in
      record {
        within =
            record {
              parts = λ j q _ e. one_given 4096 (λ _ x. x < length s) last place h inside j q e;
              named = none_given 4096 (λ _ x. x < length s);
            };
        onto = λ σ is.
            record {
              parts = λ j q _ e. one_given 4096 (λ i x. apply σ (type_at g i) ≡ type_at s x) last place h is j q e;
              named = none_given 4096 (λ v x. σ v ≡ type_at s x);
            };
        back = λ σ p. p.parts last place (omega arith) (get_or-set_same (replicate 4096 None) last (Some place) None (simp length-replicate (h)));
      }

  pub walk_start : (ns vs : List (Option ℕ)) → 0 < length g → length g ≤ 4096 → place < length s → ns ≡ set (replicate 4096 None) (length g - 1) (Some place) → vs ≡ replicate 4096 None → Walked g s place ns vs (length g)
  walk_start ns vs some few inside e f =
      subst (λ (x : List (Option ℕ)). Walked g s place x vs (length g)) (sym e)
      (subst (λ (x : List (Option ℕ)). Walked g s place (set (replicate 4096 None) (length g - 1) (Some place)) x (length g)) (sym f) (walk_new some few inside))

  module _ (ns vs : List (Option ℕ)) (k j : ℕ) (next : j + 1 ≡ k) (w : Walked g s place ns vs k) where
    pub walk_clash : (g' s' : List TypeNode) → g' ≡ g → s' ≡ s → Clash g' s' ns vs (j + 1) → Decides false (Instance (meaning g) (type_at s place))
    walk_clash g' s' e f clash =
        let here = subst (λ (x : List TypeNode). Clash x s ns vs (j + 1)) e (subst (λ (x : List TypeNode). Clash g' x ns vs (j + 1)) f clash) in
        (λ e. absurd (false≢true e), λ i. absurd (here i.0 (subst (λ (n : ℕ). Pending g s ns vs n i.0) (sym next) (w.onto i.0 i.1))))

  -- a variable without a place may become anything
  pub walk_done : (ns vs : List (Option ℕ)) (k : ℕ) → k ≡ 0 → Walked g s place ns vs k → Decides true (Instance (meaning g) (type_at s place))
  walk_done ns vs k none w =
      let σ : ℕ → Ty = λ v. type_at s (unwrap_or (get_or vs v None) 0) in
      let all : Pending g s ns vs k σ = record { parts = λ j q h e. absurd (omega arith); named = λ v q e. ap (λ (o : Option ℕ). type_at s (unwrap_or o 0)) e } in
      (λ _. (σ, w.back σ all), λ _. refl)
