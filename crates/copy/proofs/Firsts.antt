-- First places of variables, noted in a table.
use Rattle.std.proofs.Common.{◌≡◌, ℕ, ◌+◌, ◌<◌, ◌≤◌, ◌≢◌, Option, Some, None, MatchOption, List, length, get_or, set, sym, ap, ◌∙◌, subst, ⊎_elim, arith}
use Rattle.std.proofs.lemmas.List.{length-set, get_or-set_same, get_or-set_other}
use Rattle.std.proofs.lemmas.Bool.{cases_eq}
use Rattle.std.specs.Option.{unwrap_or}
use Rattle.types.specs.Lists.{zero_node}
use Rattle.types.specs.declared.TypeNode.{TypeNode}
use Rattle.copy.specs.Copies.{IsVariable, First, StandsBelow, Noted}

module _ (l : List TypeNode) (i : ℕ) (seen : List ℕ) where
  -- one place more, where it is dealt with
  pub noted_more : Noted l i seen → ((a : ℕ) → IsVariable (get_or l i zero_node) a → a < length seen → First l a (get_or seen a 0)) → Noted l (i + 1) seen
  noted_more noted here =
      record {
        each = λ j a s h.
            ⊎_elim
            (λ (e : j ≡ i). here a (subst (λ (p : ℕ). IsVariable (get_or l p zero_node) a) e s.here) h)
            (λ (ne : j ≢ i). noted.each j a record { below = omega (arith, s.below); here = s.here } h)
            (cases_eq j i);
      }

  pub noted_none : Noted l 0 seen
  noted_none = record { each = λ j a s h. absurd (omega (arith, s.below)) }

  pub noted_other : (x : TypeNode) → x ≡ get_or l i zero_node → (x.kind ≡ 0 → ⊥) → Noted l i seen → Noted l (i + 1) seen
  noted_other x e other noted = noted_more noted (λ a v h. absurd (other (ap (λ (y : TypeNode). y.kind) e ∙ v.leaf)))

  module _ (a : ℕ) (is : IsVariable (get_or l i zero_node) a) (noted : Noted l i seen) where
    only : (b : ℕ) → IsVariable (get_or l i zero_node) b → a ≡ b
    only b v = sym is.number ∙ v.number

    pub noted_past : length seen ≤ a → Noted l (i + 1) seen
    noted_past past = noted_more noted (λ b v h. absurd (omega (arith, only b v)))

    pub noted_again : (p : ℕ) → StandsBelow l i a p → a < length seen → Noted l (i + 1) seen
    noted_again p s h = noted_more noted (λ b v k. subst (λ (c : ℕ). First l c (get_or seen c 0)) (only b v) (noted.each p a s h))

    pub noted_new : First l a i → a < length seen → Noted l (i + 1) (set seen a i)
    noted_new f h =
        record {
          each = λ j b s k.
              ⊎_elim
              (λ (e : b ≡ a). subst (λ (c : ℕ). First l c (get_or (set seen a i) c 0)) (sym e) (subst (First l a) (sym (get_or-set_same seen a i 0 h)) f))
              (λ (ne : b ≢ a).
              ⊎_elim
              (λ (e : j ≡ i). absurd (ne (sym (only b (subst (λ (p : ℕ). IsVariable (get_or l p zero_node) b) e s.here)))))
              (λ (nj : j ≢ i). subst (First l b) (sym (get_or-set_other seen a b i 0 ne)) (noted.each j b record { below = omega (arith, s.below); here = s.here } (omega (arith, length-set seen a i))))
              (cases_eq j i))
              (cases_eq b a);
        }

-- what a search of the places below i finds, or i itself
pub first_found : (l : List TypeNode) (a i : ℕ) (r : Option ℕ) → IsVariable (get_or l i zero_node) a → MatchOption r ((k : ℕ) → 0 ≤ k → k < i → IsVariable (get_or l k zero_node) a → ⊥) (λ j. (0 ≤ j) × (j < i) × IsVariable (get_or l j zero_node) a × ((k : ℕ) → 0 ≤ k → k < j → IsVariable (get_or l k zero_node) a → ⊥)) → First l a (unwrap_or r i)
first_found l a i None is f = record { here = is; before = λ j h. f j (omega arith) h }
first_found l a i (Some j) is f = record { here = f.2; before = λ k h. f.3 k (omega arith) h }
