-- Where a question fails first in one list after another.
use Rattle.std.proofs.Common.{◌≡◌, ℕ, List, [], ◌∷◌, ◌++◌, Some, None, Option, sym, refl, ap, ◌∙◌, append_assoc, arith}
use Rattle.std.proofs.ByRecursion.{All-append}
use Rattle.formula.specs.Firsts.{FirstNot, Fails}
use Rattle.std.specs.Option.{option_or}

pub fails_append : {A : Type 0} (P : A → Type 0) (at : A → ℕ) (xs ys : List A) (a b : Option ℕ) → Fails P at xs a → Fails P at ys b → Fails P at (xs ++ ys) (option_or a b)
fails_append P at xs ys (Some p) b f g =
    record {
      before = f.before;
      item = f.item;
      rest = f.rest ++ ys;
      split = ap (λ l. l ++ ys) f.split ∙ append_assoc f.before (f.item ∷ f.rest) ys;
      earlier = f.earlier;
      fails = f.fails;
      stands = f.stands;
    }
fails_append P at xs ys None None f g = All-append P xs ys f g
fails_append P at xs ys None (Some p) f g =
    record {
      before = xs ++ g.before;
      item = g.item;
      rest = g.rest;
      split = ap (λ l. xs ++ l) g.split ∙ sym (append_assoc xs g.before (g.item ∷ g.rest));
      earlier = All-append P xs g.before f g.earlier;
      fails = g.fails;
      stands = g.stands;
    }

pub both_none : (a b : Option ℕ) → option_or a b ≡ None → (a ≡ None) × (b ≡ None)
both_none (Some p) b n = let z : ◌≡◌ {A = ℕ} 0 1 = cc in absurd (omega arith)
both_none None b n = (refl, n)

-- a list of one item
pub fails_one : {A : Type 0} (P : A → Type 0) (at : A → ℕ) (x : A) (p : ℕ) → p ≡ at x → (P x → ⊥) → FirstNot P at (x ∷ []) p
fails_one P at x p e n = record { before = []; item = x; rest = []; split = refl; earlier = tt; fails = n; stands = e }
