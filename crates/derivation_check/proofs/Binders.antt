-- The abstractions around a node, from the innermost on.
use Rattle.std.proofs.Common.{◌≡◌, ℕ, zero, suc, ◌+◌, Bool, true, false, cond, List, [], ◌∷◌, length, Some, Option, sym, refl, ap, ◌∙◌, subst, ap₂, arith}
use Rattle.std.specs.List.{filter, slice_get}
use Rattle.std.specs.Iterator.Adapters.{rev_source, rev_steps}
use Rattle.std.specs.declared.iter.Rev.{Rev}
use Rattle.std.specs.declared.ops.Range.{Range}
use Rattle.std.proofs.iter.runs.Sources.{nat_range_steps_back}
use Rattle.std.proofs.lemmas.Iterator.{YieldsList}
use Rattle.std.proofs.lemmas.Iterator.Splits.{YieldsList-from_shown_while}
use Rattle.term.specs.declared.TermNode.{TermNode}
use Rattle.derivation_check.specs.Prefixes.{opens, binder}

-- the numbers below n, the highest first
abbrev pub down : ℕ → List ℕ
down zero = []
down (suc n) = n ∷ down n

down_none : (n : ℕ) → n ≡ 0 → length (down n) ≡ 0
down_none zero e = refl
down_none (suc n) e = absurd (omega arith)

down_some : (m n x : ℕ) → m ≡ n + 1 → x ≡ n → down m ≡ x ∷ down n
down_some zero n x e f = absurd (omega arith)
down_some (suc m) n x e f =
    let q : m ≡ n = omega arith in
    ap₂ (λ (a b : ℕ). a ∷ down b) (q ∙ sym f) q

pub YieldsList-from_rev_range : (s : Rev (Range ℕ)) (n : ℕ) → rev_source s ≡ record { start = 0; end = n } → YieldsList (rev_steps nat_range_steps_back) (λ x. x) s (down n)
YieldsList-from_rev_range s n from =
    subst (λ (r : Range ℕ). YieldsList (rev_steps nat_range_steps_back) (λ x. x) s (down r.end)) from
    (YieldsList-from_shown_while (rev_steps nat_range_steps_back) (λ x. x) (λ r. down (rev_source r).end) (λ r. (rev_source r).start ≡ 0)
    (λ r t start step. down_none (rev_source r).end (omega (arith, step.1.0)))
    (λ r x t start step. (step.0 ∙ start, down_some (rev_source r).end (rev_source t).end x step.1.2 step.1.1))
    s (ap (λ (r : Range ℕ). r.start) from))

module _ (ts : List TermNode) (i : ℕ) where
  zeroth : (t : Bool) (b : ℕ) (xs : List ℕ) (o : Option ℕ) → slice_get xs 0 ≡ o → slice_get (cond t (b ∷ xs) xs) 0 ≡ cond t (Some b) o
  zeroth true b xs o e = refl
  zeroth false b xs o e = e

  later : (t : Bool) (b n : ℕ) (xs : List ℕ) (o p : Option ℕ) → slice_get xs n ≡ o → slice_get xs (suc n) ≡ p → slice_get (cond t (b ∷ xs) xs) (suc n) ≡ cond t o p
  later true b n xs o p d e = d
  later false b n xs o p d e = e

  -- the abstraction with the number n among those around i
  pub binder_listed : (b n : ℕ) → slice_get (filter (opens ts i) (down b)) n ≡ binder ts i b n
  binder_listed zero n = refl
  binder_listed (suc b) zero = zeroth (opens ts i b) b (filter (opens ts i) (down b)) (binder ts i b zero) (binder_listed b zero)
  binder_listed (suc b) (suc n) = later (opens ts i b) b n (filter (opens ts i) (down b)) (binder ts i b n) (binder ts i b (suc n)) (binder_listed b n) (binder_listed b (suc n))
