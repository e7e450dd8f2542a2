-- What is said of each number of a range.
use Rattle.std.proofs.Common.{ℕ, ◌<◌, Bool, true, false, length, Decides, MatchBool, refl, sym, ◌∙◌, subst, zero-le, zero-add}
use Rattle.std.specs.List.{AllWithin, HoldsAt, range_with_len}
use Rattle.std.proofs.lemmas.Bool.{false≢true}
use Rattle.std.proofs.lemmas.List.FromFn.{length-range_with_len, get_or-range_with_len}

module _ (P : ℕ → Type 0) where
  -- a test that all numbers pass, and one that some number fails
  pub all_below : (n : ℕ) (r : Bool) → MatchBool r (AllWithin P (range_with_len 0 n) 0 (length (range_with_len 0 n))) ((k : ℕ) × (k < length (range_with_len 0 n)) × HoldsAt (λ i. P i → ⊥) (range_with_len 0 n) k) → Decides r ((k : ℕ) → k < n → P k)
  all_below n true h = (
    λ _ k below. subst P (get_or-range_with_len 0 n k 0 below ∙ zero-add k) (h k 0 zero-le (subst (λ m. k < m) (sym (length-range_with_len 0 n)) below)),
    λ _. refl,
  )
  all_below n false h =
      let below = subst (λ m. h.0 < m) (length-range_with_len 0 n) h.1 in (
        λ e. absurd (false≢true e),
        λ all. absurd (subst (λ i. P i → ⊥) (get_or-range_with_len 0 n h.0 0 below ∙ zero-add h.0) (h.2 0) (all h.0 below)),
      )
