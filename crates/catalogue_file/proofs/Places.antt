-- Where pairs and entries stand: all of them inside the file.
use Rattle.std.proofs.Common.{◌≡◌, ℕ, zero, suc, ◌+◌, ◌-◌, ◌*◌, ◌<◌, ◌≤◌, List, length, subst, mul-le-mul_left, arith}
use Rattle.catalogue_file.specs.declared.layout.Layout.{Layout}
use Rattle.catalogue_file.specs.Layouts.{pair_place}
use Rattle.catalogue_file.specs.Files.{count, offset, size}
use Rattle.catalogue_file.specs.Questions.{Headed, Laid, due}

module _ (l : Layout) where
  -- both numbers of a pair stand before the next pair
  pub pair_before : (k n : ℕ) → k < n → pair_place l k + l.width + l.width ≤ pair_place l n
  unfolding pair_place
  pair_before k n h = omega (arith, mul-le-mul_left (2 * l.width) h)

module _ (l : Layout) (bs : List ℕ) where
  pub pair_inside : (k : ℕ) → Headed l bs → k < count l bs → pair_place l k + l.width + l.width ≤ length bs
  pair_inside k headed h = omega (arith, pair_before l k (count l bs) h, headed.inside)

  -- what is due d entries before the end is due inside the file
  due_inside : Laid l bs → (d k : ℕ) → k + d ≡ count l bs → due l bs k ≤ length bs
  due_inside laid zero k e =
      let last : count l bs ≡ k = omega arith in
      omega (arith, subst (λ n. due l bs n ≡ length bs) last laid.ends)
  due_inside laid (suc d) k e = omega (arith, due_inside laid d (suc k) (omega arith), laid.starts k (omega arith))

  pub part_inside : (k : ℕ) → Laid l bs → k < count l bs → offset l bs k + size l bs k ≤ length bs
  part_inside k laid h = due_inside laid (count l bs - suc k) (suc k) (omega arith)
