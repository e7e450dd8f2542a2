-- A table that finds places by a number of theirs: chains that go from the latest place of a number down.
use Rattle.std.specs.Prelude.{◌≡◌, ℕ, ◌+◌, ◌*◌, ◌%◌, ◌<◌, ◌≤◌, List, length, Option, MatchOption, ◌≢◌, slice_index}
use Rattle.types.specs.declared.TypeNode.{TypeNode}

-- x is 0, or one more than the last place below b that has the number h
pub record Latest (number : ℕ → ℕ) (b h x : ℕ) : Type 0 where
  pub low : x ≤ b
  pub here : (q : ℕ) → x ≡ q + 1 → number q ≡ h
  pub between : (k : ℕ) → x ≤ k → k < b → number k ≢ h

-- the chains of the first n places
pub record Table (number : ℕ → ℕ) (n : ℕ) (heads nexts : List ℕ) : Type 0 where
  pub starts : (h : ℕ) → h < length heads → Latest number n h (slice_index heads h)
  pub goes : (p : ℕ) → p < n → Latest number p (number p) (slice_index nexts p)

-- the number of a record, below m
abbrev pub bucket : ℕ → TypeNode → ℕ
bucket m x = (x.kind + x.left * 31 + x.right * 1021) % m

-- x and what follows it in the chains leads down, to places that a u16 can number
pub record Falls (nexts : List ℕ) (x : ℕ) : Type 0 where
  pub few : x ≤ 65536
  pub within : x ≤ length nexts
  pub down : (p : ℕ) → p < x → slice_index nexts p ≤ p

-- a step from x gives the place that it leads to, or nothing at 0, and goes on to y
abbrev pub Goes : List ℕ → ℕ → Option ℕ → List ℕ → ℕ → Type 0
Goes nexts x r nexts' y = (nexts' ≡ nexts) × MatchOption r (x ≡ 0) (λ p. (x ≡ p + 1) × (y ≡ slice_index nexts p))
