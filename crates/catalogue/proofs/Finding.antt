-- The first number of a range whose entry bears a name is the least of all.
use Rattle.std.proofs.Common.{◌≡◌, ℕ, ◌<◌, ◌≤◌, length, get_or, Option, Some, None, MatchOption, List, zero-le, arith}
use Rattle.catalogue.specs.Entries.{Entry, no_entry, Least}
use Rattle.catalogue.specs.Names.{Name, Same}

module _ (es : List Entry) (n : Name) where
  abbrev pub Yes : ℕ → Type 0
  Yes k = Same (get_or es k no_entry).name n

  abbrev pub No : ℕ → Type 0
  No k = Same (get_or es k no_entry).name n → ⊥

  pub least_found : (count : ℕ) (r : Option ℕ) → count ≡ length es → MatchOption r ((k : ℕ) → 0 ≤ k → k < count → No k) (λ i. (0 ≤ i) × (i < count) × Yes i × ((k : ℕ) → 0 ≤ k → k < i → No k)) → Least es n r
  least_found count None e h = λ j b. let inside : j < length es = b.within in h j zero-le (omega arith) b.same
  least_found count (Some i) e h =
      (record { within = omega (arith, h.1); same = h.2 }, λ j below b. h.3 j zero-le below b.same)
