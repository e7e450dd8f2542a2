-- The words of a text: runs of name bytes, and those of them that are names or numbers of references.
use Rattle.std.specs.Prelude.{◌≡◌, ℕ, suc, ◌+◌, ◌-◌, ◌*◌, ◌<◌, ◌≤◌, true, cond, List, [], ◌∷◌, length, take, slice_index, slice_index_or}
use Rattle.text.specs.Bytes.{class_of, in_name}
use Rattle.text.specs.declared.bytes.Class.TheVariants.{Letter, Digit}

-- how many name bytes stand at the front
abbrev pub lead : List ℕ → ℕ
lead [] = 0
lead (b ∷ bs) = cond (in_name (class_of b)) (suc (lead bs)) 0

-- the run of name bytes at the front, taken whole
abbrev pub run : List ℕ → List ℕ
run bs = take (lead bs) bs

-- a name: a letter, then letters, digits and underscores, up to 31 bytes in all
pub record IsName (w : List ℕ) : Type 0 where
  pub some : 0 < length w
  pub short : length w ≤ 31
  pub first : class_of (slice_index w 0) ≡ Letter
  pub each : (i : ℕ) → i < length w → in_name (class_of (slice_index w i)) ≡ true

-- the number that digits write, after v
abbrev pub numeral : ℕ → List ℕ → ℕ
numeral v [] = v
numeral v (d ∷ ds) = numeral (10 * v + (d - 48)) ds

-- the number n in one to three digits, the first of them no zero unless it stands alone
pub record IsNumber (w : List ℕ) (n : ℕ) : Type 0 where
  pub some : 0 < length w
  pub short : length w ≤ 3
  pub each : (i : ℕ) → i < length w → class_of (slice_index w i) ≡ Digit
  pub plain : slice_index_or w 0 0 ≡ 48 → length w ≡ 1
  pub value : n ≡ numeral 0 w
