-- What the class of a byte tells of the byte.
use Rattle.std.proofs.Common.{◌≡◌, ℕ, ◌≤◌, Some, None, arith}
use Rattle.std.proofs.lemmas.Bool.Decides.{nat_tests}
use Rattle.text.specs.Bytes.{class_of}
use Rattle.text.specs.Tokens.{Sign, single}
use Rattle.text.specs.declared.bytes.Class.TheVariants.{Digit, Mark}

pub digit_range : (b : ℕ) → class_of b ≡ Digit → (48 ≤ b) × (b ≤ 57)
unfolding class_of
digit_range b e = (grind (arith, nat_tests), grind (arith, nat_tests))

-- a mark that is a token by itself is a mark
pub single_mark : (b : ℕ) (x : Sign) → single b ≡ Some x → class_of b ≡ Mark
unfolding class_of
single_mark b x e = grind (arith, nat_tests)

-- the byte 35, `#`, is a mark, and no token by itself
pub hash_mark : (b : ℕ) → b ≡ 35 → class_of b ≡ Mark
unfolding class_of
hash_mark b e = grind (arith, nat_tests)

pub hash_not_single : (b : ℕ) (x : Sign) → b ≡ 35 → single b ≡ Some x → ⊥
hash_not_single b x e f = grind (arith, nat_tests)

-- a mark that is no token by itself is the byte 35
pub mark_hash : (b : ℕ) → class_of b ≡ Mark → single b ≡ None → b ≡ 35
unfolding class_of
mark_hash b e f = grind (arith, nat_tests)
