-- The class of a byte.
use Rattle.std.specs.Prelude.{ℕ, Bool, true, false, cond, ◌&&◌, ◌||◌, ◌==◌, nat_le}
use Rattle.text.specs.declared.bytes.Class.{Class}
use Rattle.text.specs.declared.bytes.Class.TheVariants.{Other, Letter, Digit, Underscore, Space, Mark}

-- a to z
abbrev pub is_letter : ℕ → Bool
is_letter b = nat_le 97 b && nat_le b 122

-- 0 to 9
abbrev pub is_digit : ℕ → Bool
is_digit b = nat_le 48 b && nat_le b 57

-- \ . ( ) #
abbrev pub is_mark : ℕ → Bool
is_mark b = b == 92 || (b == 46 || (b == 40 || (b == 41 || b == 35)))

-- each byte is in one class
unfoldable pub class_of : ℕ → Class
class_of b = cond (is_letter b) Letter (cond (is_digit b) Digit (cond (b == 95) Underscore (cond (b == 32) Space (cond (is_mark b) Mark Other))))

-- letters, digits and underscores make up names
abbrev pub in_name : Class → Bool
in_name Other = false
in_name Letter = true
in_name Digit = true
in_name Underscore = true
in_name Space = false
in_name Mark = false
