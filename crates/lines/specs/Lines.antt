-- The line that is printed for a formula that was filed, or refused, as bytes.
use Rattle.std.specs.Prelude.{◌≡◌, ℕ, ◌≤◌, cond, List, [], ◌∷◌, ◌++◌, length, drop, codes, decimal, nat_le}
use Rattle.refusal.specs.declared.Refusal.{Refusal}
use Rattle.types.specs.declared.TypeNode.{TypeNode}
use Rattle.types.specs.Lists.{meaning}
use Rattle.printing.specs.Text.{text}

-- the most bytes of a line: `#127 : `, a type of 4,096 bytes, and the line's end
abbrev pub line_room : ℕ
line_room = 4104

-- the most bytes of what stands before the type, or before the end of a line without one: `refused 65535 at
-- 18446744073709551615`
abbrev pub head_room : ℕ
head_room = 37

abbrev pub line_end : List ℕ
line_end = 10 ∷ []

-- a type's text, if it has at most 4,096 bytes
abbrev pub if_short : List ℕ → List ℕ
if_short t = cond (nat_le (length t) 4096) t (codes "too long")

-- what stands before the type
abbrev pub filed_head : ℕ → List ℕ
filed_head number = codes "#" ++ (decimal number ++ codes " : ")

-- the formula's number, and its type
abbrev pub filed_line : ℕ → List TypeNode → List ℕ
filed_line number list = codes "#" ++ (decimal number ++ (codes " : " ++ (if_short (text (meaning list)) ++ line_end)))

-- what stands before the line's end
abbrev pub refused_head : Refusal → List ℕ
refused_head r = codes "refused " ++ (decimal r.number ++ (codes " at " ++ decimal r.place))

-- the refusal's number, and its place
abbrev pub refused_line : Refusal → List ℕ
refused_line r = codes "refused " ++ (decimal r.number ++ (codes " at " ++ (decimal r.place ++ line_end)))

-- the line stands at the front of the memory, which beyond it is as it was; the answer is the line's length
pub record Lined (line before after : List ℕ) (n : ℕ) : Type 0 where
  pub answer : n ≡ length line
  pub fits : length line ≤ line_room
  pub leaves : after ≡ line ++ drop n before
