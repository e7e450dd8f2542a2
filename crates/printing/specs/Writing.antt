-- Bytes written over a memory, the text of a type and its length, and what a request to print leaves and answers.
use Rattle.std.specs.Prelude.{◌≡◌, ℕ, ◌+◌, ◌<◌, ◌≤◌, min, List, ◌++◌, length, take, drop, Ok, Err, Result, codes, slice_index}
use Rattle.types.specs.declared.TypeNode.{TypeNode}
use Rattle.types.specs.Lists.{Lawful, type_at, meaning}
use Rattle.printing.specs.Text.{left_text, text}
use Rattle.arrayvec.specs.ArrayString.{ArrayString}
use Rattle.printing.specs.declared.ShowFault.{ShowFault}
use Rattle.printing.specs.declared.ShowFault.TheVariants.{Unlawful, TooLong}

-- the memory with the bytes written over it from a place on
abbrev pub over : List ℕ → ℕ → List ℕ → List ℕ
over memory at bytes = take at memory ++ (bytes ++ drop (at + length bytes) memory)

-- the bytes were written from a place on, and end where the answer says
pub record Wrote (before after : List ℕ) (at : ℕ) (bytes : List ℕ) (end : ℕ) : Type 0 where
  pub leaves : after ≡ over before at bytes
  pub stop : end ≡ at + length bytes

-- the length of the text at a place, and 4,097 for each that is longer
abbrev pub capped : List TypeNode → ℕ → ℕ
capped list place = min (length (text (type_at list place))) 4097

-- the lengths at the first places are known
abbrev pub Measured : List TypeNode → List ℕ → ℕ → Type 0
Measured list lengths n = (p : ℕ) → p < n → slice_index lengths p ≡ capped list p

-- the text of the arrow between two places
abbrev pub arrow_text : List TypeNode → ℕ → ℕ → List ℕ
arrow_text list left right = left_text (type_at list left) ++ (codes " -> " ++ text (type_at list right))

-- the list is lawful, and this is the text of its type
pub record Text (list : List TypeNode) (bytes : List ℕ) : Type 0 where
  pub lawful : Lawful list
  pub is : bytes ≡ text (meaning list)
  pub short : length bytes ≤ 4096

-- the list is lawful, and the text of its type has more than 4,096 bytes
pub record TextTooLong (list : List TypeNode) : Type 0 where
  pub lawful : Lawful list
  pub long : 4096 < length (text (meaning list))

-- the list is lawful, and the text of its type has so many bytes, at most 4,096
pub record TextLength (list : List TypeNode) (n : ℕ) : Type 0 where
  pub lawful : Lawful list
  pub is : n ≡ length (text (meaning list))
  pub short : n ≤ 4096

abbrev pub LengthFound : List TypeNode → Result ℕ ShowFault → Type 0
LengthFound list (Ok n) = TextLength list n
LengthFound list (Err Unlawful) = Lawful list → ⊥
LengthFound list (Err TooLong) = TextTooLong list

abbrev pub Spelled : List TypeNode → Result ArrayString ShowFault → Type 0
Spelled list (Ok t) = Text list t.bytes
Spelled list (Err Unlawful) = Lawful list → ⊥
Spelled list (Err TooLong) = TextTooLong list

-- the text may be printed in so much room: at most 4,096 bytes, and at most the room
pub record Prints (bytes : List ℕ) (room : ℕ) : Type 0 where
  pub short : length bytes ≤ 4096
  pub inside : length bytes ≤ room

-- the text of the list's type stands at the front of the memory, which beyond it is as it was; the answer is the
-- text's length, and never 0
pub record Printed (list : List TypeNode) (before after : List ℕ) (n : ℕ) : Type 0 where
  pub lawful : Lawful list
  pub prints : Prints (text (meaning list)) (length before)
  pub answer : n ≡ length (text (meaning list))
  pub some : 0 < n
  pub leaves : after ≡ text (meaning list) ++ drop n before

-- the list is lawful, but its text may not be printed, and the memory is as it was
pub record Overlong (list : List TypeNode) (before after : List ℕ) : Type 0 where
  pub lawful : Lawful list
  pub long : Prints (text (meaning list)) (length before) → ⊥
  pub leaves : after ≡ before

-- the list means no type, and the memory is as it was
pub record Meaningless (list : List TypeNode) (before after : List ℕ) : Type 0 where
  pub unlawful : Lawful list → ⊥
  pub leaves : after ≡ before

abbrev pub Shown : List TypeNode → List ℕ → List ℕ → Result ℕ ShowFault → Type 0
Shown list before after (Ok n) = Printed list before after n
Shown list before after (Err Unlawful) = Meaningless list before after
Shown list before after (Err TooLong) = Overlong list before after
