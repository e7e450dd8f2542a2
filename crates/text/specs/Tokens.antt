-- Tokens, and how a text is read as tokens and spaces.
use Rattle.std.specs.Prelude.{◌≡◌, ℕ, ◌+◌, ◌<◌, cond, List, [], ◌∷◌, length, drop, Some, None, Option, ◌==◌}
use Rattle.text.specs.Bytes.{class_of}
use Rattle.text.specs.Words.{lead, run, IsName, IsNumber}
use Rattle.text.specs.declared.bytes.Class.TheVariants.{Other, Space}

-- what a token says
pub data Sign : Type 0 where
  lambda : Sign
  dot : Sign
  opening : Sign
  closing : Sign
  name : List ℕ → Sign
  reference : ℕ → Sign

-- a token stands at an offset of the text
pub record Token : Type 0 where
  pub sign : Sign
  pub at : ℕ

abbrev pub token : Sign → ℕ → Token
token x o = record { sign = x; at = o }

-- a mark that is a token by itself: \ . ( )
abbrev pub single : ℕ → Option Sign
single b = cond (b == 92) (Some lambda) (cond (b == 46) (Some dot) (cond (b == 40) (Some opening) (cond (b == 41) (Some closing) None)))

-- From the offset o, where the bytes bs are left, the tokens ts and spaces lead to the offset p, where cs are left.
pub data Scans : ℕ → List ℕ → List Token → ℕ → List ℕ → Type 0 where
  here : {o : ℕ} {bs : List ℕ} → Scans o bs [] o bs
  space : {o p b : ℕ} {bs cs : List ℕ} {ts : List Token} → class_of b ≡ Space → Scans (o + 1) bs ts p cs → Scans o (b ∷ bs) ts p cs
  mark : {o p b : ℕ} {bs cs : List ℕ} {ts : List Token} {x : Sign} → single b ≡ Some x → Scans (o + 1) bs ts p cs → Scans o (b ∷ bs) (token x o ∷ ts) p cs
  word : {o p : ℕ} {bs cs : List ℕ} {ts : List Token} → IsName (run bs) → Scans (o + lead bs) (drop (lead bs) bs) ts p cs → Scans o bs (token (name (run bs)) o ∷ ts) p cs
  number : {o p b n : ℕ} {bs cs : List ℕ} {ts : List Token} → b ≡ 35 → IsNumber (run bs) n → Scans (o + 1 + lead bs) (drop (lead bs) bs) ts p cs → Scans o (b ∷ bs) (token (reference n) o ∷ ts) p cs

-- the text from the offset o on is these tokens, and spaces
abbrev pub Rest : List ℕ → ℕ → List Token → Type 0
Rest text o ts = Scans o (drop o text) ts (length text) []

-- the whole text is these tokens, and spaces
abbrev pub Tokens : List ℕ → List Token → Type 0
Tokens text ts = Scans 0 text ts (length text) []

-- What stands at the front is no token and no space: a byte of no use, a run that is no name, or a `#` with a run that
-- is no number.
pub data Stray : List ℕ → Type 0 where
  other : {b : ℕ} {bs : List ℕ} → class_of b ≡ Other → Stray (b ∷ bs)
  no_name : {bs : List ℕ} → 0 < lead bs → (IsName (run bs) → ⊥) → Stray bs
  no_number : {b : ℕ} {bs : List ℕ} → b ≡ 35 → ((n : ℕ) → IsNumber (run bs) n → ⊥) → Stray (b ∷ bs)

-- from the offset o on, the first byte or run that is no token stands at p, tokens ts before it
pub record FirstStray (text : List ℕ) (o : ℕ) (ts : List Token) (p : ℕ) : Type 0 where
  pub before : Scans o (drop o text) ts p (drop p text)
  pub within : p < length text
  pub stray : Stray (drop p text)
