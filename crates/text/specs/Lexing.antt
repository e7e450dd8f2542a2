-- What the lexer answers, in the words of the tokens.
use Rattle.std.specs.Prelude.{◌≡◌, ℕ, ◌+◌, ◌<◌, ◌≤◌, Bool, List, [], ◌∷◌, length, drop, Some, None, Ok, Err, Option, Result, ◌≢◌, slice_index}
use Rattle.std.specs.List.{prefix_len}
use Rattle.text.specs.Bytes.{class_of}
use Rattle.text.specs.declared.bytes.Class.{Class}
use Rattle.text.specs.declared.bytes.Class.TheVariants.{Space}
use Rattle.text.specs.Tokens.{Tokens, Token as Lexed, Sign, lambda, dot, opening, closing, name, reference, token, Scans, FirstStray, Stray as Strays, single}
use Rattle.text.specs.declared.fault.TextFault.{TextFault}
use Rattle.text.specs.declared.fault.TextFault.TheVariants.{Stray, Misplaced}
use Rattle.text.specs.declared.token.Token.{Token}
use Rattle.text.specs.declared.token.Token.TheVariants as cut
use Rattle.text.specs.declared.token.Lexeme.{Lexeme}

-- what a token of the program says
abbrev pub sign_of : Token → Sign
sign_of cut.Lambda = lambda
sign_of cut.Dot = dot
sign_of cut.Open = opening
sign_of cut.Close = closing
sign_of (cut.Name w) = name w.now
sign_of (cut.Reference n) = reference n

abbrev signs : Option Token → Option Sign
signs (Some x) = Some (sign_of x)
signs None = None

abbrev pub Single : ℕ → Option Token → Type 0
Single b r = signs r ≡ single b

-- the next token after the offset o, spaces before it passed over
pub record Found (text : List ℕ) (o : ℕ) (x : Lexeme) : Type 0 where
  pub less : o < x.end
  pub within : x.end ≤ length text
  pub scans : Scans o (drop o text) (token (sign_of x.token) x.at ∷ []) x.end (drop x.end text)

-- the token that begins at o, or what begins there is none
abbrev pub Starts : List ℕ → ℕ → Result Lexeme TextFault → Type 0
Starts text o (Ok x) = Found text o x
Starts text o (Err (Stray p)) = (p ≡ o) × Strays (drop o text)
Starts text o (Err (Misplaced p)) = ⊥

-- the next token from o on, or the first byte or run that is none; where there is neither, spaces alone are left
abbrev pub Next : List ℕ → ℕ → Result (Option Lexeme) TextFault → Type 0
Next text o (Ok None) = o ≤ length text → Scans o (drop o text) [] (length text) []
Next text o (Ok (Some x)) = Found text o x
Next text o (Err (Stray p)) = FirstStray text o [] p
Next text o (Err (Misplaced p)) = ⊥

-- from o to p stand all the bytes from o on whose classes pass the test that is put to them
abbrev pub Run : (Class → Bool → Type 0) → List ℕ → ℕ → ℕ → Type 0
Run Tells text o p = (test : Class → Bool) → ((c : Class) (b : Bool) → Tells c b → b ≡ test c) → p ≡ o + prefix_len (λ b. test (class_of b)) (drop o text)

-- only spaces stand from o to p, and none at p
pub record Passed (text : List ℕ) (o p : ℕ) : Type 0 where
  pub reached : o ≤ p
  pub within : p ≤ length text
  pub scans : Scans o (drop o text) [] p (drop p text)
  pub stops : p < length text → class_of (slice_index text p) ≢ Space

-- the whole text is tokens and spaces, in one way only
pub record AllTokens (text : List ℕ) : Type 0 where
  pub tokens : List Lexed
  pub spelled : Tokens text tokens
  pub only : (ts : List Lexed) → Tokens text ts → ts ≡ tokens

-- the text is not all tokens and spaces: the first byte or run that is none stands at p
pub record NotAllTokens (text : List ℕ) (p : ℕ) : Type 0 where
  pub tokens : List Lexed
  pub first : FirstStray text 0 tokens p
  pub none : (ts : List Lexed) → Tokens text ts → ⊥

abbrev pub Scanned : List ℕ → Result Unit TextFault → Type 0
Scanned text (Ok u) = AllTokens text
Scanned text (Err (Stray p)) = NotAllTokens text p
Scanned text (Err (Misplaced p)) = ⊥
