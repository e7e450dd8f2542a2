-- A machine that takes one token at a time, with the brackets and binders still open: a means to prove the reader.
use Rattle.std.specs.Prelude.{◌≡◌, List, [], ◌∷◌, ◌++◌, ℕ}
use Rattle.text.specs.Tokens.{Sign, Token, lambda, dot, opening, closing, name, reference}
use Rattle.grammar.specs.Grammar.{Tree, named, referred, abstracted, applied, place}

-- what is open to the left of the expression that is being read: nothing, a binder's body, a bracket that is the first
-- atom of an application, a bracket that is a later one
pub data Frames : Type 0 where
  top : Frames
  body : List ℕ → ℕ → Frames → Frames
  first : Frames → Frames
  next : Tree → Frames → Frames

-- at the start of an expression, before a binder's name, before its dot, after an application, or beyond hope
pub data State : Type 0 where
  start : Frames → State
  binder : Frames → State
  before_dot : List ℕ → ℕ → Frames → State
  after : Tree → Frames → State
  dead : State

abbrev pub close : Tree → Frames → State
close f top = dead
close f (body w o k) = close (abstracted w o f) k
close f (first k) = after f k
close f (next g k) = after (applied g f) k

abbrev pub step : State → Sign → ℕ → State
step (start k) lambda at = binder k
step (start k) dot at = dead
step (start k) opening at = start (first k)
step (start k) closing at = dead
step (start k) (name w) at = after (named w at) k
step (start k) (reference n) at = after (referred n at) k
step (binder k) lambda at = dead
step (binder k) dot at = dead
step (binder k) opening at = dead
step (binder k) closing at = dead
step (binder k) (name w) at = before_dot w at k
step (binder k) (reference n) at = dead
step (before_dot v o k) lambda at = dead
step (before_dot v o k) dot at = start (body v o k)
step (before_dot v o k) opening at = dead
step (before_dot v o k) closing at = dead
step (before_dot v o k) (name w) at = dead
step (before_dot v o k) (reference n) at = dead
step (after f k) lambda at = dead
step (after f k) dot at = dead
step (after f k) opening at = start (next f k)
step (after f k) closing at = close f k
step (after f k) (name w) at = after (applied f (named w at)) k
step (after f k) (reference n) at = after (applied f (referred n at)) k
step dead x at = dead

abbrev pub takes : State → List Token → State
takes q [] = q
takes q (x ∷ xs) = takes (step q x.sign x.at) xs

-- the tree that is done, if nothing is left open
pub data Done : Type 0 where
  none : Done
  done : Tree → Done

abbrev pub finish : Tree → Frames → Done
finish f top = done f
finish f (body w o k) = finish (abstracted w o f) k
finish f (first k) = none
finish f (next g k) = none

abbrev pub result : State → Done
result (start k) = none
result (binder k) = none
result (before_dot w o k) = none
result (after f k) = finish f k
result dead = none

abbrev pub Live : State → Type 0
Live (start k) = Unit {0}
Live (binder k) = Unit {0}
Live (before_dot w o k) = Unit {0}
Live (after f k) = Unit {0}
Live dead = ⊥

-- from the state q the machine halts over the tokens ts, of a text that ends at `end`, at the place p
pub record Halts (q : State) (ts : List Token) (end p : ℕ) : Type 0 where
  pub before : List Token
  pub rest : List Token
  pub split : ts ≡ before ++ rest
  pub stands : p ≡ place end rest
  pub live : Live (takes q before)
  pub stuck : (x : Token) (us : List Token) → rest ≡ x ∷ us → step (takes q before) x.sign x.at ≡ dead
  pub short : rest ≡ [] → result (takes q before) ≡ none
