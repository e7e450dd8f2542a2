-- Lines: each ends at byte 10, and a last one without it counts unless it is empty.
use Rattle.std.specs.Prelude.{◌≡◌, ℕ, ◌+◌, ◌<◌, ◌≤◌, List, [], ◌∷◌, ◌++◌, length, ◌≢◌, MatchOption, Option, slice_index, slice_range}
use Rattle.cutting.specs.declared.Line.{Line}
use Rattle.cutting.specs.declared.Cutter.{Cutter}

-- the line that begins at `from` ends at `end`: at the first byte 10, or at the end of the input
pub record EndsAt (input : List ℕ) (from end : ℕ) : Type 0 where
  pub reached : from ≤ end
  pub within : end ≤ length input
  pub before : (k : ℕ) → from ≤ k → k < end → slice_index input k ≢ 10
  pub here : end < length input → slice_index input end ≡ 10

-- the line that begins at `from`, its text, and where the next one begins: behind the byte 10, or at the end of the input
pub record Cut (input : List ℕ) (from : ℕ) (l : Line) : Type 0 where
  pub inside : from < length input
  pub begins : l.from ≡ from
  pub ends : EndsAt input from l.to
  pub text : l.text.now ≡ slice_range input from l.to
  pub broken : l.to < length input → l.next ≡ l.to + 1
  pub last : l.to ≡ length input → l.next ≡ l.to

-- the lines before a place, in their order
pub data Lines (input : List ℕ) : ℕ → List Line → Type 0 where
  none : Lines input 0 []
  more : {at : ℕ} {ls : List Line} {l : Line} → Lines input at ls → Cut input at l → Lines input l.next (ls ++ (l ∷ []))

-- the lines are cut from the front of an input on
pub record Begins (input : List ℕ) (c : Cutter) : Type 0 where
  pub whole : c.input.now ≡ input
  pub front : c.at ≡ 0

-- the next line, and what is left to be cut; there is none at the end of the input
pub record Gives (c : Cutter) (line : Option Line) (c' : Cutter) : Type 0 where
  pub same : c'.input.now ≡ c.input.now
  pub gives : MatchOption line (length c.input.now ≤ c.at) (λ l. Cut c.input.now c.at l × (c'.at ≡ l.next))
