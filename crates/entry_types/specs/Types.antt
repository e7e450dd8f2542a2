-- The printed type of an entry of a catalogue, and its line.
use Rattle.std.specs.Prelude.{◌≡◌, ℕ, ◌≤◌, List, [], ◌∷◌, ◌++◌, length, drop, codes}
use Rattle.catalogue.specs.Entries.{Entry, list_of}
use Rattle.printing.specs.Text.{text}
use Rattle.types.specs.Lists.{meaning}

-- n bytes are written over the front of a memory: the text of the type of entry k
pub record Typed (es : List Entry) (k : ℕ) (before after : List ℕ) (n : ℕ) : Type 0 where
  pub long : n ≡ length (text (meaning (list_of es k)))
  pub fits : n ≤ length before
  pub written : after ≡ text (meaning (list_of es k)) ++ drop n before

-- the line of an entry
abbrev pub line : List ℕ → List ℕ → List ℕ
line name text = name ++ codes " : " ++ text ++ (10 ∷ [])
