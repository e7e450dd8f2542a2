-- What is done with the lines of an input: each is submitted, and what is accepted is filed.
use Rattle.std.specs.Prelude.{◌≡◌, ℕ, ◌≤◌, List, [], ◌∷◌, length, Ok, Err, Result}
use Rattle.book.specs.declared.dealing.Dealing.{Dealing}
use Rattle.book.specs.declared.dealing.Dealing.TheVariants.{Submit, File}
use Rattle.book.specs.declared.dealing.Answer.{Answer}
use Rattle.book.specs.declared.dealing.Answer.TheVariants as answer
use Rattle.book.specs.declared.fault.BookFault.{BookFault}
use Rattle.book.specs.declared.fault.BookFault.TheVariants.{NoCandidate}
use Rattle.cutting.specs.declared.Line.{Line}
use Rattle.cutting.specs.Lines.{Lines}

-- each line is submitted and filed; where it is refused there is nothing to file, and that is refused too
abbrev pub plan : List Line → List Dealing
plan [] = []
plan (l ∷ ls) = Submit l.from l.to ∷ (File ∷ plan ls)

-- the dealings of all lines of the input
pub record Planned (input : List ℕ) (ds : List Dealing) : Type 0 where
  pub at : ℕ
  pub lines : List Line
  pub before : Lines input at lines
  pub all : length input ≤ at
  pub is : ds ≡ plan lines

-- the number in an answer to filing: another answer is never given
abbrev pub filed_number : Answer → Result ℕ BookFault
filed_number (answer.Opened n) = Err NoCandidate
filed_number (answer.Filed n) = Ok n
filed_number answer.Dismissed = Err NoCandidate
filed_number (answer.Withdrawn n) = Err NoCandidate
filed_number (answer.Shown n) = Err NoCandidate
filed_number (answer.Lined n) = Err NoCandidate
filed_number (answer.Derived n) = Err NoCandidate
filed_number answer.Passed = Err NoCandidate

-- what filing came to: the number, or the refusal
abbrev pub filed_to : Result Answer BookFault → Result ℕ BookFault
filed_to (Ok a) = filed_number a
filed_to (Err f) = Err f

-- what became of a line that was submitted and then filed with these answers
abbrev pub came_to : Result Answer BookFault → Result Answer BookFault → Result ℕ BookFault
came_to (Ok a) filed = filed_to filed
came_to (Err f) filed = Err f
