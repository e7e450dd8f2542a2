-- The reply to a line: the most general type of the formula that it is, printed, or why it is refused.
use Rattle.std.specs.Prelude.{◌≡◌, ℕ, ◌<◌, ◌≤◌, List, [], ◌++◌, length, drop}
use Rattle.refusal.specs.Saying.{saying}
use Rattle.refusal.specs.declared.Layer.TheVariants as layer
use Rattle.refusal.specs.declared.Refusal.{Refusal}
use Rattle.types.specs.Types.{Ty}
use Rattle.types.specs.Lists.{meaning}
use Rattle.term.specs.Terms.{Term, prefix}
use Rattle.catalogue.specs.Entries.{list_of}
use Rattle.catalogue.specs.Table.{builtin}
use Rattle.copy.specs.Instances.{Lists}
use Rattle.infer.specs.Heads.{need}
use Rattle.formula.specs.Reading as reading
use Rattle.normal.specs.Normal.{normal_of}
use Rattle.printing.specs.Text.{text as printed}
use Rattle.printing.specs.Writing.{Prints}
use Rattle.typer.specs.Questions.{Unserved}
use Rattle.typer.specs.Answers.{PrincipalType, NoTypes}

-- the lists of the built-in catalogue, and nothing kept
abbrev pub entries : Lists
entries k = list_of builtin k

abbrev pub nothing : Lists
nothing k = []

-- how a type is shown: by its normal list, whose variables are numbered by first appearance
abbrev pub shown : Ty → List ℕ
shown τ = printed (meaning (normal_of τ))

-- the line is a formula, and the text of its most general type is written over the front of the memory
pub record Types (line before after : List ℕ) (n : ℕ) : Type 0 where
  pub short : length line ≤ 4096
  pub term : Term
  pub formula : reading.Formula builtin line term
  pub type : Ty
  pub principal : PrincipalType entries nothing term type
  pub answer : n ≡ length (shown type)
  pub fits : n ≤ length before
  pub written : after ≡ shown type ++ drop n before

-- the first question that is answered with no, with room for so many term nodes, type nodes, numbers and bytes
pub data Refused (line : List ℕ) (terms types numbers bytes : ℕ) : Refusal → Type 0 where
  too_many_bytes : 4096 < length line → Refused line terms types numbers bytes (saying 12 layer.Book 0)
  no_formula : {r : Refusal} → length line ≤ 4096 → reading.Refuses builtin 0 line terms r → Refused line terms types numbers bytes r
  unserved : {t : Term} {r : Refusal} → length line ≤ 4096 → reading.Formula builtin line t → Unserved (need entries nothing (prefix t)) (length (prefix t)) types numbers r → Refused line terms types numbers bytes r
  no_type : {t : Term} → length line ≤ 4096 → reading.Formula builtin line t → NoTypes entries nothing (prefix t) → Refused line terms types numbers bytes (saying 40 layer.Types 0)
  too_long : {t : Term} {τ : Ty} → length line ≤ 4096 → reading.Formula builtin line t → PrincipalType entries nothing t τ → (Prints (shown τ) bytes → ⊥) → Refused line terms types numbers bytes (saying 71 layer.Book 0)
