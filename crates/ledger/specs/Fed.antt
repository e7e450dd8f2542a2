-- Ledgers fed by calls, and what holds of every one of them.
use Rattle.std.specs.Prelude.{◌≡◌, ℕ, ◌<◌, List, [], ◌∷◌, length, Some, None, Option}
use Rattle.refusal.specs.Saying.{saying}
use Rattle.refusal.specs.declared.Layer.TheVariants as layer
use Rattle.term.specs.Terms.{Term}
use Rattle.catalogue.specs.Entries.{Entry, AllLawful}
use Rattle.theory.specs.Closed.{Below}
use Rattle.theory.specs.Principal.{Typable, KeptRow, Kept}
use Rattle.ledger.specs.Ledger.{Row, Ledger, new_ledger, expansions, kept, entered, all_rows, row_at}
use Rattle.ledger.specs.Calls.{Submission, Call, submit, Reply, refused}
use Rattle.ledger.specs.Submitting.{Ready, expansion_of}
use Rattle.ledger.specs.Steps.{Step}

-- a ledger that was new, and was fed with these calls, the latest first; these are its replies
pub data Fed (es : List Entry) : List Call → List Reply → Ledger → Type 0 where
  begun : Fed es [] [] new_ledger
  fed : {cs : List Call} {rs : List Reply} {l l' : Ledger} {c : Call} {r : Reply} → Fed es cs rs l → Step es l c r l' → Fed es (c ∷ cs) (r ∷ rs) l'

-- the type kept for the candidate is a type of its expansion, and every type of that expansion is an instance of it
abbrev pub CandidateKept : List Entry → Option Row → Type 0
CandidateKept es (Some r) = KeptRow (entered es) r.expansion r.list
CandidateKept es None = Unit {0}

-- row n has the expansion of its term, whose references are to earlier rows
pub record Expanded (rows : List Row) (n : ℕ) : Type 0 where
  pub below : Below n (row_at rows n).term
  pub is : (row_at rows n).expansion ≡ expansion_of rows (row_at rows n).term

abbrev pub AllExpanded : List Row → Type 0
AllExpanded rows = (n : ℕ) → n < length rows → Expanded rows n

-- and so it is for each filed formula; all have their expansions
pub record AllKept (es : List Entry) (l : Ledger) : Type 0 where
  pub rows : Kept (entered es) (expansions l.rows) (kept l.rows)
  pub candidate : CandidateKept es l.candidate
  pub expanded : AllExpanded (all_rows l)

-- a formula with a yes to each question before the one for a type is refused for having none exactly when its expansion
-- has none
abbrev pub TypelessExactly : List Entry → Ledger → Call → Reply → Type 0
TypelessExactly es l c r =
    (s : Submission) (t : Term) → c ≡ submit s → Ready es l s t
    → (r ≡ refused (saying 40 layer.Types 0) → Typable (entered es) (expansion_of l.rows t) → ⊥)
    × ((Typable (entered es) (expansion_of l.rows t) → ⊥) → r ≡ refused (saying 40 layer.Types 0))

-- what holds of a call, from the ledger before it to the one after
pub record Rightly (es : List Entry) (l : Ledger) (c : Call) (r : Reply) (l' : Ledger) : Type 0 where
  pub typeless : TypelessExactly es l c r
  pub kept : AllKept es l'

-- P of each call that a ledger was fed with
abbrev pub Each : {es : List Entry} {cs : List Call} {rs : List Reply} {l : Ledger} → (Ledger → Call → Reply → Ledger → Type 0) → Fed es cs rs l → Type 0
Each P begun = Unit {0}
Each P (fed {l = l} {l' = l'} {c = c} {r = r} before step) = Each P before × P l c r l'

-- Every call on a ledger is answered rightly.
abbrev pub LedgersAreRight : Type 0
LedgersAreRight = (es : List Entry) → AllLawful es → (cs : List Call) (rs : List Reply) (l : Ledger) → (f : Fed es cs rs l) → AllKept es l × Each (Rightly es) f

-- Two ledgers fed alike are equal, and so are their replies.
abbrev pub LedgerIsOne : Type 0
LedgerIsOne = (es : List Entry) (cs : List Call) (rs ss : List Reply) (l m : Ledger) → Fed es cs rs l → Fed es cs ss m → (rs ≡ ss) × (l ≡ m)
