-- The laws of reading a text as a formula.
use Rattle.std.specs.Prelude.{◌≡◌, ℕ, ◌≤◌, List, length}
use Rattle.std.specs.List.{AllByRecursion}
use Rattle.refusal.specs.declared.Refusal.{Refusal}
use Rattle.term.specs.Terms.{Term, prefix}
use Rattle.catalogue.specs.Entries.{Entry}
use Rattle.formula.specs.Names.{references, Filed}
use Rattle.formula.specs.Reading.{Formula, Refuses}
use Rattle.theory.specs.Closed.{Closed, Below}

-- A text is a formula with one term at most.
abbrev pub FormulaIsOne : Type 0
FormulaIsOne = (es : List Entry) (text : List ℕ) (t u : Term) → Formula es text t → Formula es text u → t ≡ u

-- A text has one refusal at most.
abbrev pub RefusalIsOne : Type 0
RefusalIsOne = (es : List Entry) (filed : ℕ) (text : List ℕ) (room : ℕ) (r s : Refusal) → Refuses es filed text room r → Refuses es filed text room s → r ≡ s

-- A text that is refused is no formula that is small enough, finds room and refers to filed formulas alone.
abbrev pub RefusedOrRead : Type 0
RefusedOrRead =
    (es : List Entry) (filed : ℕ) (text : List ℕ) (room : ℕ) (r : Refusal) (t : Term)
    → Refuses es filed text room r → Formula es text t → length (prefix t) ≤ 1024 → length (prefix t) ≤ room → Below filed t → ⊥

-- Each variable of a formula has its binder.
abbrev pub FormulaIsClosed : Type 0
FormulaIsClosed = (es : List Entry) (text : List ℕ) (t : Term) → Formula es text t → Closed 0 t

-- The references of the text are those of the term.
abbrev pub ReferencesAreBelow : Type 0
ReferencesAreBelow =
    (es : List Entry) (filed : ℕ) (text : List ℕ) (t : Term) (f : Formula es text t)
    → (AllByRecursion (Filed filed) (references f.tree) → Below filed t) × (Below filed t → AllByRecursion (Filed filed) (references f.tree))
