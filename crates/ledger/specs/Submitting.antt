-- The questions that a submit puts to the ledger, in their order, and the refusal of the first that is answered with no.
use Rattle.std.specs.Prelude.{◌≡◌, ℕ, ◌+◌, ◌<◌, ◌≤◌, List, length, Some, None}
use Rattle.refusal.specs.Saying.{saying}
use Rattle.refusal.specs.declared.Layer.TheVariants as layer
use Rattle.refusal.specs.declared.Refusal.{Refusal}
use Rattle.types.specs.Types.{Ty}
use Rattle.term.specs.Terms.{Term, prefix}
use Rattle.catalogue.specs.Entries.{Entry}
use Rattle.formula.specs.Reading.{Formula, Refuses}
use Rattle.infer.specs.Heads.{need}
use Rattle.normal.specs.Normal.{normal_of}
use Rattle.theory.specs.Closed.{Below}
use Rattle.theory.specs.Expansion.{expand}
use Rattle.theory.specs.Principal.{Typable, Principal}
use Rattle.typer.specs.Questions.{Serves, Unserved}
use Rattle.ledger.specs.Ledger.{Row, Ledger, expansions, kept, entered, term_nodes, type_nodes}
use Rattle.ledger.specs.Calls.{Submission}

-- how many type records the typing of t needs over the rows
abbrev pub need_of : List Entry → List Row → Term → ℕ
need_of es rows t = need (entered es) (kept rows) (prefix t)

-- the expansion that t would have
abbrev pub expansion_of : List Row → Term → Term
expansion_of rows t = expand (expansions rows) t

-- the questions before the text is read: no candidate is open (10), fewer than 128 formulas are filed (11), the text has
-- at most 4,096 bytes (12)
pub record Begins (l : Ledger) (s : Submission) : Type 0 where
  pub free : l.candidate ≡ None
  pub few : length l.rows < 128
  pub short : length s.text ≤ 4096

-- the text is read as the term t (20 to 25)
pub record Read (es : List Entry) (l : Ledger) (s : Submission) (t : Term) : Type 0 where
  pub begins : Begins l s
  pub formula : Formula es s.text t
  pub few : length (prefix t) ≤ 1024
  pub room : length (prefix t) ≤ s.terms
  pub below : Below (length l.rows) t

-- and the memories serve to type it (30 to 32)
pub record Workable (es : List Entry) (l : Ledger) (s : Submission) (t : Term) : Type 0 where
  pub read : Read es l s t
  pub serves : Serves (need_of es l.rows t) (length (prefix t)) s.types s.numbers

-- a yes to each question before the one for a type: the filed terms and this one stay within 4,096 nodes (33)
pub record Ready (es : List Entry) (l : Ledger) (s : Submission) (t : Term) : Type 0 where
  pub workable : Workable es l s t
  pub fits : term_nodes l.rows + length (prefix t) ≤ 4096

-- A submit is refused with the number of the first question that is answered with no.
pub data Unsubmitted (es : List Entry) (l : Ledger) (s : Submission) : Refusal → Type 0 where
  busy : {r : Row} → l.candidate ≡ Some r → Unsubmitted es l s (saying 10 layer.Book 0)
  full : l.candidate ≡ None → 128 ≤ length l.rows → Unsubmitted es l s (saying 11 layer.Book 0)
  long : l.candidate ≡ None → length l.rows < 128 → 4096 < length s.text → Unsubmitted es l s (saying 12 layer.Book 0)
  unread : {r : Refusal} → Begins l s → Refuses es (length l.rows) s.text s.terms r → Unsubmitted es l s r
  unserved : {t : Term} {r : Refusal} → Read es l s t → Unserved (need_of es l.rows t) (length (prefix t)) s.types s.numbers r → Unsubmitted es l s r
  crowded : {t : Term} → Workable es l s t → 4096 < term_nodes l.rows + length (prefix t) → Unsubmitted es l s (saying 33 layer.Book 0)
  typeless : {t : Term} → Ready es l s t → (Typable (entered es) (expansion_of l.rows t) → ⊥) → Unsubmitted es l s (saying 40 layer.Types 0)
  overfull : {t : Term} {τ : Ty} → Ready es l s t → Principal (entered es) (expansion_of l.rows t) τ → 4096 < type_nodes l.rows + length (normal_of τ) → Unsubmitted es l s (saying 41 layer.Book 0)

-- A yes to every question: the term t, and a principal type of its expansion.
pub record Submitted (es : List Entry) (l : Ledger) (s : Submission) (t : Term) (τ : Ty) : Type 0 where
  pub ready : Ready es l s t
  pub principal : Principal (entered es) (expansion_of l.rows t) τ
  pub fits : type_nodes l.rows + length (normal_of τ) ≤ 4096
