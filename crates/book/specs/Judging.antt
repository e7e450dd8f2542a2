-- What a submit finds out before the book is changed.
use Rattle.std.specs.Prelude.{◌≡◌, ℕ, ◌+◌, ◌<◌, ◌≤◌, true, false, List, length}
use Rattle.refusal.specs.Saying.{saying}
use Rattle.refusal.specs.declared.Layer.TheVariants as layer
use Rattle.refusal.specs.declared.Refusal.{Refusal}
use Rattle.types.specs.declared.TypeNode.{TypeNode}
use Rattle.types.specs.Types.{Ty}
use Rattle.term.specs.declared.TermNode.{TermNode}
use Rattle.term.specs.Terms.{Term, prefix}
use Rattle.catalogue.specs.Entries.{Entry}
use Rattle.copy.specs.Instances.{Lists}
use Rattle.infer.specs.Heads.{need}
use Rattle.normal.specs.Normal.{normal_of}
use Rattle.theory.specs.Principal.{MostGeneral}
use Rattle.typer.specs.Questions.{Serves, Unserved}
use Rattle.typer.specs.Answers.{NoTypes, Typed}
use Rattle.table.specs.Rows.{row, Proper}
use Rattle.table.specs.View.{View, is_held, term_nodes, list_nodes}
use Rattle.ledger.specs.Ledger.{Ledger}
use Rattle.ledger.specs.Calls.{Submission}
use Rattle.ledger.specs.Submitting.{Submitted}

-- no candidate is open, fewer than 128 formulas are filed, and the text has at most so many bytes
pub record Admits (v : View) (bytes : ℕ) : Type 0 where
  pub free : is_held v.candidate ≡ false
  pub few : length v.rows < 128
  pub short : bytes ≤ 4096

-- the first of these that is not so
pub data NotAdmitted (v : View) (bytes : ℕ) : Refusal → Type 0 where
  busy : is_held v.candidate ≡ true → NotAdmitted v bytes (saying 10 layer.Book 0)
  full : is_held v.candidate ≡ false → 128 ≤ length v.rows → NotAdmitted v bytes (saying 11 layer.Book 0)
  long : is_held v.candidate ≡ false → length v.rows < 128 → 4096 < bytes → NotAdmitted v bytes (saying 12 layer.Book 0)

-- the nodes ts can be worked on, and the terms have room for them
pub record Workable (E K : Lists) (v : View) (ts : List TermNode) (types numbers : ℕ) : Type 0 where
  pub serves : Serves (need E K ts) (length ts) types numbers
  pub fits : term_nodes v + length ts ≤ 4096

-- the most general type of the term with the nodes ts is listed, and the lists have room for it
pub record Listed (E K : Lists) (v : View) (ts : List TermNode) (types : ℕ) (numbers : ℕ) (types' : List TypeNode) (numbers' : List ℕ) (n : ℕ) : Type 0 where
  pub workable : Workable E K v ts types numbers
  pub typed : Typed E K ts types' numbers' n
  pub fits : list_nodes v + n ≤ 4096

-- the first question about the term's type, or about the room for it, that is answered with no
pub data NotListed (E K : Lists) (v : View) (ts : List TermNode) (types numbers : ℕ) : Refusal → Type 0 where
  unserved : {r : Refusal} → Unserved (need E K ts) (length ts) types numbers r → NotListed E K v ts types numbers r
  crowded : Serves (need E K ts) (length ts) types numbers → 4096 < term_nodes v + length ts → NotListed E K v ts types numbers (saying 33 layer.Book 0)
  typeless : Workable E K v ts types numbers → NoTypes E K ts → NotListed E K v ts types numbers (saying 40 layer.Types 0)
  overfull : {τ : Ty} → Workable E K v ts types numbers → ((t : Term) → prefix t ≡ ts → MostGeneral E K t τ) → 4096 < list_nodes v + length (normal_of τ) → NotListed E K v ts types numbers (saying 41 layer.Book 0)

-- a term's nodes and a list may be kept as the candidate
pub record Keepable (v : View) (ts : List TermNode) (list : List TypeNode) : Type 0 where
  pub term_space : term_nodes v + length ts ≤ 4096
  pub list_space : list_nodes v + length list ≤ 4096
  pub proper : Proper (length v.rows) (row ts list)

-- they are those of the term that the ledger reads, and of its expansion's principal type
pub record Found (es : List Entry) (l : Ledger) (s : Submission) (ts : List TermNode) (list : List TypeNode) : Type 0 where
  pub term : Term
  pub type : Ty
  pub submitted : Submitted es l s term type
  pub nodes : ts ≡ prefix term
  pub records : list ≡ normal_of type
