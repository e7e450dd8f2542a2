-- What stands in the memories of a desk.
use Rattle.std.specs.Prelude.{◌≡◌, ℕ, ◌<◌, List, length, replicate, vec_items, codes, slice_index, slice_index_or}
use Rattle.types.specs.declared.TypeNode.{TypeNode}
use Rattle.types.specs.Lists.{zero_node as no_type_node}
use Rattle.term.specs.declared.TermNode.{TermNode}
use Rattle.term.specs.Terms.{zero_node as no_term_node}
use Rattle.ledger.specs.Calls.{Submission}
use Rattle.book.specs.Memories.{submission}
use Rattle.book_desk.specs.declared.desk.Desk.{Desk}
use Rattle.book_desk.specs.declared.desk.Left.{Left}
use Rattle.book_desk.specs.declared.desk.Left.TheVariants.{Kept, Zeros, Mixed}

-- nodes whose fields are all the same number
abbrev pub term_of : ℕ → TermNode
term_of v = record { kind = v; number = v }

abbrev pub type_of : ℕ → TypeNode
type_of v = record { kind = v; left = v; right = v }

-- every node of a memory is such a node, and every number that number
abbrev pub TermsAre : List TermNode → ℕ → Type 0
TermsAre l v = (k : ℕ) → k < length l → slice_index_or l k no_term_node ≡ term_of v

abbrev pub TypesAre : List TypeNode → ℕ → Type 0
TypesAre l v = (k : ℕ) → k < length l → slice_index_or l k no_type_node ≡ type_of v

abbrev pub NumbersAre : List ℕ → ℕ → Type 0
NumbersAre l v = (k : ℕ) → k < length l → slice_index l k ≡ v

pub record Holds (d : Desk) (v : ℕ) : Type 0 where
  pub terms : TermsAre (vec_items d.terms) v
  pub types : TypesAre (vec_items d.types) v
  pub numbers : NumbersAre (vec_items d.numbers) v

-- what is left on a desk that was scribbled on
abbrev pub Finds : Desk → Left → Type 0
Finds d Kept = Holds d 9
Finds d Zeros = Holds d 0
Finds d Mixed = (Holds d 9 → ⊥) × (Holds d 0 → ⊥)

-- a desk with memories of these lengths that hold nines only
pub record Scribbled (terms types numbers : ℕ) (d : Desk) : Type 0 where
  pub terms_are : vec_items d.terms ≡ replicate terms (term_of 9)
  pub types_are : vec_items d.types ≡ replicate types (type_of 9)
  pub numbers_are : vec_items d.numbers ≡ replicate numbers 9

-- a word for what is left
abbrev pub word : Left → List ℕ
word Kept = codes "kept"
word Zeros = codes "zeros"
word Mixed = codes "mixed"

-- what is submitted in the memories of a desk
abbrev pub submission_on : Desk → List ℕ → Submission
submission_on d text = submission text (vec_items d.terms) (vec_items d.types) (vec_items d.numbers)
