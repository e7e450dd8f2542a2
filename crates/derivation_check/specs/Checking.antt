-- The check of a typing derivation: a list of types, and for each term node a place in it.
use Rattle.std.specs.Prelude.{◌≡◌, ℕ, ◌<◌, ◌≤◌, List, [], length, Some, None, Option, slice_index, slice_index_or}
use Rattle.refusal.specs.Saying.{saying}
use Rattle.refusal.specs.declared.Layer.TheVariants as layer
use Rattle.refusal.specs.declared.Refusal.{Refusal}
use Rattle.types.specs.Types.{Ty}
use Rattle.types.specs.Lists.{zero_node, LawfulNode, Lawful, type_at}
use Rattle.types.specs.declared.TypeNode.{TypeNode}
use Rattle.term.specs.Terms.{Term, prefix}
use Rattle.term.specs.declared.TermNode.{TermNode}
use Rattle.instance.specs.Once.{Once}
use Rattle.copy.specs.Instances.{Lists}
use Rattle.infer.specs.Typing.{Typing}
use Rattle.derivation_check.specs.Steps.{Step, Steps}

-- the types that a derivation gives the nodes
abbrev pub types : List TypeNode → List ℕ → ℕ → Ty
types l ps i = type_at l (slice_index ps i)

-- the list has 1 to 4,096 nodes
pub record Sized (l : List TypeNode) : Type 0 where
  pub some : 0 < length l
  pub few : length l ≤ 4096

-- each node is lawful where it stands
abbrev pub EachLawful : List TypeNode → Type 0
EachLawful l = (p : ℕ) → p < length l → LawfulNode p (slice_index_or l p zero_node)

-- there are just n places, all of them below m
pub record Placed (ps : List ℕ) (n m : ℕ) : Type 0 where
  pub count : length ps ≡ n
  pub inside : (i : ℕ) → i < length ps → slice_index ps i < m

-- k is the first node without its step
pub record FirstFails (E K : Lists) (ts : List TermNode) (T : ℕ → Ty) (k : ℕ) : Type 0 where
  pub inside : k < length ts
  pub before : Steps E K ts T k
  pub fails : Step E K ts T k → ⊥

abbrev pub Judged : Lists → Lists → List TermNode → (ℕ → Ty) → Option ℕ → Type 0
Judged E K ts T None = Steps E K ts T (length ts)
Judged E K ts T (Some k) = FirstFails E K ts T k

-- the nodes are those of no term that has these types as a typing
abbrev pub NoTyping : Lists → Lists → List TermNode → (ℕ → Ty) → Type 0
NoTyping E K ts T = (t : Term) → prefix t ≡ ts → Typing E K [] t T 0 → ⊥

-- The derivation is one: every node has its typing step. If the nodes are those of a term, their types are a typing.
pub record Checked (E K : Lists) (ts : List TermNode) (l : List TypeNode) (ps : List ℕ) : Type 0 where
  pub lawful : Lawful l
  pub once : Once l
  pub placed : Placed ps (length ts) (length l)
  pub steps : Steps E K ts (types l ps) (length ts)
  pub typing : (t : Term) → prefix t ≡ ts → Typing E K [] t (types l ps) 0

-- The first question that a derivation answers with no, each put whole before the next: has the list 1 to 4,096 nodes
-- (80), are all of them lawful (81), are no two records equal (82), are there just as many places as term nodes, all
-- inside the list (83), has every term node its typing step (84, at the first that has none)?
pub data Refuses (E K : Lists) (ts : List TermNode) (l : List TypeNode) (ps : List ℕ) : Refusal → Type 0 where
  wrong_length : (Sized l → ⊥) → Refuses E K ts l ps (saying 80 layer.Book 0)
  unlawful : Sized l → (EachLawful l → ⊥) → Refuses E K ts l ps (saying 81 layer.Book 0)
  equal : Lawful l → (Once l → ⊥) → Refuses E K ts l ps (saying 82 layer.Book 0)
  misplaced : Lawful l → Once l → (Placed ps (length ts) (length l) → ⊥) → Refuses E K ts l ps (saying 83 layer.Book 0)
  no_step : {k : ℕ} → Lawful l → Once l → Placed ps (length ts) (length l) → FirstFails E K ts (types l ps) k → NoTyping E K ts (types l ps) → Refuses E K ts l ps (saying 84 layer.Book k)
