-- What is kept of a formula, and when it may be kept.
use Rattle.std.specs.Prelude.{◌≡◌, ℕ, List, []}
use Rattle.term.specs.Terms.{Term, prefix}
use Rattle.term.specs.declared.TermNode.{TermNode}
use Rattle.types.specs.Lists.{Lawful}
use Rattle.types.specs.declared.TypeNode.{TypeNode}
use Rattle.theory.specs.Closed.{Closed, Below}

-- the nodes of its term, and a list that means its type
pub record Row : Type 0 where
  pub term : List TermNode
  pub list : List TypeNode

abbrev pub row : List TermNode → List TypeNode → Row
row term list = record { term = term; list = list }

abbrev pub no_row : Row
no_row = row [] []

-- the nodes are those of one closed term, whose references are below k
pub record Formula (k : ℕ) (nodes : List TermNode) : Type 0 where
  pub tree : Term
  pub code : prefix tree ≡ nodes
  pub closed : Closed 0 tree
  pub below : Below k tree

-- what may be kept as row k
pub record Proper (k : ℕ) (r : Row) : Type 0 where
  pub formula : Formula k r.term
  pub lawful : Lawful r.list
