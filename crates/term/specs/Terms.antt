-- Terms as trees, and as lists of nodes in prefix order.
use Rattle.std.specs.Prelude.{List, [], ◌∷◌, ◌++◌, ℕ}
use Rattle.term.specs.declared.TermNode.{TermNode}

pub data Term : Type 0 where
  variable : ℕ → Term
  abstraction : Term → Term
  application : Term → Term → Term
  primitive : ℕ → Term
  reference : ℕ → Term

abbrev pub node : ℕ → ℕ → TermNode
node kind number = record { kind = kind; number = number }

-- what a cleared memory holds
abbrev pub zero_node : TermNode
zero_node = node 0 0

-- the nodes of a term in prefix order: a whole before its parts, a function before its argument
abbrev pub prefix : Term → List TermNode
prefix (variable n) = node 0 n ∷ []
prefix (abstraction b) = node 1 0 ∷ prefix b
prefix (application f a) = node 2 0 ∷ (prefix f ++ prefix a)
prefix (primitive k) = node 3 k ∷ []
prefix (reference n) = node 4 n ∷ []
