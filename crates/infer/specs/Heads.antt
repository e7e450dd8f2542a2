-- How many graph records term nodes need.
use Rattle.std.specs.Prelude.{ℕ, ◌+◌, List, [], ◌∷◌, length, Option, Some, None}
use Rattle.term.specs.declared.TermNode.{TermNode}
use Rattle.term.specs.declared.Symbol.{Symbol}
use Rattle.term.specs.declared.Symbol.TheVariants.{Variable, Abstraction, Application, Primitive, Reference}
use Rattle.term.specs.Symbols.{symbol_of}
use Rattle.copy.specs.Instances.{Lists}

-- what a node says; a node that says nothing belongs to no term
abbrev pub head_of : TermNode → Option Symbol
head_of n = symbol_of n

-- how many graph records a node needs: two for an abstraction or an application, the list's length for a primitive or a
-- reference
abbrev pub head_need : Lists → Lists → Option Symbol → ℕ
head_need E K None = 0
head_need E K (Some (Variable n)) = 0
head_need E K (Some Abstraction) = 2
head_need E K (Some Application) = 2
head_need E K (Some (Primitive k)) = length (E k)
head_need E K (Some (Reference n)) = length (K n)

-- the need of a term, by its nodes
abbrev pub need : Lists → Lists → List TermNode → ℕ
need E K [] = 0
need E K (n ∷ ns) = head_need E K (head_of n) + need E K ns
