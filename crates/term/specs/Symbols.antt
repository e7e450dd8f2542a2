-- What the records of term nodes say, by their kinds.
use Rattle.std.specs.Prelude.{ℕ, zero, suc, Option, Some, None}
use Rattle.term.specs.declared.TermNode.{TermNode}
use Rattle.term.specs.declared.Symbol.{Symbol}
use Rattle.term.specs.declared.Symbol.TheVariants.{Variable, Abstraction, Application, Primitive, Reference}
use Rattle.term.specs.Terms.{node}

-- kind 0 is a variable, 1 an abstraction, 2 an application, 3 a primitive, 4 a reference; another kind says nothing
abbrev pub of_kind : ℕ → ℕ → Option Symbol
of_kind zero number = Some (Variable number)
of_kind (suc zero) number = Some Abstraction
of_kind (suc (suc zero)) number = Some Application
of_kind (suc (suc (suc zero))) number = Some (Primitive number)
of_kind (suc (suc (suc (suc zero)))) number = Some (Reference number)
of_kind (suc (suc (suc (suc (suc k))))) number = None

abbrev pub symbol_of : TermNode → Option Symbol
symbol_of n = of_kind n.kind n.number

-- the node that says it
abbrev pub node_of : Symbol → TermNode
node_of (Variable number) = node 0 number
node_of Abstraction = node 1 0
node_of Application = node 2 0
node_of (Primitive number) = node 3 number
node_of (Reference number) = node 4 number
