use Rattle.formula.specs.Parsing.{names_in}
use Rattle.formula.proofs.Scopes.{Passed}
use Rattle.formula.proofs.names.Scope.index.Given as goal

abbrev pub invariant-links : goal.invariant-links
invariant-links l = Passed (names_in l.self) (names_in l.scope) l.name l.between
