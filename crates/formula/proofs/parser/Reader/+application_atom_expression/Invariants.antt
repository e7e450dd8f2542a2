use Rattle.std.proofs.Common.{◌≡◌, ◌+◌, ◌-◌, ◌*◌, List, length}
use Rattle.grammar.specs.Grammar.{application}
use Rattle.term.specs.declared.TermNode.{TermNode}
use Rattle.formula.specs.Parsing.{names_in, Advance, Covered, InRoom}
use Rattle.formula.proofs.parser.Reader.+application_atom_expression.Given as goal

abbrev pub decreases-application : goal.decreases-application
decreases-application g l = 3 * (length l.self.now.lexer.text.now - l.from) + 1

abbrev pub decreases-atom : goal.decreases-atom
decreases-atom g l = 3 * (length l.self.now.lexer.text.now - l.from)

abbrev pub decreases-expression : goal.decreases-expression
decreases-expression g l = 3 * (length l.self.now.lexer.text.now - l.from) + 2

-- what was covered where the loop began, over any memory, is covered as far as the loop has come
abbrev pub invariant-application-atoms : goal.invariant-application-atoms
invariant-application-atoms g l =
    Advance l.self.lexer.text.now l.from l.reach
    × ((o : List TermNode) → length o ≡ length l.initial.out
    → InRoom (length o) (Covered application l.self.lexer.text.now (g.C.Catalogue.entries l.self.catalogue.now) l.self.filed (names_in l.scope) o l.initial.out l.from) l.initial.reach
    → InRoom (length o) (Covered application l.self.lexer.text.now (g.C.Catalogue.entries l.self.catalogue.now) l.self.filed (names_in l.scope) o l.out l.from) l.reach)

abbrev pub decreases-application-atoms : goal.decreases-application-atoms
decreases-application-atoms g l = length l.self.lexer.text.now - l.reach.end
