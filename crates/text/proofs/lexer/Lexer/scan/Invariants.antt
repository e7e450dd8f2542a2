use Rattle.std.proofs.Common.{◌-◌, ◌≤◌, List, length, drop}
use Rattle.text.specs.Tokens.{Token, Scans}
use Rattle.text.proofs.lexer.Lexer.scan.Given as goal

abbrev pub invariant-loop-found : goal.invariant-loop-found
invariant-loop-found l =
    (l.at ≤ length l.self.text.now) × ((ts : List Token) × Scans 0 l.self.text.now ts l.at (drop l.at l.self.text.now))

abbrev pub decreases-loop-found : goal.decreases-loop-found
decreases-loop-found l = length l.self.text.now - l.at
