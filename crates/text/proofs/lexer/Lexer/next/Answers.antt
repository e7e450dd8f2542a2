use Rattle.std.proofs.Common.{◌≡◌, ℕ, ◌<◌, List, [], length, drop, Option, Some, Result, Ok, Err, MatchResult, sym, subst, arith}
use Rattle.std.specs.Result.{IsOkAnd}
use Rattle.text.specs.Tokens.{Scans, Stray}
use Rattle.text.specs.Lexing.{Next, Passed, Starts}
use Rattle.text.specs.declared.fault.TextFault.{TextFault}
use Rattle.text.specs.declared.fault.TextFault.TheVariants as fault
use Rattle.text.specs.declared.token.Lexeme.{Lexeme}
use Rattle.text.proofs.Scanning.{join_found}
use Rattle.text.proofs.lexer.Lexer.next.Goals as goal

-- a token found, as the next one
found : (text : List ℕ) (o p : ℕ) (r : Result Lexeme TextFault) (m : Result (Option Lexeme) TextFault) → p < length text → Passed text o p → Starts text p r → MatchResult r (λ x. IsOkAnd m (λ s. s ≡ Some x)) (λ e. m ≡ Err e) → Next text o m
found text o p (Ok x) (Ok s) h a f e = rw e (join_found text o p x a f)
found text o p (Ok x) (Err q) h a f e = absurd e
found text o p (Err (fault.Stray q)) m h a f e = rw e (record { before = subst (λ k. Scans o (drop o text) [] k (drop k text)) (sym f.0) a.scans; within = omega (arith, f.0); stray = subst (λ k. Stray (drop k text)) (sym f.0) f.1 })
found text o p (Err (fault.Misplaced q)) m h a f e = absurd f

pub returns : goal.returns
returns c = found _ _ _ _ _ (omega (arith, c.pass_spaces-at.ensures.within, c.if-at-self.false)) c.pass_spaces-at.ensures c.token_at.ensures c.map.ensures.cases
