use Rattle.std.proofs.Common.{drop, ap, ◌∙◌, ◌+◌, rules}
use Rattle.text.specs.Bytes.{in_name}
use Rattle.text.proofs.Spaces.{lead_is}
use Rattle.text.proofs.lexer.Lexer.run_end.Goals as goal

pub returns-clause-whole : goal.returns-clause-whole
returns-clause-whole c = c.run.ensures.counts in_name (λ k b p. search rules) ∙ ap (λ n. c.args.from + n) (lead_is (drop c.args.from c.args.self.now.text.now))
