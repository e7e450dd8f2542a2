use Rattle.std.proofs.Common.{rules}
use Rattle.text.proofs.Spaces.{is_space, passed}
use Rattle.text.proofs.lexer.Lexer.pass_spaces.Goals as goal

pub returns : goal.returns
returns c = passed _ _ _ c.requires (c.run.ensures.counts is_space (λ k b p. search rules))
