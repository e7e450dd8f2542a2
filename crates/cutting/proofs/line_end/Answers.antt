use Rattle.cutting.proofs.Ends.{ends_there}
use Rattle.cutting.proofs.line_end.Goals as goal

pub returns : goal.returns
returns c = ends_there c.args.input.now c.args.from _ _ c.requires c.newline.ensures c.unwrap_or.ensures
