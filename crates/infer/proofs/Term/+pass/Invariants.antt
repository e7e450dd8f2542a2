use Rattle.std.proofs.Common.{◌-◌, length}
use Rattle.infer.proofs.Term.+pass.Given as goal

abbrev pub decreases-pass : goal.decreases-pass
decreases-pass g l = length l.self.now.nodes.now - l.at
