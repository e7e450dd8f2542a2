use Rattle.walk.specs.Work.{zeros}
use Rattle.walk.proofs.walking.Walk.+walk.Given as goal

abbrev pub decreases-walk : goal.decreases-walk
decreases-walk l = zeros l.self.now.marks.now
