use Rattle.walk.proofs.Whole.{one_list}
use Rattle.walk.proofs.one_list_stands.Goals as goal

pub returns : goal.returns
returns c = one_list
