use Rattle.std.proofs.Common.{◌+◌, ◌*◌, max}
use Rattle.printing.proofs.+push_type.Given as goal

abbrev pub decreases-push_type : goal.decreases-push_type
decreases-push_type l = 3 * l.place

abbrev pub decreases-push_arrow : goal.decreases-push_arrow
decreases-push_arrow l = 3 * max l.left l.right + 2

abbrev pub decreases-push_left : goal.decreases-push_left
decreases-push_left l = 3 * l.place + 1
