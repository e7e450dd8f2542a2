use Rattle.book_desk.proofs.Staying.{represented_after}
use Rattle.ticket_trials.proofs.opening.leave_open.Goals as goal

pub while_open-requires : goal.while_open-requires
while_open-requires g c =
    let o = c.in-Ok.ensures in
    record { represented = represented_after _ c.requires o.done.link; candidate = o.candidate }
