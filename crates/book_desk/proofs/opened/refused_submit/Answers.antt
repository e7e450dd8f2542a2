use Rattle.std.proofs.Common.{Result, subst}
use Rattle.ledger.specs.Calls.{submit}
use Rattle.book.specs.declared.fault.BookFault.{BookFault}
use Rattle.book.specs.declared.ticket.Ticket.{Ticket}
use Rattle.book.specs.History.{Link}
use Rattle.book.specs.Replies.{reply_submit}
use Rattle.book.specs.Memories.{submission}
use Rattle.book_desk.proofs.Staying.{submit_refused, submit_errs}
use Rattle.book_desk.proofs.opened.refused_submit.Goals as goal

pub unwrap_err-requires : goal.unwrap_err-requires
unwrap_err-requires g c = submit_errs g.C.Catalogue.entries c.requires _ c.submit.ensures.done.link

pub returns-clause-refusal : goal.returns-clause-refusal
returns-clause-refusal g c =
    let entries = g.C.Catalogue.entries in
    let call = submit (submission c.args.text.now c.args.terms.now c.args.types.now c.args.numbers.now) in
    (submit_refused entries c.requires (subst (λ (r : Result Ticket BookFault). Link entries c.args.book.now call (reply_submit r) c.submit.new.self) c.unwrap_err.ensures c.submit.ensures.done.link)).0
