use Rattle.std.proofs.Common.{ℕ, Result, subst}
use Rattle.ledger.specs.Calls.{withdraw}
use Rattle.book.specs.declared.fault.BookFault.{BookFault}
use Rattle.book.specs.History.{Link}
use Rattle.book.specs.Replies.{reply_withdraw}
use Rattle.book_desk.proofs.Staying.{withdrawal_refused, withdrawal_errs}
use Rattle.book_desk.proofs.opened.refused_withdrawal.Goals as goal

pub unwrap_err-requires : goal.unwrap_err-requires
unwrap_err-requires g c = withdrawal_errs g.C.Catalogue.entries c.requires _ c.withdraw.ensures.done.link

pub returns-clause-refusal : goal.returns-clause-refusal
returns-clause-refusal g c =
    let entries = g.C.Catalogue.entries in
    (withdrawal_refused entries c.requires (subst (λ (r : Result ℕ BookFault). Link entries c.args.book.now withdraw (reply_withdraw r) c.withdraw.new.self) c.unwrap_err.ensures c.withdraw.ensures.done.link)).0
