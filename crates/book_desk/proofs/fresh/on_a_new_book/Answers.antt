use Rattle.std.proofs.Common.{rules}
use Rattle.book_desk.proofs.fresh.on_a_new_book.Goals as goal

pub returns : goal.returns
returns g c = (c.new-book.result, c.trial-done.new.arg2, c.new-book.ensures.every, search rules)
