use Rattle.std.proofs.Common.{ℕ, List, length, subst, rules}
use Rattle.ledger.specs.Calls.{submit}
use Rattle.book.specs.Dealing.{submits, files, dismisses, withdraws, shows, lines, derives, checks, reply_of}
use Rattle.book.specs.History.{Link}
use Rattle.book.proofs.Dealt.{carries}
use Rattle.book.proofs.book.Book.carry_out.Goals as goal

pub returns-in-Submit : goal.returns-in-Submit
returns-in-Submit g c =
    let entries = g.C.Catalogue.entries in
    let b = c.args.self.now in
    let link = subst (λ (t : List ℕ). Link entries b (submit (record { text = t; terms = length c.args.terms.now; types = length c.args.types.now; numbers = length c.args.numbers.now })) (reply_of c.submit_text.result) c.submit_text.new.self) c.part.ensures c.submit_text.ensures in
    carries entries b _ _ _ c.args.dealing _ _ c.in-Submit.is submits link

pub returns-in-File : goal.returns-in-File
returns-in-File g c = carries _ _ _ _ _ c.args.dealing _ _ c.in-File.is files c.file_candidate.ensures

pub returns-in-Dismiss : goal.returns-in-Dismiss
returns-in-Dismiss g c = carries _ _ _ _ _ c.args.dealing _ _ c.in-Dismiss.is dismisses c.dismiss_candidate.ensures

pub returns-in-Withdraw : goal.returns-in-Withdraw
returns-in-Withdraw g c = carries _ _ _ _ _ c.args.dealing _ _ c.in-Withdraw.is withdraws (search rules)

pub returns-in-Show : goal.returns-in-Show
returns-in-Show g c = carries _ _ _ _ _ c.args.dealing _ _ c.in-Show.is shows (search rules)

pub returns-in-Line : goal.returns-in-Line
returns-in-Line g c = carries _ _ _ _ _ c.args.dealing _ _ c.in-Line.is lines (search rules)

pub returns-in-Derive : goal.returns-in-Derive
returns-in-Derive g c = carries _ _ _ _ _ c.args.dealing _ _ c.in-Derive.is derives (search rules)

pub returns-in-Check : goal.returns-in-Check
returns-in-Check g c = carries _ _ _ _ _ c.args.dealing _ _ c.in-Check.is (checks {list = c.front.result.now} {places = c.front-in-Check.result.now}) (search rules)
