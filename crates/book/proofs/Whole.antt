-- Every run of a new book is faithful to the ledger that its calls feed.
use Rattle.std.proofs.Common.{◌≡◌, List, sym, refl, ap, ◌∙◌, subst}
use Rattle.catalogue.specs.Entries.{Entry, AllLawful}
use Rattle.table.specs.View.{View, view, empty}
use Rattle.ledger.specs.Ledger.{Ledger, new_ledger}
use Rattle.ledger.specs.Calls.{Call, Reply}
use Rattle.ledger.specs.Fed.{Fed, begun, fed}
use Rattle.ledger.proofs.Keeping.{all_kept}
use Rattle.ledger.proofs.Right.{rightly, ledger_is_one}
use Rattle.book.specs.declared.book.Book.{Book}
use Rattle.book.specs.Standing.{shown, Answers}
use Rattle.book.specs.History.{Link, Deal, Run, start, next, calls, replies, EveryRun, Does}

-- the ledger that a history has fed, and that the rows are its
record Traced (es : List Entry) (h : List Deal) (v : View) : Type 0 where
  ledger : Ledger
  fed_it : Fed es (calls h) (replies h) ledger
  shows : v ≡ shown ledger

module _ {C : Type 0} (entries : C → List Entry) (lawful : (c : C) → AllLawful (entries c)) (b₀ : Book C) (new : view b₀.table ≡ empty) where
  catalogue_stays : {h : List Deal} {b : Book C} → Run entries b₀ h b → b.catalogue ≡ b₀.catalogue
  catalogue_stays start = refl
  catalogue_stays (next run link) = link.same ∙ catalogue_stays run

  traced : {h : List Deal} {b : Book C} → Run entries b₀ h b → Traced (entries b₀.catalogue) h (view b.table)
  traced start = record { ledger = new_ledger; fed_it = begun; shows = new }
  traced (next {b = b} {b' = b'} {c = c} {r = r} run link) =
      let before = traced run in
      let answers = subst (λ (d : C). Answers (entries d) (view b.table) c r (view b'.table)) (catalogue_stays run) link.answers in
      let n = answers before.ledger (record { shows = before.shows; kept = all_kept (entries b₀.catalogue) (lawful b₀.catalogue) before.fed_it }) in
      record { ledger = n.ledger; fed_it = fed before.fed_it n.step; shows = n.shows }

  pub every_run : EveryRun entries b₀
  every_run h b run =
      let t = traced run in
      let es = entries b₀.catalogue in
      record {
        same = ap entries (catalogue_stays run);
        ledger = t.ledger;
        fed = t.fed_it;
        shows = t.shows;
        rightly = rightly es (lawful b₀.catalogue) t.fed_it;
        kept = all_kept es (lawful b₀.catalogue) t.fed_it;
        only = λ rs l f. ledger_is_one es (calls h) rs (replies h) l t.ledger f t.fed_it;
      }

pub does : {C : Type 0} (entries : C → List Entry) (lawful : (c : C) → AllLawful (entries c)) {b b' : Book C} {c : Call} {r : Reply} → Link entries b c r b' → Does entries b c r b'
does entries lawful link = record { link = link; whole = λ b₀ h new run. every_run entries lawful b₀ new _ _ (next run link) }

-- a call whose answer is right, and after which the rows are w
pub deals : {C : Type 0} (entries : C → List Entry) (lawful : (c : C) → AllLawful (entries c)) (b b' : Book C) {c : Call} {r : Reply} (w : View) → b'.catalogue ≡ b.catalogue → view b'.table ≡ w → Answers (entries b.catalogue) (view b.table) c r w → Does entries b c r b'
deals entries lawful b b' {c = c} {r = r} w same is answers = does entries lawful (record { same = same; answers = subst (Answers (entries b.catalogue) (view b.table) c r) (sym is) answers })
