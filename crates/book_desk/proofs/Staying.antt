-- A book with an open candidate refuses a submit and a withdrawal, and is left as it was.
use Rattle.std.proofs.Common.{◌≡◌, ℕ, true, List, Some, None, Option, Ok, Err, Result, IsErr, sym, refl, ap, ◌∙◌, subst, arith}
use Rattle.refusal.specs.Saying.{saying}
use Rattle.refusal.specs.declared.Layer.TheVariants as layer
use Rattle.refusal.specs.declared.Refusal.{Refusal}
use Rattle.catalogue.specs.Entries.{Entry}
use Rattle.table.specs.View.{view, is_held}
use Rattle.ledger.specs.Ledger.{Row}
use Rattle.ledger.specs.Fed.{AllKept}
use Rattle.ledger.specs.Calls.{Call, Reply, Submission, submit, withdraw, refused, opened, filed, dismissed, withdrawn, shown, lined, derived, passed}
use Rattle.ledger.specs.Submitting.{busy}
use Rattle.ledger.specs.Steps.{Step, unsubmitted, candidate_open}
use Rattle.ledger.proofs.Deterministic.{step_is_one}
use Rattle.book.specs.declared.book.Book.{Book}
use Rattle.book.specs.declared.fault.BookFault.{BookFault}
use Rattle.book.specs.declared.ticket.Ticket.{Ticket}
use Rattle.book.specs.Replies.{reply_submit, reply_withdraw}
use Rattle.book.specs.Standing.{Stands, shown_if}
use Rattle.book.specs.Standing as standing
use Rattle.book.specs.History.{Link, EveryRun, start, next}
use Rattle.book_desk.specs.Represented.{Represented, Open}

-- some row is held
record Held (o : Option Row) : Type 0 where
  row : Row
  is : o ≡ Some row

held_one : (o : Option Row) → is_held (shown_if o) ≡ true → Held o
held_one (Some r) h = record { row = r; is = refl }
held_one None h = let y : ◌≡◌ {A = ℕ} 0 1 = cc in absurd (omega arith)

-- the refusal in a reply, of number 0 where it is none
abbrev refusal_in : Reply → Refusal
refusal_in (refused r) = r
refusal_in (opened n) = saying 0 layer.Book 0
refusal_in (filed n) = saying 0 layer.Book 0
refusal_in dismissed = saying 0 layer.Book 0
refusal_in (withdrawn n) = saying 0 layer.Book 0
refusal_in (shown n) = saying 0 layer.Book 0
refusal_in (lined n) = saying 0 layer.Book 0
refusal_in (derived n) = saying 0 layer.Book 0
refusal_in passed = saying 0 layer.Book 0

module _ {C : Type 0} (entries : C → List Entry) where
  -- what a new book comes to by one call stands for a ledger
  pub represented_after : {b₀ b : Book C} {c : Call} {r : Reply} → EveryRun entries b₀ → Link entries b₀ c r b → Represented entries b
  represented_after {b₀ = b₀} {b = b} every link =
      let f = every _ b (next start link) in
      record { ledger = f.ledger; stands = record { shows = f.shows; kept = subst (λ es. AllKept es f.ledger) (sym f.same) f.kept } }

  module _ {b : Book C} (o : Open entries b) where
    held_row : Held o.represented.ledger.candidate
    held_row = held_one o.represented.ledger.candidate (sym (ap (λ v. is_held v.candidate) o.represented.stands.shows) ∙ o.candidate)

    -- a call that the ledger answers without a change is so answered by the book, which stays as it was
    stays : {b' : Book C} {c : Call} {r s : Reply} → Step (entries b.catalogue) o.represented.ledger c r o.represented.ledger → Link entries b c s b' → (r ≡ s) × Open entries b'
    stays {b' = b'} {c = c} {r = r} {s = s} step link =
        let n = link.answers o.represented.ledger o.represented.stands in
        let one = step_is_one (entries b.catalogue) step n.step in
        let shows : view b'.table ≡ standing.shown o.represented.ledger = n.shows ∙ ap standing.shown (sym one.1) in (
          one.0,
          record {
            represented = record {
              ledger = o.represented.ledger;
              stands = record { shows = shows; kept = subst (λ d. AllKept (entries d) o.represented.ledger) (sym link.same) o.represented.stands.kept };
            };
            candidate = ap (λ v. is_held v.candidate) (shows ∙ sym o.represented.stands.shows) ∙ o.candidate;
          },
        )

    pub submit_refused : {b' : Book C} {s : Submission} {r : Refusal} → Link entries b (submit s) (refused r) b' → (r ≡ saying 10 layer.Book 0) × Open entries b'
    submit_refused link = let p = stays (unsubmitted (busy held_row.is)) link in (sym (ap refusal_in p.0), p.1)

    not_submitted : {b' : Book C} {s : Submission} {n : ℕ} → Link entries b (submit s) (opened n) b' → ⊥
    not_submitted link = let e = ap (λ r. (refusal_in r).number) (stays (unsubmitted (busy held_row.is)) link).0 in omega (arith, e)

    pub withdrawal_refused : {b' : Book C} {r : Refusal} → Link entries b withdraw (refused r) b' → (r ≡ saying 62 layer.Book 0) × Open entries b'
    withdrawal_refused link = let p = stays (candidate_open held_row.is) link in (sym (ap refusal_in p.0), p.1)

    not_withdrawn : {b' : Book C} {n : ℕ} → Link entries b withdraw (withdrawn n) b' → ⊥
    not_withdrawn link = let e = ap (λ r. (refusal_in r).number) (stays (candidate_open held_row.is) link).0 in omega (arith, e)

    -- and so the answers are errors
    pub submit_errs : {b' : Book C} {s : Submission} (r : Result Ticket BookFault) → Link entries b (submit s) (reply_submit r) b' → IsErr r
    submit_errs (Ok t) link = absurd (not_submitted link)
    submit_errs (Err f) link = refl

    pub withdrawal_errs : {b' : Book C} (r : Result ℕ BookFault) → Link entries b withdraw (reply_withdraw r) b' → IsErr r
    withdrawal_errs (Ok n) link = absurd (not_withdrawn link)
    withdrawal_errs (Err f) link = refl
