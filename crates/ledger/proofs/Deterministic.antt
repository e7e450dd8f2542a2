-- A dealing as its questions one after the other: it has one reply at most, and leaves one ledger at most.
use Rattle.std.proofs.Common.{◌≡◌, ℕ, List, [], ◌∷◌, ◌++◌, length, take, Some, None, sym, ap, ◌∙◌, ap₂, arith, length-append}
use Rattle.std.proofs.lemmas.List.{take-append-le, take_all}
use Rattle.catalogue.specs.Entries.{Entry}
use Rattle.ledger.specs.Ledger.{Row, Ledger}
use Rattle.ledger.specs.Calls.{Call, submit, file, dismiss, withdraw, show, line, derive, check, Reply, filed, dismissed, withdrawn}
use Rattle.ledger.specs.Looking.{Looks, refused_by_book}
use Rattle.ledger.specs.Steps.{Step, unsubmitted, submitted, not_filed, is_filed, not_dismissed, is_dismissed, candidate_open, nothing_filed, is_withdrawn, is_looked_at}
use Rattle.ledger.proofs.Asking.{One, Says, Asks, denied, granted, Takes, said, one_says, one_asked, one_takes}
use Rattle.ledger.proofs.Submits.{Answer, Submits, one_submit, unsubmitted_asks, submitted_asks}
use Rattle.ledger.proofs.Looked.{look_asks, one_look}

-- the rows before the last
front : (rows : List Row) (r : Row) → take (length rows) (rows ++ (r ∷ [])) ≡ rows
front rows r = take-append-le (length rows) rows (r ∷ []) (omega arith) ∙ take_all (length rows) rows (omega arith)

module _ (es : List Entry) (l : Ledger) where
  -- this row is the candidate; these are all rows but the last
  abbrev Held : Row → Type 0
  Held r = l.candidate ≡ Some r

  abbrev Front : List Row → Type 0
  Front rows = (r : Row) × (l.rows ≡ rows ++ (r ∷ []))

  abbrev refusing : ℕ → Answer
  refusing n = (refused_by_book n, l)

  abbrev Looking : Call → Answer → Type 0
  Looking c = Takes (Looks es l c) (λ r. Says (Unit {0}) (r, l))

  abbrev Steps : Call → Answer → Type 0
  Steps (submit s) a = Submits es l s a
  Steps file a =
      Asks ((r : Row) × Held r) (Says (l.candidate ≡ None) (refusing 60))
      (Takes Held (λ r. Says (Unit {0}) (filed (length l.rows), record { rows = l.rows ++ (r ∷ []); candidate = None }))) a
  Steps dismiss a =
      Asks ((r : Row) × Held r) (Says (l.candidate ≡ None) (refusing 60))
      (Says (Unit {0}) (dismissed, record { rows = l.rows; candidate = None })) a
  Steps withdraw a =
      Asks (l.candidate ≡ None) (Says ((r : Row) × Held r) (refusing 62))
      (Asks ((rows : List Row) × Front rows) (Says (l.rows ≡ []) (refusing 63))
      (Takes Front (λ rows. Says (Unit {0}) (withdrawn (length rows), record { rows = rows; candidate = None })))) a
  Steps (show n room) a = Looking (show n room) a
  Steps (line o room) a = Looking (line o room) a
  Steps (derive n types places numbers) a = Looking (derive n types places numbers) a
  Steps (check n list places) a = Looking (check n list places) a

  -- there is a candidate, or none
  held_or_none : (r : Row) → Held r → l.candidate ≡ None → ⊥
  held_or_none r h e = let z : ◌≡◌ {A = ℕ} 0 1 = cc in omega arith

  some_or_none : (rows : List Row) → Front rows → l.rows ≡ [] → ⊥
  some_or_none rows f e = let n = ap length (sym f.1 ∙ e) in omega (arith, length-append rows (f.0 ∷ []))

  one_held : One Held
  one_held r s p q = cc

  one_front : One Front
  one_front xs ys p q =
      let e = sym p.1 ∙ q.1 in
      let n : length xs ≡ length ys = omega (arith, ap length e, length-append xs (p.0 ∷ []), length-append ys (q.0 ∷ [])) in
      sym (front xs p.0) ∙ ap₂ take n e ∙ front ys q.0

  one_looking : {c : Call} → One (Looking c)
  one_looking = one_takes (one_look es l) (λ r. one_says)

  one_step : (c : Call) → One (Steps c)
  one_step (submit s) = one_submit es l s
  one_step file = one_asked (λ n y. held_or_none y.0 y.1 n) (one_takes one_held (λ r. one_says))
  one_step dismiss = one_asked (λ n y. held_or_none y.0 y.1 n) one_says
  one_step withdraw = one_asked (λ n y. held_or_none n.0 n.1 y) (one_asked (λ n y. some_or_none y.0 y.1 n) (one_takes one_front (λ rows. one_says)))
  one_step (show n room) = one_looking
  one_step (line o room) = one_looking
  one_step (derive n types places numbers) = one_looking
  one_step (check n list places) = one_looking

  looking : (c : Call) (r : Reply) → Looks es l c r → Steps c (r, l)
  looking (submit s) r h = absurd (look_asks es l h)
  looking file r h = absurd (look_asks es l h)
  looking dismiss r h = absurd (look_asks es l h)
  looking withdraw r h = absurd (look_asks es l h)
  looking (show n room) r h = record { value = r; given = h; follows = said tt }
  looking (line o room) r h = record { value = r; given = h; follows = said tt }
  looking (derive n types places numbers) r h = record { value = r; given = h; follows = said tt }
  looking (check n list places) r h = record { value = r; given = h; follows = said tt }

  step_asks : {c : Call} {r : Reply} {m : Ledger} → Step es l c r m → Steps c (r, m)
  step_asks (unsubmitted {s = s} h) = unsubmitted_asks es l s h
  step_asks (submitted {s = s} h) = submitted_asks es l s h
  step_asks (not_filed e) = denied (said e)
  step_asks (is_filed {r = r} e) = granted (r, e) (record { value = r; given = e; follows = said tt })
  step_asks (not_dismissed e) = denied (said e)
  step_asks (is_dismissed {r = r} e) = granted (r, e) (said tt)
  step_asks (candidate_open {r = r} e) = denied (said (r, e))
  step_asks (nothing_filed e f) = granted e (denied (said f))
  step_asks (is_withdrawn rows r e f) = granted e (granted (rows, (r, f)) (record { value = rows; given = (r, f); follows = said tt }))
  step_asks (is_looked_at {c = c} {r = r} h) = looking c r h

-- one dealing with one ledger
pub step_is_one : (es : List Entry) {l : Ledger} {c : Call} {r s : Reply} {m n : Ledger} → Step es l c r m → Step es l c s n → (r ≡ s) × (m ≡ n)
step_is_one es {l = l} {c = c} {r = r} {s = s} {m = m} {n = n} p q =
    let e : ◌≡◌ {A = Answer} (r, m) (s, n) = one_step es l c (r, m) (s, n) (step_asks es l p) (step_asks es l q) in
    (ap (λ (a : Answer). a.0) e, ap (λ (a : Answer). a.1) e)
