-- Every call on a ledger is answered rightly, and two ledgers fed alike are equal.
use Rattle.std.proofs.Common.{◌≡◌, List, ◌∷◌, sym, refl, subst, ap₂}
use Rattle.catalogue.specs.Entries.{Entry, AllLawful}
use Rattle.ledger.specs.Ledger.{Ledger}
use Rattle.ledger.specs.Calls.{Call, Reply}
use Rattle.ledger.specs.Steps.{Step}
use Rattle.ledger.specs.Fed.{Fed, begun, fed, Rightly, Each, LedgersAreRight, LedgerIsOne}
use Rattle.ledger.proofs.Keeping.{step_keeps, all_kept}
use Rattle.ledger.proofs.Deterministic.{step_is_one}
use Rattle.ledger.proofs.Typeless.{typeless_exactly}

pub rightly : (es : List Entry) → AllLawful es → {cs : List Call} {rs : List Reply} {l : Ledger} → (f : Fed es cs rs l) → Each (Rightly es) f
rightly es a begun = tt
rightly es a (fed f p) = (rightly es a f, record { typeless = typeless_exactly es p; kept = step_keeps es a p (all_kept es a f) })

pub ledgers_are_right : LedgersAreRight
ledgers_are_right es a cs rs l f = (all_kept es a f, rightly es a f)

-- the replies and the ledgers of two runs
alike : {es : List Entry} {cs : List Call} {rs ss : List Reply} {l m : Ledger} → Fed es cs rs l → Fed es cs ss m → (rs ≡ ss) × (l ≡ m)
alike begun begun = (refl, refl)
alike {es = es} (fed {c = c} {r = r} f p) (fed {l' = m'} {r = s} g q) =
    let before = alike f g in
    let now = step_is_one es p (subst (λ x. Step es x c s m') (sym before.1) q) in
    (ap₂ (λ x xs. x ∷ xs) now.0 before.0, now.1)

pub ledger_is_one : LedgerIsOne
ledger_is_one es cs rs ss l m f g = alike f g
