-- The check of a derivation as its questions one after the other: it has one reply at most.
use Rattle.std.proofs.Common.{ℕ, ◌<◌, ◌≤◌, List, length, ⊎_elim, arith}
use Rattle.std.proofs.lemmas.Bool.{cases_lt}
use Rattle.refusal.specs.Saying.{saying}
use Rattle.refusal.specs.declared.Layer.TheVariants as layer
use Rattle.refusal.specs.declared.Refusal.{Refusal}
use Rattle.types.specs.declared.TypeNode.{TypeNode}
use Rattle.types.specs.Lists.{Lawful}
use Rattle.term.specs.declared.TermNode.{TermNode}
use Rattle.derivation_check.specs.Checking.{types, Sized, EachLawful, Placed, FirstFails, Checked, Refuses, wrong_length, unlawful, equal, misplaced, no_step}
use Rattle.derivation_check.specs.Steps.{Steps}
use Rattle.copy.specs.Instances.{Lists}
use Rattle.instance.specs.Once.{Once}
use Rattle.ledger.specs.Calls.{Reply, refused, passed}
use Rattle.ledger.specs.Looking.{refused_by_book}
use Rattle.ledger.proofs.Asking.{One, Says, Asks, denied, granted, Takes, said, one_says, one_asks, one_asked, one_takes}

module _ (E K : Lists) (ts : List TermNode) (l : List TypeNode) (ps : List ℕ) where
  -- the questions put to the places, and to the list
  abbrev Stepping : Reply → Type 0
  Stepping =
      Asks (Placed ps (length ts) (length l)) (Says (Placed ps (length ts) (length l) → ⊥) (refused_by_book 83))
      (Asks (Steps E K ts (types l ps) (length ts)) (Takes (FirstFails E K ts (types l ps)) (λ k. Says (Unit {0}) (refused (saying 84 layer.Book k))))
      (Says (Unit {0}) passed))

  abbrev pub Checks : Reply → Type 0
  Checks =
      Asks (Sized l) (Says (Sized l → ⊥) (refused_by_book 80))
      (Asks (EachLawful l) (Says (EachLawful l → ⊥) (refused_by_book 81))
      (Asks (Once l) (Says (Once l → ⊥) (refused_by_book 82)) Stepping))

  -- a first node without its step is not before another one
  not_sooner : (k j : ℕ) → FirstFails E K ts (types l ps) k → FirstFails E K ts (types l ps) j → k < j → ⊥
  not_sooner k j f g h = f.fails (g.before k h)

  one_failure : One (FirstFails E K ts (types l ps))
  one_failure k j f g =
      ⊎_elim
      (λ (h : k < j). absurd (not_sooner k j f g h))
      (λ (h : j ≤ k). ⊎_elim (λ (i : j < k). absurd (not_sooner j k g f i)) (λ (i : k ≤ j). omega arith) (cases_lt j k))
      (cases_lt k j)

  one_stepping : One Stepping
  one_stepping = one_asked (λ n y. n y) (one_asks (λ a n y. n.given.fails (y n.value n.given.inside)) (one_takes one_failure (λ k. one_says)) one_says)

  pub one_check : One Checks
  one_check = one_asked (λ n y. n y) (one_asked (λ n y. n y) (one_asked (λ n y. n y) one_stepping))

  -- with a yes to the questions before, the reply hangs on those that follow
  lawful : {a : Reply} → Lawful l → Asks (Once l) (Says (Once l → ⊥) (refused_by_book 82)) Stepping a → Checks a
  lawful w h = granted (record { some = w.some; few = w.few }) (granted w.each h)

  pub refused_checks : {r : Refusal} → Refuses E K ts l ps r → Checks (refused r)
  refused_checks (wrong_length h) = denied (said h)
  refused_checks (unlawful s h) = granted s (denied (said h))
  refused_checks (equal w h) = lawful w (denied (said h))
  refused_checks (misplaced w o h) = lawful w (granted o (denied (said h)))
  refused_checks (no_step {k = k} w o p f n) = lawful w (granted o (granted p (denied (record { value = k; given = f; follows = said tt }))))

  pub passed_checks : Checked E K ts l ps → Checks passed
  passed_checks c = lawful c.lawful (granted c.once (granted c.placed (granted c.steps (said tt))))
