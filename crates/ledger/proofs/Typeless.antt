-- A submit is refused for want of a type exactly when its formula's expansion has none.
use Rattle.std.proofs.Common.{◌≡◌, ℕ, ◌≤◌, List, subst, arith}
use Rattle.refusal.specs.Saying.{saying}
use Rattle.refusal.specs.declared.Layer.TheVariants as layer
use Rattle.refusal.specs.declared.Refusal.{Refusal}
use Rattle.term.specs.Terms.{Term}
use Rattle.catalogue.specs.Entries.{Entry}
use Rattle.formula.specs.Reading.{Refuses, no_tokens, no_expression, too_many_nodes, no_room, unknown, not_filed}
use Rattle.theory.specs.Principal.{Typable}
use Rattle.typer.specs.Questions.{Unserved, too_much, no_type_room, no_number_room}
use Rattle.reading_laws.proofs.Readings.{formula_is_one}
use Rattle.ledger.specs.Ledger.{Ledger, entered}
use Rattle.ledger.specs.Calls.{Submission, Call, submit, Reply, refused}
use Rattle.ledger.specs.Submitting.{expansion_of, Ready, Unsubmitted, busy, full, long, unread, unserved, crowded, typeless, overfull}
use Rattle.ledger.specs.Steps.{Step, unsubmitted, submitted, is_looked_at}
use Rattle.ledger.specs.Fed.{TypelessExactly}
use Rattle.ledger.proofs.Looked.{look_asks}
use Rattle.ledger.proofs.Deterministic.{step_is_one}

-- the numbers of a text's refusals, and of memories that do not serve, are below 40
unread_number : {es : List Entry} {filed : ℕ} {text : List ℕ} {room : ℕ} {r : Refusal} → Refuses es filed text room r → r.number ≤ 25
unread_number (no_tokens h) = omega arith
unread_number (no_expression h g) = omega arith
unread_number (too_many_nodes h g) = omega arith
unread_number (no_room h g f) = omega arith
unread_number (unknown h g f e) = omega arith
unread_number (not_filed h g f e d) = omega arith

unserved_number : {n t types numbers : ℕ} {r : Refusal} → Unserved n t types numbers r → r.number ≤ 32
unserved_number (too_much h) = omega arith
unserved_number (no_type_room f h) = omega arith
unserved_number (no_number_room f g h) = omega arith

module _ (es : List Entry) (l : Ledger) (s : Submission) where
  -- a formula that has no type
  record NoType : Type 0 where
    term : Term
    ready : Ready es l s term
    none : Typable (entered es) (expansion_of l.rows term) → ⊥

  -- 40 is said of such a one only
  said_of_none : {r : Refusal} → Unsubmitted es l s r → r.number ≡ 40 → NoType
  said_of_none (busy h) e = absurd (omega arith)
  said_of_none (full h g) e = absurd (omega arith)
  said_of_none (long h g f) e = absurd (omega arith)
  said_of_none (unread b h) e = absurd (omega (arith, unread_number h))
  said_of_none (unserved q h) e = absurd (omega (arith, unserved_number h))
  said_of_none (crowded w h) e = absurd (omega arith)
  said_of_none (typeless {t = t} q h) e = record { term = t; ready = q; none = h }
  said_of_none (overfull q p h) e = absurd (omega arith)

  refused_for_none : {r : Reply} {m : Ledger} → Step es l (submit s) r m → r ≡ refused (saying 40 layer.Types 0) → NoType
  refused_for_none (unsubmitted u) e = said_of_none u (cc)
  refused_for_none (submitted h) e = let z : ◌≡◌ {A = ℕ} 0 1 = cc in absurd (omega arith)
  refused_for_none (is_looked_at h) e = absurd (look_asks es l h)

pub typeless_exactly : (es : List Entry) {l m : Ledger} {c : Call} {r : Reply} → Step es l c r m → TypelessExactly es l c r
typeless_exactly es {l = l} {m = m} {r = r} p s t e q =
    let step = subst (λ (d : Call). Step es l d r m) e p in (
      λ is.
          let n = refused_for_none es l s step is in
          let same = formula_is_one es s.text n.term t n.ready.workable.read.formula q.workable.read.formula in
          subst (λ (u : Term). Typable (entered es) (expansion_of l.rows u) → ⊥) same n.none,
      λ none. (step_is_one es step (unsubmitted (typeless q none))).0,
    )
