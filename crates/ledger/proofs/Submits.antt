-- A submit as its questions one after the other: it has one answer at most.
use Rattle.std.proofs.Common.{◌≡◌, ℕ, ◌+◌, ◌<◌, ◌≤◌, List, length, Some, None, sym, refl, ◌∙◌, arith}
use Rattle.refusal.specs.Saying.{saying}
use Rattle.refusal.specs.declared.Layer.TheVariants as layer
use Rattle.refusal.specs.declared.Refusal.{Refusal}
use Rattle.types.specs.declared.TypeNode.{TypeNode}
use Rattle.types.specs.Types.{Ty}
use Rattle.term.specs.Terms.{Term, prefix}
use Rattle.catalogue.specs.Entries.{Entry}
use Rattle.formula.specs.Reading.{Refuses}
use Rattle.normal.specs.Normal.{normal_of}
use Rattle.reading_laws.proofs.Readings.{formula_is_one, refusal_is_one, refused_or_read}
use Rattle.theory.specs.Principal.{none, Typable, Principal}
use Rattle.theory.proofs.Principals.{principal_is_one}
use Rattle.typer.specs.Questions.{numbers_for, Unserved, too_much, no_type_room, no_number_room}
use Rattle.ledger.specs.Ledger.{Row, Ledger, entered, row_of, term_nodes, type_nodes}
use Rattle.ledger.specs.Calls.{Submission, Reply, refused, opened}
use Rattle.ledger.specs.Submitting.{need_of, expansion_of, Begins, Read, Ready, Unsubmitted, busy, full, long, unread, unserved, crowded, typeless, overfull, Submitted}
use Rattle.ledger.proofs.Asking.{One, Says, Asks, denied, granted, Takes, said, one_says, one_asks, one_asked, one_takes}

-- a reply, and the ledger that it leaves
abbrev pub Answer : Type 0
Answer = Reply × Ledger

module _ (es : List Entry) (l : Ledger) (s : Submission) where
  -- the reply is this refusal, and nothing is changed
  abbrev unchanged : Refusal → Answer
  unchanged r = (refused r, l)

  abbrev accepted : Term → List TypeNode → Answer
  accepted t list = (opened (length l.rows), record { rows = l.rows; candidate = Some (row_of l.rows t list) })

  -- the normal list of a principal type of t's expansion
  pub record PrincipalList (t : Term) (list : List TypeNode) : Type 0 where
    pub type : Ty
    pub principal : Principal (entered es) (expansion_of l.rows t) type
    pub is : list ≡ normal_of type

  -- the questions put to that list, to the term, to the text, and to the ledger
  abbrev Listing : Term → List TypeNode → Answer → Type 0
  Listing t list =
      Asks (type_nodes l.rows + length list ≤ 4096) (Says (4096 < type_nodes l.rows + length list) (unchanged (saying 41 layer.Book 0)))
      (Says (Unit {0}) (accepted t list))

  abbrev Typing : Term → Answer → Type 0
  Typing t =
      Asks (Typable (entered es) (expansion_of l.rows t)) (Says (Typable (entered es) (expansion_of l.rows t) → ⊥) (unchanged (saying 40 layer.Types 0)))
      (Takes (PrincipalList t) (Listing t))

  abbrev Working : Term → Answer → Type 0
  Working t =
      let n : ℕ = need_of es l.rows t in
      let k : ℕ = length (prefix t) in
      Asks (n ≤ 4096) (Says (4096 < n) (unchanged (saying 30 layer.Types 0)))
      (Asks (n ≤ s.types) (Says (s.types < n) (unchanged (saying 31 layer.Types 0)))
      (Asks (numbers_for n k ≤ s.numbers) (Says (s.numbers < numbers_for n k) (unchanged (saying 32 layer.Types 0)))
      (Asks (term_nodes l.rows + k ≤ 4096) (Says (4096 < term_nodes l.rows + k) (unchanged (saying 33 layer.Book 0)))
      (Typing t))))

  abbrev Reading : Answer → Type 0
  Reading =
      Asks ((t : Term) × Read es l s t) (Takes (Refuses es (length l.rows) s.text s.terms) (λ r. Says (Unit {0}) (unchanged r)))
      (Takes (Read es l s) Working)

  abbrev pub Submits : Answer → Type 0
  Submits =
      Asks (l.candidate ≡ None) (Says ((r : Row) × (l.candidate ≡ Some r)) (unchanged (saying 10 layer.Book 0)))
      (Asks (length l.rows < 128) (Says (128 ≤ length l.rows) (unchanged (saying 11 layer.Book 0)))
      (Asks (length s.text ≤ 4096) (Says (4096 < length s.text) (unchanged (saying 12 layer.Book 0)))
      Reading))

  one_list : (t : Term) → One (PrincipalList t)
  one_list t a b p q = p.is ∙ (principal_is_one (entered es) none (expansion_of l.rows t) p.type q.type p.principal q.principal).2 ∙ sym q.is

  one_listing : (t : Term) (list : List TypeNode) → One (Listing t list)
  one_listing t list = one_asked (λ n y. omega arith) one_says

  one_typing : (t : Term) → One (Typing t)
  one_typing t = one_asked (λ n y. n y) (one_takes (one_list t) (one_listing t))

  one_working : (t : Term) → One (Working t)
  one_working t =
      one_asked (λ n y. omega arith)
      (one_asked (λ n y. omega arith)
      (one_asked (λ n y. omega arith)
      (one_asked (λ n y. omega arith) (one_typing t))))

  one_term : One (Read es l s)
  one_term t u p q = formula_is_one es s.text t u p.formula q.formula

  one_reading : One Reading
  one_reading =
      one_asks (λ a n y. let q = y.1 in refused_or_read es (length l.rows) s.text s.terms n.value y.0 n.given q.formula q.few q.room q.below)
      (one_takes (refusal_is_one es (length l.rows) s.text s.terms) (λ r. one_says)) (one_takes one_term one_working)

  pub one_submit : One Submits
  one_submit =
      one_asked (λ n y. let e = n.1 in let z : ◌≡◌ {A = ℕ} 0 1 = cc in omega arith)
      (one_asked (λ n y. omega arith)
      (one_asked (λ n y. omega arith) one_reading))

  -- with a yes to the questions before, the answer hangs on those that follow
  begun : {a : Answer} → Begins l s → Reading a → Submits a
  begun b h = granted b.free (granted b.few (granted b.short h))

  read : {a : Answer} {t : Term} → Read es l s t → Working t a → Submits a
  read {t = t} q h = begun q.begins (granted (t, q) (record { value = t; given = q; follows = h }))

  ready : {a : Answer} {t : Term} → Ready es l s t → Typing t a → Submits a
  ready q h = let v = q.workable.serves in read q.workable.read (granted v.few (granted v.records (granted v.enough (granted q.fits h))))

  typed : {a : Answer} {t : Term} {τ : Ty} → Ready es l s t → Principal (entered es) (expansion_of l.rows t) τ → Listing t (normal_of τ) a → Submits a
  typed {τ = τ} q p h = ready q (granted (τ, p.has) (record { value = normal_of τ; given = record { type = τ; principal = p; is = refl }; follows = h }))

  unserved_asks : {t : Term} {r : Refusal} → Unserved (need_of es l.rows t) (length (prefix t)) s.types s.numbers r → Working t (unchanged r)
  unserved_asks (too_much h) = denied (said h)
  unserved_asks (no_type_room f h) = granted f (denied (said h))
  unserved_asks (no_number_room f g h) = granted f (granted g (denied (said h)))

  -- a refused submit, and an accepted one
  pub unsubmitted_asks : {r : Refusal} → Unsubmitted es l s r → Submits (unchanged r)
  unsubmitted_asks (busy {r = r} e) = denied (said (r, e))
  unsubmitted_asks (full e h) = granted e (denied (said h))
  unsubmitted_asks (long e g h) = granted e (granted g (denied (said h)))
  unsubmitted_asks (unread {r = r} b h) = begun b (denied (record { value = r; given = h; follows = said tt }))
  unsubmitted_asks (unserved q h) = read q (unserved_asks h)
  unsubmitted_asks (crowded w h) = let v = w.serves in read w.read (granted v.few (granted v.records (granted v.enough (denied (said h)))))
  unsubmitted_asks (typeless q h) = ready q (denied (said h))
  unsubmitted_asks (overfull q p h) = typed q p (denied (said h))

  pub submitted_asks : {t : Term} {τ : Ty} → Submitted es l s t τ → Submits (accepted t (normal_of τ))
  submitted_asks h = typed h.ready h.principal (granted h.fits (said tt))
