-- Derivations are answered as by the ledger.
use Rattle.std.proofs.Common.{◌≡◌, ℕ, ◌<◌, ◌≤◌, List, [], length, refl, ap, ◌∙◌, subst, arith}
use Rattle.std.proofs.lemmas.List.{length-map, get_or-map}
use Rattle.refusal.specs.declared.Refusal.{Refusal}
use Rattle.types.specs.declared.TypeNode.{TypeNode}
use Rattle.types.specs.Lists.{meaning}
use Rattle.term.specs.declared.TermNode.{TermNode}
use Rattle.term.specs.Terms.{Term, prefix, reference}
use Rattle.catalogue.specs.Entries.{Entry}
use Rattle.copy.specs.Instances.{Lists}
use Rattle.infer.specs.Heads.{need}
use Rattle.infer.specs.Typing.{HasType}
use Rattle.theory.specs.Expansion.{row}
use Rattle.theory.specs.Principal.{none, KeptRow}
use Rattle.theory.proofs.Expansions.{below_more}
use Rattle.theory.proofs.Kept.{types_of_expansions}
use Rattle.typer.specs.Answers.{NoTypes}
use Rattle.typer.specs.Derivations.{Holds, Roomless, Derived, DerivedNodes, Underived}
use Rattle.typer.specs.Derivations as typer
use Rattle.table.specs.Rows as table
use Rattle.table.specs.View.{View, kept_row}
use Rattle.ledger.specs.Ledger.{Row, Ledger, entered, kept, expansions, row_at, no_row}
use Rattle.ledger.specs.Calls as calls
use Rattle.ledger.specs.Fed.{AllKept, Expanded}
use Rattle.ledger.proofs.Expanding.{rows_expanded}
use Rattle.ledger.specs.Looking.{refused_by_book, not_derived, roomless, is_derived}
use Rattle.ledger.specs.Submitting.{expansion_of}
use Rattle.book.specs.Standing.{Stands, Answers}
use Rattle.book.specs.Memories.{kept_lists}
use Rattle.book.proofs.Standing.{count_is, filed_row_is, lists_are}
use Rattle.book.proofs.Looks.{looked}

-- a filed formula has a type by instances of the kept types: the one that is kept for it
module _ (es : List Entry) (l : Ledger) (k : AllKept es l) (n : ℕ) (h : n < length l.rows) where
  row_typed : NoTypes (entered es) (kept l.rows) (prefix (row_at l.rows n).term) → ⊥
  row_typed none-of-it =
      let rows = l.rows in
      let all = length-map rows (λ (r : Row). r.expansion) in
      let e : Expanded rows n = rows_expanded rows l.candidate k.expanded n h in
      let q : KeptRow (entered es) (row (expansions rows) n) (kept rows n) = k.rows n (omega arith) in
      let t : Term = (row_at rows n).term in
      let same : row (expansions rows) n ≡ expansion_of rows t = get_or-map (λ (r : Row). r.expansion) rows n no_row (reference n) h ∙ e.is in
      let typed : HasType (entered es) none [] (expansion_of rows t) (meaning (kept rows n)) = subst (λ (u : Term). HasType (entered es) none [] u (meaning (kept rows n))) same q.principal.has in
      none-of-it t refl (meaning (kept rows n)) ((types_of_expansions (entered es) (expansions rows) (kept rows) k.rows [] t (meaning (kept rows n)) (below_more t n (length (expansions rows)) (omega arith) e.below)).1 typed)

module _ (es : List Entry) (v : View) (n : ℕ) where
  pub derive_none : (types places numbers : ℕ) → length v.rows ≤ n → Answers es v (calls.derive n types places numbers) (refused_by_book 70) v
  derive_none types places numbers h l s = looked es v l s (not_derived (omega (arith, count_is v l s.shows)))

  module _ (ts : List TermNode) (is : ts ≡ (kept_row v n).term) (h : n < length v.rows) where
    -- what is said over the table's lists and a row's nodes, said over the ledger's
    over_ledger : (l : Ledger) → Stands es v l → (P : Lists → List TermNode → Type 0) → P (kept_lists v) ts → P (kept l.rows) (prefix (row_at l.rows n).term)
    over_ledger l s P p =
        subst (λ (K : Lists). P K (prefix (row_at l.rows n).term)) (lists_are v l s.shows)
        (subst (P (kept_lists v)) (is ∙ ap (λ (r : table.Row). r.term) (filed_row_is v l s.shows n (omega (arith, count_is v l s.shows)))) p)

    pub derive_fails : (types types' : List TypeNode) (places places' numbers numbers' : List ℕ) {r : Refusal} → Underived (entered es) (kept_lists v) ts types types' places places' numbers numbers' r → Answers es v (calls.derive n (length types) (length places) (length numbers)) (calls.refused r) v
    derive_fails types types' places places' numbers numbers' (typer.roomless {r = r} q e f g) l s =
        looked es v l s (roomless (omega (arith, count_is v l s.shows)) (over_ledger l s (λ K us. Roomless (need (entered es) K us) (length us) (length types) (length places) (length numbers) r) q))
    derive_fails types types' places places' numbers numbers' (typer.no_type q nothing e f g) l s =
        absurd (row_typed es l s.kept n (omega (arith, count_is v l s.shows)) (over_ledger l s (NoTypes (entered es)) nothing))

    pub derive_answers : (types places numbers : ℕ) (types' : List TypeNode) (places' numbers' : List ℕ) (m : ℕ) → Holds (need (entered es) (kept_lists v) ts) (length ts) types places numbers → DerivedNodes (entered es) (kept_lists v) ts types' places' numbers' m → Answers es v (calls.derive n types places numbers) (calls.derived m) v
    derive_answers types places numbers types' places' numbers' m room d l s =
        let t : Term = (row_at l.rows n).term in
        let e = over_ledger l s (λ K us. DerivedNodes (entered es) K us types' places' numbers' m) d in
        looked es v l s (is_derived (omega (arith, count_is v l s.shows)) (over_ledger l s (λ K us. Holds (need (entered es) K us) (length us) types places numbers) room)
        (record { nodes = e.derived.nodes; long = e.derived.long; principal = e.typing t refl; count = e.derived.count }))

    -- of the row's own nodes
    pub row_derived : (types' : List TypeNode) (places' numbers' : List ℕ) (m : ℕ) → Derived (entered es) (kept_lists v) ts types' places' numbers' m → Derived (entered es) (kept_lists v) (kept_row v n).term types' places' numbers' m
    row_derived types' places' numbers' m = subst (λ (us : List TermNode). Derived (entered es) (kept_lists v) us types' places' numbers' m) is

    pub row_underived : (types types' : List TypeNode) (places places' numbers numbers' : List ℕ) (r : Refusal) → Underived (entered es) (kept_lists v) ts types types' places places' numbers numbers' r → Underived (entered es) (kept_lists v) (kept_row v n).term types types' places places' numbers numbers' r
    row_underived types types' places places' numbers numbers' r = subst (λ (us : List TermNode). Underived (entered es) (kept_lists v) us types types' places places' numbers numbers' r) is
