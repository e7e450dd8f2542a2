-- A submit is answered as by the ledger.
use Rattle.std.proofs.Common.{◌≡◌, ℕ, Bool, true, false, List, length, replicate, Some, sym, ap, subst, ap₂}
use Rattle.refusal.specs.declared.Refusal.{Refusal}
use Rattle.types.specs.declared.TypeNode.{TypeNode}
use Rattle.types.specs.Lists.{zero_node as no_type_node}
use Rattle.term.specs.declared.TermNode.{TermNode}
use Rattle.term.specs.Terms.{zero_node as no_term_node}
use Rattle.catalogue.specs.Entries.{Entry}
use Rattle.normal.specs.Normal.{normal_of}
use Rattle.table.specs.Rows as table
use Rattle.table.specs.View.{View, with_candidate}
use Rattle.ledger.specs.Ledger.{Ledger, row_of}
use Rattle.ledger.specs.Calls as calls
use Rattle.ledger.specs.Steps.{Step, unsubmitted, submitted}
use Rattle.ledger.specs.Submitting.{Unsubmitted}
use Rattle.book.specs.Standing.{Stands, Answers}
use Rattle.book.specs.Memories.{Leaves}
use Rattle.book.specs.Judging.{Found}
use Rattle.book.proofs.Standing.{count_is}

module _ (es : List Entry) (v : View) (s : calls.Submission) where
  pub submit_refused : (r : Refusal) → ((l : Ledger) → Stands es v l → Unsubmitted es l s r) → Answers es v (calls.submit s) (calls.refused r) v
  submit_refused r no-use l st = record { ledger = l; step = unsubmitted (no-use l st); shows = st.shows }

  pub submit_opens : (ts : List TermNode) (list : List TypeNode) → ((l : Ledger) → Stands es v l → Found es l s ts list) → Answers es v (calls.submit s) (calls.opened (length v.rows)) (with_candidate v (table.row ts list))
  submit_opens ts list finds l st =
      let f = finds l st in
      let after : Ledger = record { rows = l.rows; candidate = Some (row_of l.rows f.term (normal_of f.type)) } in
      record {
        ledger = after;
        step = subst (λ (n : ℕ). Step es l (calls.submit s) (calls.opened n) after) (sym (count_is v l st.shows)) (submitted f.submitted);
        shows = ap₂ (λ (rs : List table.Row) (r : table.Row). record { rows = rs; candidate = Some r }) (ap (λ (w : View). w.rows) st.shows) (ap₂ table.row f.nodes f.records);
      }

-- memories filled with zeros, or not touched
module _ (terms terms' : List TermNode) (types types' : List TypeNode) (numbers numbers' : List ℕ) where
  pub zeroed : (touched : Bool) → touched ≡ false → terms' ≡ replicate (length terms) no_term_node → types' ≡ replicate (length types) no_type_node → numbers' ≡ replicate (length numbers) 0 → Leaves touched terms terms' types types' numbers numbers'
  zeroed touched e a b c = subst (λ (x : Bool). Leaves x terms terms' types types' numbers numbers') (sym e) (record { terms_left = a; types_left = b; numbers_left = c })

  pub unchanged : (touched : Bool) → touched ≡ true → terms' ≡ terms → types' ≡ types → numbers' ≡ numbers → Leaves touched terms terms' types types' numbers numbers'
  unchanged touched e a b c = subst (λ (x : Bool). Leaves x terms terms' types types' numbers numbers') (sym e) (record { terms_left = a; types_left = b; numbers_left = c })
