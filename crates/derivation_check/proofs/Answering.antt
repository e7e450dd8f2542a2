-- The answers of the check, from the answers to its questions.
use Rattle.std.proofs.Common.{◌≡◌, ℕ, ◌<◌, ◌≤◌, ◌≢◌, ◌⊎◌, Bool, true, false, eqb, List, length, slice_index, ap, Some, None, Option, MatchOption, sym, ◌∙◌, subst, subst₂, inl, inr, arith}
use Rattle.std.proofs.lemmas.Bool.{eqb-true, eqb-false}
use Rattle.refusal.specs.Saying.{saying}
use Rattle.refusal.specs.declared.Layer.TheVariants as layer
use Rattle.types.specs.Types.{Ty}
use Rattle.types.specs.Lists.{Lawful}
use Rattle.types.specs.declared.TypeNode.{TypeNode}
use Rattle.term.specs.declared.TermNode.{TermNode}
use Rattle.instance.specs.Once.{Once}
use Rattle.copy.specs.Instances.{Lists}
use Rattle.derivation_check.specs.Steps.{Step, Steps}
use Rattle.derivation_check.specs.Checking.{types, Placed, FirstFails, Judged, NoTyping, Checked, Refuses, wrong_length, unlawful, equal, misplaced, no_step}
use Rattle.derivation_check.specs.Arrows.{type_of}
use Rattle.derivation_check.specs.declared.node_types.NodeTypes.{NodeTypes}
use Rattle.derivation_check.proofs.Typings.{steps_are_typings}

-- the steps of a failing node are missing in each typing
no_typing : (E K : Lists) (ts : List TermNode) (T : ℕ → Ty) (k : ℕ) → FirstFails E K ts T k → NoTyping E K ts T
no_typing E K ts T k fails t is typing =
    let steps : Steps E K ts T (length ts) = subst (λ (us : List TermNode). Steps E K us T (length us)) is ((steps_are_typings E K t T).1 typing) in
    fails.fails (steps k fails.inside)

-- the answer of a search for the first node without its step
pub judged : (E K : Lists) (ts : List TermNode) (T : ℕ → Ty) (r : Option ℕ) → MatchOption r ((k : ℕ) → 0 ≤ k → k < length ts → Step E K ts T k) (λ i. (0 ≤ i) × (i < length ts) × (Step E K ts T i → ⊥) × ((k : ℕ) → 0 ≤ k → k < i → Step E K ts T k)) → Judged E K ts T r
judged E K ts T None all = λ k h. all k (omega arith) h
judged E K ts T (Some i) found = record { inside = found.1; before = λ k h. found.3 k (omega arith) h; fails = found.2 }

module _ (E K : Lists) (ts : List TermNode) (l : List TypeNode) (ps : List ℕ) where
  pub refused_length : (b : Bool) → b ≡ eqb (length l) 0 → (b ≡ true) ⊎ ((b ≡ false) × (4096 < length l)) → Refuses E K ts l ps (saying 80 layer.Book 0)
  refused_length b is (inl none) = let z = eqb-true (length l) 0 (sym is ∙ none) in wrong_length (λ sized. absurd (omega (arith, sized.some)))
  refused_length b is (inr many) = wrong_length (λ sized. absurd (omega (arith, sized.few, many.1)))

  pub refused_unlawful : (b : Bool) → b ≡ eqb (length l) 0 → b ≡ false → length l ≤ 4096 → (Lawful l → ⊥) → Refuses E K ts l ps (saying 81 layer.Book 0)
  refused_unlawful b is some few not =
      let not_none : length l ≢ 0 = eqb-false (length l) 0 (sym is ∙ some) in
      unlawful (record { some = omega arith; few = few }) (λ each. not (record { some = omega arith; few = few; each = each }))

  pub refused_equal : Lawful l → (Once l → ⊥) → Refuses E K ts l ps (saying 82 layer.Book 0)
  refused_equal lawful not = equal lawful not

  pub refused_places : (n : ℕ) → length ts ≡ n → Lawful l → Once l → (Placed ps n (length l) → ⊥) → Refuses E K ts l ps (saying 83 layer.Book 0)
  refused_places n count lawful once not = misplaced lawful once (λ placed. not (subst (λ (m : ℕ). Placed ps m (length l)) count placed))

module _ (E K : Lists) (ts : List TermNode) (l : List TypeNode) (ps : List ℕ) (t : NodeTypes) (is : (t.list.now ≡ l) × (t.places.now ≡ ps) × (length ps ≡ length ts)) where
  lawful : Lawful l
  lawful = subst Lawful is.0 t.lawful

  once : Once l
  once = subst (λ (m : List TypeNode). Once m) is.0 t.once

  placed : Placed ps (length ts) (length l)
  placed = record { count = is.2; inside = λ i h. subst₂ (λ (m : List TypeNode) (qs : List ℕ). slice_index qs i < length m) is.0 is.1 (t.inside i (omega (arith, h, ap length is.1))) }

  same : (P : (ℕ → Ty) → Type 0) → P (type_of t) → P (types l ps)
  same P p = subst₂ (λ (m : List TypeNode) (qs : List ℕ). P (types m qs)) is.0 is.1 p

  pub refused_step : (k : ℕ) → FirstFails E K ts (type_of t) k → Refuses E K ts l ps (saying 84 layer.Book k)
  refused_step k fails =
      let f : FirstFails E K ts (types l ps) k = same (λ T. FirstFails E K ts T k) fails in
      no_step lawful once placed f (no_typing E K ts (types l ps) k f)

  pub checked : Steps E K ts (type_of t) (length ts) → Checked E K ts l ps
  checked steps =
      let s : Steps E K ts (types l ps) (length ts) = same (λ T. Steps E K ts T (length ts)) steps in
      record {
        lawful = lawful;
        once = once;
        placed = placed;
        steps = s;
        typing = λ u e. (steps_are_typings E K u (types l ps)).0 (subst (λ (us : List TermNode). Steps E K us (types l ps) (length us)) (sym e) s);
      }
