-- The end of a line, from where the first byte 10 stands behind a place.
use Rattle.std.proofs.Common.{◌≡◌, ℕ, ◌+◌, ◌-◌, ◌≤◌, ◌==◌, Bool, List, length, get_or, drop, true, false, Option, not, take, ap, ◌∙◌, sym, subst, arith, length-drop}
use Rattle.std.specs.List.{position, position_or_len}
use Rattle.std.specs.Option.{unwrap_or}
use Rattle.std.proofs.lemmas.Bool.{eqb-true, not-false}
use Rattle.std.proofs.lemmas.Grind.{common_steps}
use Rattle.std.proofs.lemmas.List.{get_or-drop, take_all}
use Rattle.std.proofs.lemmas.List.Sums.{prefix_len_passes, prefix_len_stops, prefix_len-le-length}
use Rattle.cutting.specs.Lines.{EndsAt}

-- the place of the first byte 10, or the end
abbrev first : List ℕ → ℕ
first bytes = position_or_len (λ b. b == 10) bytes

abbrev other : ℕ → Bool
other b = not (b == 10)

first_is : (bytes : List ℕ) → unwrap_or (position (λ b. b == 10) bytes) (length bytes) ≡ first bytes
first_is bytes = grind (arith, common_steps, prefix_len-le-length other bytes)

-- where it stands in the rest of the input from a place on
pub ends_there : (input : List ℕ) (from : ℕ) (found : Option ℕ) (n : ℕ) → from ≤ length input → found ≡ position (λ b. b == 10) (take (length input - from) (drop from input)) → n ≡ unwrap_or found (length (take (length input - from) (drop from input))) → EndsAt input from (from + n)
ends_there input from found n h f e =
    let rest = drop from input in
    let size = length-drop from input in
    let cut : List ℕ = take (length input - from) rest in
    let all : cut ≡ rest = take_all (length input - from) rest (omega arith) in
    let is : n ≡ first rest = e ∙ ap (λ (o : Option ℕ). unwrap_or o (length cut)) f ∙ first_is cut ∙ ap first all in
    let within = prefix_len-le-length other rest in
    record {
      reached = omega arith;
      within = omega arith;
      before = λ k reached t ten.
          (let passes = prefix_len_passes other rest (k - from) 0 (omega arith) in
          let here : get_or rest (k - from) 0 ≡ 10 = get_or-drop from input (k - from) 0 ∙ ap (λ (i : ℕ). get_or input i 0) (omega arith) ∙ ten in
          let no : false ≡ true = subst (λ (b : ℕ). other b ≡ true) here passes in cc);
      here = λ lt.
          (let stops = prefix_len_stops other rest 0 (omega arith) in
          let found = eqb-true _ _ (not-false _ stops) in
          sym (ap (λ (i : ℕ). get_or input (from + i) 0) (sym is)) ∙ sym (get_or-drop from input (first rest) 0) ∙ found);
    }
