-- The text of a type, printed into the rest of a memory.
use Rattle.std.proofs.Common.{◌≡◌, ℕ, ◌+◌, ◌-◌, ◌<◌, ◌≤◌, leb, List, ◌++◌, length, take, drop, Err, codes, sym, ap, ◌∙◌, ⊎_elim, append-nil, arith}
use borrow.Rule.Slice.PartMut.{put_mid}
use Rattle.std.proofs.lemmas.List.{drop-drop, drop_all, take_rest, take-append-drop, length-drop}
use Rattle.std.proofs.lemmas.Bool.{cond-true, cond-false, le-leb, lt-leb, cases_lt}
use Rattle.types.specs.declared.TypeNode.{TypeNode}
use Rattle.types.specs.Lists.{Lawful, meaning}
use Rattle.printing.specs.Text.{text}
use Rattle.printing.specs.Writing.{over, Wrote, Printed, Shown}
use Rattle.printing.specs.declared.ShowFault.{ShowFault}
use Rattle.printing.specs.declared.ShowFault.TheVariants.{Unlawful, TooLong}
use Rattle.lines.specs.Lines.{if_short}

-- m from `at` on
module _ (m : List ℕ) (at : ℕ) where
  abbrev left : ℕ
  left = length m - at

  abbrev rest : List ℕ
  rest = take left (drop at m)

  -- what the memory holds, once its rest is `after`
  abbrev whole : List ℕ → List ℕ
  whole after = put_mid at left m after

  with_rest : (after : List ℕ) → whole after ≡ take at m ++ after
  with_rest after =
      let none = drop_all left (drop at m) (omega (arith, length-drop at m)) in
      ap (λ (x : List ℕ). take at m ++ (after ++ x)) none ∙ ap (λ (x : List ℕ). take at m ++ x) (append-nil after)

  rest_over : (s after : List ℕ) (n : ℕ) → n ≡ length s → after ≡ s ++ drop n rest → whole after ≡ over m at s
  rest_over s after n e is =
      with_rest after
      ∙ ap (λ (x : List ℕ). take at m ++ x) is
      ∙ ap (λ (x : List ℕ). take at m ++ (s ++ drop n x)) (take_rest m at)
      ∙ ap (λ (x : List ℕ). take at m ++ (s ++ x)) (drop-drop n at m ∙ ap (λ (k : ℕ). drop (at + k) m) e)

  pub rest_same : (after : List ℕ) → after ≡ rest → whole after ≡ m
  rest_same after is = with_rest after ∙ ap (λ (x : List ℕ). take at m ++ x) (is ∙ take_rest m at) ∙ take-append-drop at m

  short_is : (t : List ℕ) → length t ≤ 4096 → t ≡ if_short t
  short_is t h = sym (cond-true (leb (length t) 4096) t (codes "too long") (le-leb (length t) 4096 h))

  long_is : (t : List ℕ) → 4096 < length t → codes "too long" ≡ if_short t
  long_is t h = sym (cond-false (leb (length t) 4096) t (codes "too long") (lt-leb (length t) 4096 h))

  -- the text was printed
  pub printed : (list : List TypeNode) (after : List ℕ) (n : ℕ) → Printed list rest after n → Wrote m (whole after) at (if_short (text (meaning list))) (at + n)
  printed list after n p =
      let t = text (meaning list) in
      let is = short_is t p.prints.short in
      record {
        leaves = rest_over t after n p.answer p.leaves ∙ ap (over m at) is;
        stop = ap (λ (k : ℕ). at + k) (p.answer ∙ ap length is);
      }

  -- it was not, and there was room
  pub not_printed : (list : List TypeNode) (after : List ℕ) (f : ShowFault) → Lawful list → at + 4096 ≤ length m → Shown list rest after (Err f) → (codes "too long" ≡ if_short (text (meaning list))) × (after ≡ rest)
  not_printed list after Unlawful law room p = absurd (p.unlawful law)
  not_printed list after TooLong law room p =
      let t = text (meaning list) in
      let size : length rest ≡ left = ap length (take_rest m at) ∙ length-drop at m in
      let long : 4096 < length t = ⊎_elim (λ h. h) (λ h. absurd (p.long (record { short = h; inside = omega arith }))) (cases_lt 4096 (length t)) in
      (long_is t long, p.leaves)

  -- the other words are then written over the memory as it was
  pub words_instead : (list : List TypeNode) (after m' : List ℕ) (f : ShowFault) (r : ℕ) → Lawful list → at + 4096 ≤ length m → Shown list rest after (Err f) → Wrote (whole after) m' at (codes "too long") r → Wrote m m' at (if_short (text (meaning list))) r
  words_instead list after m' f r law room p w =
      let both = not_printed list after f law room p in
      record {
        leaves = w.leaves ∙ ap (λ (x : List ℕ). over x at (codes "too long")) (rest_same after both.1) ∙ ap (over m at) both.0;
        stop = w.stop ∙ ap (λ (x : List ℕ). at + length x) both.0;
      }
