use Rattle.std.proofs.Common.{◌≡◌, ℕ, ◌+◌, ◌-◌, ◌*◌, ◌<◌, List, [], ◌∷◌, ◌++◌, length, get_or, take, sym, refl, ap, ◌∙◌, arith, below_more}
use Rattle.std.proofs.lemmas.List.{take_more}
use Rattle.text.specs.Words.{numeral}
use Rattle.text.proofs.ByteFacts.{digit_range}
use Rattle.text.proofs.words.number.Goals as goal

numeral_more : (v : ℕ) (w : List ℕ) (d : ℕ) → numeral v (w ++ (d ∷ [])) ≡ 10 * numeral v w + (d - 48)
numeral_more v [] d = refl
numeral_more v (x ∷ w) d = numeral_more (10 * v + (x - 48)) w d

numeral_next : (w : List ℕ) (i n d : ℕ) → i < length w → n ≡ numeral 0 (take i w) → d ≡ get_or w i 0 - 48 → 10 * n + d ≡ numeral 0 (take (i + 1) w)
numeral_next w i n d h e f = ap (λ m. 10 * m + d) e ∙ ap (λ m. 10 * numeral 0 (take i w) + m) f ∙ sym (ap (numeral 0) (take_more w i 0 h) ∙ numeral_more 0 (take i w) (get_or w i 0))

pub loop-byte-preserved : goal.loop-byte-preserved
loop-byte-preserved c =
    let inv = c.loop-byte.invariant in
    let d = c.in_ok-n.ensures in
    let r = digit_range (get_or c.args.word.now c.loop-byte.byte-index 0) d.0 in
    let i = c.loop-byte.byte-index in (
      below_more _ i inv.0 d.0,
      numeral_next c.args.word.now i c.loop-byte.n _ c.loop-byte-test.true inv.1 d.1,
      λ h. absurd (omega arith),
      λ h. omega (arith, inv.2 (omega arith), d.1, r.1),
      λ h. omega (arith, inv.3 (omega arith), d.1, r.1),
      omega (arith, inv.4 (omega arith), d.1, r.1),
    )
