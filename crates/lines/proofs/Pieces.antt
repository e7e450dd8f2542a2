-- A line written piece by piece, and how long it is at most.
use Rattle.std.proofs.Common.{◌≡◌, ℕ, ◌+◌, ◌^◌, ◌<◌, ◌≤◌, leb, List, ◌++◌, length, drop, codes, decimal, sym, ap, ◌∙◌, zero-add, append_assoc, subst, arith}
use Rattle.std.proofs.lemmas.List.{length-append}
use Rattle.std.proofs.lemmas.Fmt.{length-decimal-le}
use Rattle.std.proofs.lemmas.Bool.{cond_both, leb-true}
use Rattle.types.specs.declared.TypeNode.{TypeNode}
use Rattle.types.specs.Lists.{meaning}
use Rattle.printing.specs.Text.{text}
use Rattle.printing.specs.Writing.{Wrote}
use Rattle.printing.proofs.Over.{three_pieces}
use Rattle.lines.specs.Lines.{line_room, line_end, filed_head, if_short, filed_line, Lined}

-- a number of up to 16 bits has at most 5 digits, one of up to 64 bits at most 20
pub short_number : (n : ℕ) → n < 2 ^ 16 → length (decimal n) ≤ 5
short_number n h = length-decimal-le 5 n (omega arith) (omega arith) (omega arith)

pub long_number : (n : ℕ) → n < 2 ^ 64 → length (decimal n) ≤ 20
long_number n h = length-decimal-le 20 n (omega arith) (omega arith) h

-- the number of a formula has at most 3
pub filed_number : (n : ℕ) → n < 128 → length (decimal n) ≤ 3
filed_number n h = length-decimal-le 3 n (omega arith) (omega arith) (omega arith)

pub short_text : (t : List ℕ) → length (if_short t) ≤ 4096
short_text t = cond_both (leb (length t) 4096) t (codes "too long") (λ x. length x ≤ 4096) (λ e. leb-true (length t) 4096 e) (λ e. omega arith)

five_long : (s t u v w : List ℕ) → length (s ++ (t ++ (u ++ (v ++ w)))) ≡ length s + length t + length u + length v + length w
five_long s t u v w = omega (arith, length-append s (t ++ (u ++ (v ++ w))), length-append t (u ++ (v ++ w)), length-append u (v ++ w), length-append v w)

filed_fits : (n : ℕ) (list : List TypeNode) → n < 128 → length (filed_line n list) ≤ line_room
filed_fits n list h =
    let t = if_short (text (meaning list)) in
    omega (arith, five_long (codes "#") (decimal n) (codes " : ") t line_end, filed_number n h, short_text (text (meaning list)))

-- what is written from the front on is a line
lined : (m m' line : List ℕ) (n : ℕ) → length line ≤ line_room → Wrote m m' 0 line n → Lined line m m' n
lined m m' line n fits w =
    let all : n ≡ length line = w.stop ∙ zero-add (length line) in
    record {
      answer = all;
      fits = fits;
      leaves = w.leaves ∙ ap (λ (k : ℕ). line ++ drop k m) (sym w.stop);
    }

pub filed_head_long : (n : ℕ) → length (filed_head n) ≡ length (decimal n) + 4
filed_head_long n = omega (arith, length-append (decimal n) (codes " : "))

-- the head, the type and the end, each where the one before ends
pub filed_written : (n : ℕ) (list : List TypeNode) (m m₁ m₂ m₃ : List ℕ) (i j k : ℕ) → n < 128 → line_room ≤ length m → Wrote m m₁ 0 (filed_head n) i → Wrote m₁ m₂ i (if_short (text (meaning list))) j → Wrote m₂ m₃ j line_end k → Lined (filed_line n list) m m₃ k
filed_written n list m m₁ m₂ m₃ i j k few room a b c =
    let t = if_short (text (meaning list)) in
    let fits = filed_fits n list few in
    let whole : filed_head n ++ (t ++ line_end) ≡ filed_line n list = simp append_assoc in
    lined m m₃ (filed_line n list) k fits
    (subst (λ (x : List ℕ). Wrote m m₃ 0 x k) whole (three_pieces m m₁ m₂ m₃ 0 i j k (filed_head n) t line_end (omega (arith, ap length whole)) a b c))
