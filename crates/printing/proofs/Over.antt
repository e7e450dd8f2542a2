-- Bytes written over a memory, one piece after the other.
use Rattle.std.proofs.Common.{◌≡◌, ℕ, ◌+◌, ◌≤◌, List, ◌++◌, length, sym, refl, ap, ◌∙◌, ap₂, arith}
use lib.Seq.{paste}
use Rattle.std.proofs.lemmas.List.{length-append}
use Rattle.std.proofs.lemmas.List.Edits.{paste_all, paste-paste, length-paste}
use Rattle.printing.specs.Writing.{over, Wrote}

pub over_paste : (m : List ℕ) (at : ℕ) (s : List ℕ) → paste m at s (length s) ≡ over m at s
over_paste m at s = paste_all m at s (length s) refl

over_length : (m : List ℕ) (at : ℕ) (s : List ℕ) → at + length s ≤ length m → length (over m at s) ≡ length m
over_length m at s h = ap length (sym (over_paste m at s)) ∙ length-paste m at s (length s) h (omega arith)

over_over : (m : List ℕ) (at : ℕ) (s t : List ℕ) → at ≤ length m → over (over m at s) (at + length s) t ≡ over m at (s ++ t)
over_over m at s t h =
    ap (λ (x : List ℕ). over x (at + length s) t) (sym (over_paste m at s))
    ∙ sym (over_paste (paste m at s (length s)) (at + length s) t)
    ∙ paste-paste m at s t (length s) (length t) refl refl h
    ∙ ap (paste m at (s ++ t)) (sym (length-append s t))
    ∙ over_paste m at (s ++ t)

-- a piece, and one more where it ends
pub two_pieces : (m m₁ m₂ : List ℕ) (at i j : ℕ) (s t : List ℕ) → at + length (s ++ t) ≤ length m → Wrote m m₁ at s i → Wrote m₁ m₂ i t j → Wrote m m₂ at (s ++ t) j
two_pieces m m₁ m₂ at i j s t room a b =
    let size = length-append s t in
    record {
      leaves = b.leaves ∙ ap₂ (λ (x : List ℕ) (n : ℕ). over x n t) a.leaves a.stop ∙ over_over m at s t (omega arith);
      stop = omega (arith, a.stop, b.stop);
    }

-- what was written leaves the memory as long as it was
pub wrote_length : (m m₁ : List ℕ) (at i : ℕ) (s : List ℕ) → at + length s ≤ length m → Wrote m m₁ at s i → length m₁ ≡ length m
wrote_length m m₁ at i s room a = ap length a.leaves ∙ over_length m at s room

-- three pieces, each where the one before ends
pub three_pieces : (m m₁ m₂ m₃ : List ℕ) (at i j k : ℕ) (s t u : List ℕ) → at + length (s ++ (t ++ u)) ≤ length m → Wrote m m₁ at s i → Wrote m₁ m₂ i t j → Wrote m₂ m₃ j u k → Wrote m m₃ at (s ++ (t ++ u)) k
three_pieces m m₁ m₂ m₃ at i j k s t u room a b c =
    let size = length-append s (t ++ u) in
    let same = wrote_length m m₁ at i s (omega arith) a in
    two_pieces m m₁ m₃ at i k s (t ++ u) room a (two_pieces m₁ m₂ m₃ i j k t u (omega (arith, a.stop)) b c)
