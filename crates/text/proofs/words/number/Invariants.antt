use Rattle.std.proofs.Common.{◌≡◌, ℕ, ◌<◌, ◌≤◌, get_or, take}
use Rattle.text.specs.Bytes.{class_of}
use Rattle.text.specs.Words.{numeral}
use Rattle.text.specs.declared.bytes.Class.TheVariants.{Digit}
use Rattle.text.proofs.words.number.Given as goal

abbrev pub invariant-loop-byte : goal.invariant-loop-byte
invariant-loop-byte l =
    ((i : ℕ) → i < l.byte-index → class_of (get_or l.word i 0) ≡ Digit)
    × (l.n ≡ numeral 0 (take l.byte-index l.word))
    × (l.byte-index ≤ 0 → l.n ≤ 0)
    × (l.byte-index ≤ 1 → l.n ≤ 9)
    × (l.byte-index ≤ 2 → l.n ≤ 99)
    × (l.n ≤ 999)
