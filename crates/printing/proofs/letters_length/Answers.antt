use Rattle.std.proofs.Common.{◌≡◌, ℕ, ◌+◌, ◌/◌, ◌^◌, ◌<◌, ◌≤◌, ltb, [], length, decimal, ap, ◌∙◌, arith}
use Rattle.std.proofs.lemmas.Fmt.{decimal_digit, decimal_step}
use Rattle.std.proofs.lemmas.List.{length-append}
use Rattle.std.proofs.lemmas.Bool.{cond-false, le-ltb}
use Rattle.printing.specs.Text.{letters}
use Rattle.printing.proofs.letters_length.Goals as goal

one_digit : (n : ℕ) → n < 10 → length (decimal n) ≡ 1
one_digit n h = ap length (decimal_digit n h)

one_more : (n : ℕ) → 10 ≤ n → n < 2 ^ 64 → length (decimal n) ≡ length (decimal (n / 10)) + 1
one_more n many fits = ap length (decimal_step n many fits) ∙ length-append (decimal (n / 10)) _

module _ (v : ℕ) (many : 26 ≤ v) where
  with_digits : length (letters v) ≡ length (decimal (v / 26)) + 1
  with_digits = omega (arith, ap length (cond-false (ltb v 26) [] (decimal (v / 26)) (le-ltb v 26 many)))

pub returns-in-26-to-259 : goal.returns-in-26-to-259
returns-in-26-to-259 c =
    let v = c.args.number in
    record { counted = omega (arith, with_digits v (omega arith), one_digit (v / 26) (omega arith)); short = omega arith }

pub returns-in-260-to-2599 : goal.returns-in-260-to-2599
returns-in-260-to-2599 c =
    let v = c.args.number in
    record {
      counted = omega (arith, with_digits v (omega arith), one_more (v / 26) (omega arith) (omega arith), one_digit (v / 26 / 10) (omega arith));
      short = omega arith;
    }

pub returns-in_default : goal.returns-in_default
returns-in_default c =
    let v = c.args.number in
    record {
      counted = omega (arith, with_digits v (omega arith), one_more (v / 26) (omega arith) (omega arith), one_more (v / 26 / 10) (omega arith) (omega arith), one_digit (v / 26 / 10 / 10) (omega arith));
      short = omega arith;
    }
