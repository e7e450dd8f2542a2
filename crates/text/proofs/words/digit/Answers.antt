use Rattle.std.proofs.Common.{◌≡◌, ℕ, ◌-◌, ◌<◌, None, ◌∙◌, arith, rules}
use Rattle.std.proofs.lemmas.Bool.Decides.{nat_tests}
use Rattle.std.specs.Char.{digit_value}
use Rattle.text.specs.Bytes.{class_of}
use Rattle.text.specs.declared.bytes.Class.TheVariants.{Digit}
use Rattle.text.proofs.words.digit.Goals as goal

small : (b : ℕ) → digit_value b < 10 → (class_of b ≡ Digit) × (digit_value b ≡ b - 48)
unfolding class_of
small b h = (grind (arith, nat_tests), grind (arith, nat_tests))

of_digit : (b : ℕ) → class_of b ≡ Digit → digit_value b < 10
unfolding class_of
of_digit b e = grind (arith, nat_tests)

pub returns-in_err-value : goal.returns-in_err-value
returns-in_err-value c =
    let none : c.from_residual.result ≡ None = search rules in
    rw none (λ d. c.in_err-value.ensures.value (of_digit _ d))

pub returns : goal.returns
returns c =
    let v = c.in_ok-value.ensures.value in
    let s = small _ v.0 in
    (s.0, v.1 ∙ s.1)
