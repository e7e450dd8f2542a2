-- Tokens that the machine does not take in a state, by what the program sees of them.
use Rattle.std.proofs.Common.{◌≡◌, ℕ, List, refl, arith, Bor}
use Rattle.text.specs.Tokens.{Sign, lambda, dot, opening, closing, name, reference}
use Rattle.text.specs.Lexing.{sign_of}
use Rattle.text.specs.declared.token.Token.{Token}
use Rattle.text.specs.declared.token.Token.TheVariants.{Lambda, Dot, Open, Close, Name, Reference}
use Rattle.grammar.specs.Grammar.{Tree}
use Rattle.grammar.specs.Machine.{Frames, start, before_dot, after, dead, step}

-- a number for each sign tells them apart
abbrev rank : Sign → ℕ
rank lambda = 0
rank dot = 1
rank opening = 2
rank closing = 3
rank (name w) = 4
rank (reference n) = 5

apart : (x y : Sign) → x ≡ y → rank x ≡ rank y
apart x y e = cc

pub closing_is : (t : Token) → sign_of t ≡ closing → t ≡ Close
closing_is Lambda e = absurd (omega (arith, apart lambda closing e))
closing_is Dot e = absurd (omega (arith, apart dot closing e))
closing_is Open e = absurd (omega (arith, apart opening closing e))
closing_is Close e = refl
closing_is (Name w) e = absurd (omega (arith, apart (name w.now) closing e))
closing_is (Reference n) e = absurd (omega (arith, apart (reference n) closing e))

pub lambda_is : (t : Token) → sign_of t ≡ lambda → t ≡ Lambda
lambda_is Lambda e = refl
lambda_is Dot e = absurd (omega (arith, apart dot lambda e))
lambda_is Open e = absurd (omega (arith, apart opening lambda e))
lambda_is Close e = absurd (omega (arith, apart closing lambda e))
lambda_is (Name w) e = absurd (omega (arith, apart (name w.now) lambda e))
lambda_is (Reference n) e = absurd (omega (arith, apart (reference n) lambda e))

pub dot_stuck : (w : List ℕ) (o : ℕ) (k : Frames) (t : Token) (at : ℕ) → (t ≡ Dot → ⊥) → step (before_dot w o k) (sign_of t) at ≡ dead
dot_stuck w o k Lambda at h = refl
dot_stuck w o k Dot at h = absurd (h refl)
dot_stuck w o k Open at h = refl
dot_stuck w o k Close at h = refl
dot_stuck w o k (Name v) at h = refl
dot_stuck w o k (Reference n) at h = refl

pub start_stuck : (k : Frames) (t : Token) (at : ℕ) → (t ≡ Lambda → ⊥) → ((v : Bor (List ℕ)) → t ≡ Name v → ⊥) → ((n : ℕ) → t ≡ Reference n → ⊥) → (t ≡ Open → ⊥) → step (start k) (sign_of t) at ≡ dead
start_stuck k Lambda at l n r o = absurd (l refl)
start_stuck k Dot at l n r o = refl
start_stuck k Open at l n r o = absurd (o refl)
start_stuck k Close at l n r o = refl
start_stuck k (Name v) at l n r o = absurd (n v refl)
start_stuck k (Reference m) at l n r o = absurd (r m refl)

pub after_stuck : (f : Tree) (k : Frames) (t : Token) (at : ℕ) → (t ≡ Close → ⊥) → ((v : Bor (List ℕ)) → t ≡ Name v → ⊥) → ((n : ℕ) → t ≡ Reference n → ⊥) → (t ≡ Open → ⊥) → step (after f k) (sign_of t) at ≡ dead
after_stuck f k Lambda at c n r o = refl
after_stuck f k Dot at c n r o = refl
after_stuck f k Open at c n r o = absurd (o refl)
after_stuck f k Close at c n r o = absurd (c refl)
after_stuck f k (Name v) at c n r o = absurd (n v refl)
after_stuck f k (Reference m) at c n r o = absurd (r m refl)
