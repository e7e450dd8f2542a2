-- The marks, given their class one after the other, over the classes of all other bytes.
use Rattle.std.proofs.Common.{◌≡◌, ℕ, ◌+◌, ◌<◌, ◌≤◌, cond, ◌&&◌, leb, List, [], ◌∷◌, ◌++◌, get_or, take, sym, refl, ap, ◌∙◌, arith}
use Rattle.std.proofs.lemmas.Bool.Decides.{nat_tests}
use Rattle.std.proofs.lemmas.List.{take_more, take_all}
use Rattle.text.specs.Bytes.{class_of}
use Rattle.text.specs.declared.bytes.Class.{Class}
use Rattle.text.specs.declared.bytes.Class.TheVariants.{Other, Letter, Digit, Underscore, Space, Mark}

abbrev marks : List ℕ
marks = 92 ∷ 46 ∷ 40 ∷ 41 ∷ 35 ∷ []

-- one class for the bytes from f to l
abbrev given : ℕ → ℕ → Class → Class → ℕ → Class
given f l x c b = cond (leb f b && leb b l) x c

abbrev pub words : ℕ → Class
words b = given 32 32 Space (given 95 95 Underscore (given 48 57 Digit (given 97 122 Letter Other b) b) b) b

abbrev marked : List ℕ → ℕ → Class → Class
marked [] b c = c
marked (m ∷ ms) b c = marked ms b (given m m Mark c b)

abbrev pub so_far : ℕ → ℕ → Class
so_far i b = marked (take i marks) b (words b)

marked_push : (ms : List ℕ) (m b : ℕ) (c : Class) → marked (ms ++ (m ∷ [])) b c ≡ given m m Mark (marked ms b c) b
marked_push [] m b c = refl
marked_push (n ∷ ms) m b c = marked_push ms m b (given n n Mark c b)

pub one_more : (i b : ℕ) (c : Class) → i < 5 → c ≡ so_far i b → given (get_or marks i 0) (get_or marks i 0) Mark c b ≡ so_far (i + 1) b
one_more i b c h e = ap (λ x. given (get_or marks i 0) (get_or marks i 0) Mark x b) e ∙ sym (ap (λ ms. marked ms b (words b)) (take_more marks i 0 h) ∙ marked_push (take i marks) (get_or marks i 0) b (words b))

all_classes : (b : ℕ) → marked marks b (words b) ≡ class_of b
unfolding class_of
all_classes b = grind (arith, nat_tests)

pub all_marked : (i b : ℕ) (c : Class) → 5 ≤ i → c ≡ so_far i b → c ≡ class_of b
all_marked i b c h e = e ∙ ap (λ ms. marked ms b (words b)) (take_all i marks h) ∙ all_classes b
