-- Questions put one after the other, as relations to an answer: each allows one answer at most.
use Rattle.std.proofs.Common.{◌≡◌, sym, refl, ◌∙◌, subst}

-- P allows one answer at most
abbrev pub One : {A : Type 0} → (A → Type 0) → Type 0
One {A = A} P = (a b : A) → P a → P b → a ≡ b

-- the answer x, given for the reason N
pub record Says {A : Type 0} (N : Type 0) (x a : A) : Type 0 where
  pub why : N
  pub is : a ≡ x

-- the question Y: the answer to a no, or a yes and what follows
pub data Asks {A : Type 0} (Y : Type 0) (No Then : A → Type 0) (a : A) : Type 0 where
  denied : No a → Asks Y No Then a
  granted : Y → Then a → Asks Y No Then a

-- a value that P allows, and what follows for it
pub record Takes {A B : Type 0} (P : B → Type 0) (Then : B → A → Type 0) (a : A) : Type 0 where
  pub value : B
  pub given : P value
  pub follows : Then value a

pub said : {A : Type 0} {N : Type 0} {x : A} → N → Says N x x
said n = record { why = n; is = refl }

pub one_says : {A : Type 0} {N : Type 0} {x : A} → One (Says N x)
one_says a b p q = p.is ∙ sym q.is

pub one_asks : {A : Type 0} {Y : Type 0} {No Then : A → Type 0} → ((a : A) → No a → Y → ⊥) → One No → One Then → One (Asks Y No Then)
one_asks apart no' then a b (denied n) (denied m) = no' a b n m
one_asks apart no' then a b (denied n) (granted y t) = absurd (apart a n y)
one_asks apart no' then a b (granted y t) (denied n) = absurd (apart b n y)
one_asks apart no' then a b (granted y t) (granted z u) = then a b t u

-- a question with one answer to a no
pub one_asked : {A : Type 0} {Y N : Type 0} {x : A} {Then : A → Type 0} → (N → Y → ⊥) → One Then → One (Asks Y (Says N x) Then)
one_asked apart then = one_asks (λ a n y. apart n.why y) one_says then

pub one_takes : {A B : Type 0} {P : B → Type 0} {Then : B → A → Type 0} → One P → ((x : B) → One (Then x)) → One (Takes P Then)
one_takes {Then = Then} one then a b p q = then q.value a b (subst (λ x. Then x a) (one p.value q.value p.given q.given) p.follows) q.follows
