-- Two splits of one list, and the first item that a question fails of, or the first token that cannot follow.
use Rattle.std.proofs.Common.{◌≡◌, ℕ, List, [], ◌∷◌, ◌++◌, sym, refl, ap, ◌∙◌, subst, append_assoc, append-nil}
use Rattle.std.specs.List.{AllByRecursion}
use Rattle.text.specs.Tokens.{Token}
use Rattle.grammar.specs.Grammar.{Is, expression, Expression, CanContinue, place, FirstBad}
use Rattle.grammar.proofs.Halting.{back}
use Rattle.formula.specs.Firsts.{FirstNot}

-- two splits are the same, or one goes on with an item that the other has in front
pub data Splits {A : Type 0} (a b c d : List A) : Type 0 where
  same : a ≡ c → b ≡ d → Splits a b c d
  sooner : (x : A) (w : List A) → c ≡ a ++ (x ∷ w) → b ≡ x ∷ (w ++ d) → Splits a b c d
  later : (x : A) (w : List A) → a ≡ c ++ (x ∷ w) → d ≡ x ∷ (w ++ b) → Splits a b c d

under : {A : Type 0} (x y : A) (a b c d : List A) → x ≡ y → Splits a b c d → Splits (x ∷ a) b (y ∷ c) d
under x y a b c d e (same p q) = same (ap (λ z. z ∷ a) e ∙ ap (λ l. y ∷ l) p) q
under x y a b c d e (sooner z w p q) = sooner z w (ap (λ v. v ∷ c) (sym e) ∙ ap (λ l. x ∷ l) p) q
under x y a b c d e (later z w p q) = later z w (ap (λ v. v ∷ a) e ∙ ap (λ l. y ∷ l) p) q

pub splits : {A : Type 0} (a b c d : List A) → a ++ b ≡ c ++ d → Splits a b c d
splits [] b [] d e = same refl e
splits [] b (x ∷ c) d e = sooner x c refl e
splits (x ∷ a) b [] d e = later x a refl (sym e)
splits (x ∷ a) b (y ∷ c) d e =
    let head : x ≡ y = cc in
    let tail : a ++ b ≡ c ++ d = cc in
    under x y a b c d head (splits a b c d tail)

module _ {A : Type 0} (P : A → Type 0) where
  pub all_left : (xs ys : List A) → AllByRecursion P (xs ++ ys) → AllByRecursion P xs
  all_left [] ys h = tt
  all_left (x ∷ xs) ys h = (h.0, all_left xs ys h.1)

  pub all_right : (xs ys : List A) → AllByRecursion P (xs ++ ys) → AllByRecursion P ys
  all_right [] ys h = h
  all_right (x ∷ xs) ys h = all_right xs ys h.1

  -- P holds of an item that stands among those that it holds of
  among : (xs : List A) (x : A) (ys zs : List A) → zs ≡ xs ++ (x ∷ ys) → AllByRecursion P zs → P x
  among xs x ys zs e h = (all_right xs (x ∷ ys) (subst (AllByRecursion P) e h)).0

  module _ (at : A → ℕ) (xs : List A) where
    pub not_all : (p : ℕ) → FirstNot P at xs p → AllByRecursion P xs → ⊥
    not_all p f h = f.fails (among f.before f.item f.rest xs f.split h)

    apart : (p q : ℕ) (f : FirstNot P at xs p) (g : FirstNot P at xs q) → Splits f.before (f.item ∷ f.rest) g.before (g.item ∷ g.rest) → p ≡ q
    apart p q f g (same a b) = let one : f.item ≡ g.item = cc in f.stands ∙ ap at one ∙ sym g.stands
    apart p q f g (sooner x w a b) =
        let one : x ≡ f.item = cc in
        absurd (f.fails (subst P one (among f.before x w g.before a g.earlier)))
    apart p q f g (later x w a b) =
        let one : x ≡ g.item = cc in
        absurd (g.fails (subst P one (among g.before x w f.before a f.earlier)))

    -- it fails first at one place
    pub one_first : (p q : ℕ) → FirstNot P at xs p → FirstNot P at xs q → p ≡ q
    one_first p q f g = apart p q f g (splits f.before (f.item ∷ f.rest) g.before (g.item ∷ g.rest) (sym f.split ∙ g.split))

-- Tokens that are no expression.
module _ (ts : List Token) (end : ℕ) where
  -- what goes on with a token that cannot follow cannot be continued
  stuck_there : (p : ℕ) (f : FirstBad ts end p) (x : Token) (us w more : List Token) → f.rest ≡ x ∷ us → more ≡ f.before ++ (x ∷ w) → CanContinue more → ⊥
  stuck_there p f x us w more e is c =
      f.stuck x us e (back (f.before ++ (x ∷ [])) w (subst CanContinue (is ∙ sym (append_assoc f.before (x ∷ []) w)) c))

  bad_apart : (p q : ℕ) (f : FirstBad ts end p) (g : FirstBad ts end q) → Splits f.before f.rest g.before g.rest → p ≡ q
  bad_apart p q f g (same a b) = f.stands ∙ ap (place end) b ∙ sym g.stands
  bad_apart p q f g (sooner x w a b) = absurd (stuck_there p f x _ w g.before b a g.continues)
  bad_apart p q f g (later x w a b) = absurd (stuck_there q g x _ w f.before b a f.continues)

  pub one_bad : (p q : ℕ) → FirstBad ts end p → FirstBad ts end q → p ≡ q
  one_bad p q f g = bad_apart p q f g (splits f.before f.rest g.before g.rest (sym f.split ∙ g.split))

  no_tree : (p : ℕ) (f : FirstBad ts end p) (rest : List Token) → f.rest ≡ rest → Expression ts → ⊥
  no_tree p f [] e x = f.short e x
  no_tree p f (y ∷ us) e x = stuck_there p f y us us ts e (f.split ∙ ap (λ l. f.before ++ l) e) ([], (x.0, subst (λ l. Is expression l x.0) (sym (append-nil ts)) x.1))

  pub not_expression : (p : ℕ) → FirstBad ts end p → Expression ts → ⊥
  not_expression p f x = no_tree p f f.rest refl x
