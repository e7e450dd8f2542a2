-- The types at the places of a list whose parts stand below their wholes.
use Rattle.std.proofs.Common.{◌≡◌, ℕ, zero, suc, ◌<◌, ◌≤◌, List, length, get_or, sym, refl, ap, ◌∙◌, ap₂, ⊎_elim, arith}
use Rattle.std.proofs.lemmas.Bool.{cases_lt}
use Rattle.types.specs.declared.TypeNode.{TypeNode}
use Rattle.types.specs.Types.{Ty, variable, base, branch}
use Rattle.types.specs.Lists.{node, zero_node, Lawful, shape, reading, type_at}
use Rattle.normal.specs.Laws.{Lower, Once, PlacesAreTypes}

pub shape_variable : (k n : ℕ) (a b : Ty) → k ≡ 0 → shape k n a b ≡ variable n
shape_variable zero n a b e = refl
shape_variable (suc k) n a b e = absurd (omega arith)

pub shape_base : (k n : ℕ) (a b : Ty) → k ≡ 1 → shape k n a b ≡ base n
shape_base zero n a b e = absurd (omega arith)
shape_base (suc zero) n a b e = refl
shape_base (suc (suc k)) n a b e = absurd (omega arith)

pub shape_branch : (k n : ℕ) (a b : Ty) → 2 ≤ k → shape k n a b ≡ branch k a b
shape_branch zero n a b e = absurd (omega arith)
shape_branch (suc zero) n a b e = absurd (omega arith)
shape_branch (suc (suc k)) n a b e = refl

-- the parts of a leaf do not matter
shape_same : (k n : ℕ) (a b x y : Ty) → (2 ≤ k → (a ≡ x) × (b ≡ y)) → shape k n a b ≡ shape k n x y
shape_same zero n a b x y f = refl
shape_same (suc zero) n a b x y f = refl
shape_same (suc (suc k)) n a b x y f = let w = f (omega arith) in ap₂ (branch (suc (suc k))) w.0 w.1

-- a type's kind, number and two parts, as its record has them
abbrev kind_of : Ty → ℕ
kind_of (variable n) = 0
kind_of (base c) = 1
kind_of (branch k a b) = k

abbrev number_of : Ty → ℕ
number_of (variable n) = n
number_of (base c) = c
number_of (branch k a b) = 0

shape_kind : (k n : ℕ) (a b : Ty) → kind_of (shape k n a b) ≡ k
shape_kind zero n a b = refl
shape_kind (suc zero) n a b = refl
shape_kind (suc (suc k)) n a b = refl

shape_number : (k n : ℕ) (a b : Ty) → k < 2 → number_of (shape k n a b) ≡ n
shape_number zero n a b h = refl
shape_number (suc zero) n a b h = refl
shape_number (suc (suc k)) n a b h = absurd (omega arith)

same_node : (x y : TypeNode) → x.kind ≡ y.kind → x.left ≡ y.left → x.right ≡ y.right → x ≡ y
same_node x y e f g = ap (λ (k : ℕ). node k x.left x.right) e ∙ ap₂ (node y.kind) f g

pub lower_lawful : (l : List TypeNode) → Lawful l → Lower l
lower_lawful l law p h k = (law.each p h).lower k

module _ (l : List TypeNode) (low : Lower l) where
  -- any depth above the place reads the same
  pub reading_deep : (d e p : ℕ) → p < length l → p < d → p < e → reading d l p ≡ reading e l p
  reading_deep zero e p h i j = absurd (omega arith)
  reading_deep (suc d) zero p h i j = absurd (omega arith)
  reading_deep (suc d) (suc e) p h i j =
      let x = get_or l p zero_node in
      shape_same x.kind x.left _ _ _ _
      (λ q.
      let w = low p h q in
      (reading_deep d e x.left (omega (arith, w.0)) (omega (arith, w.0)) (omega (arith, w.0)), reading_deep d e x.right (omega (arith, w.1)) (omega (arith, w.1)) (omega (arith, w.1))))

  pub at_variable : (p : ℕ) → (get_or l p zero_node).kind ≡ 0 → type_at l p ≡ variable (get_or l p zero_node).left
  at_variable p e = shape_variable _ _ _ _ e

  pub at_base : (p : ℕ) → (get_or l p zero_node).kind ≡ 1 → type_at l p ≡ base (get_or l p zero_node).left
  at_base p e = shape_base _ _ _ _ e

  pub at_branch : (p : ℕ) → p < length l → 2 ≤ (get_or l p zero_node).kind → type_at l p ≡ branch (get_or l p zero_node).kind (type_at l (get_or l p zero_node).left) (type_at l (get_or l p zero_node).right)
  at_branch p h e =
      let w = low p h e in
      let i = (get_or l p zero_node).left in
      let j = (get_or l p zero_node).right in
      shape_branch _ _ _ _ e ∙ ap₂ (branch (get_or l p zero_node).kind) (reading_deep p (suc i) i (omega (arith, w.0)) w.0 (omega arith)) (reading_deep p (suc j) j (omega (arith, w.1)) w.1 (omega arith))

  module _ (leaves : (p : ℕ) → p < length l → (get_or l p zero_node).kind < 2 → (get_or l p zero_node).right ≡ 0) (once : Once l) where
    one_below : (n p q : ℕ) → p < n → p < length l → q < length l → type_at l p ≡ type_at l q → p ≡ q
    one_below zero p q i hp hq e = absurd (omega arith)
    one_below (suc n) p q i hp hq e =
        let x = get_or l p zero_node in
        let y = get_or l q zero_node in
        let k : x.kind ≡ y.kind = sym (shape_kind x.kind _ _ _) ∙ ap kind_of e ∙ shape_kind y.kind _ _ _ in
        ⊎_elim
        (λ (lx : x.kind < 2).
        (let ly : y.kind < 2 = omega arith in
        once p q hp hq (same_node x y k (sym (shape_number x.kind x.left _ _ lx) ∙ ap number_of e ∙ shape_number y.kind y.left _ _ ly) (leaves p hp lx ∙ sym (leaves q hq ly)))))
        (λ (bx : 2 ≤ x.kind).
        (let bY : 2 ≤ y.kind = omega arith in
        let f = sym (at_branch p hp bx) ∙ e ∙ at_branch q hq bY in
        let el : type_at l x.left ≡ type_at l y.left = cc in
        let er : type_at l x.right ≡ type_at l y.right = cc in
        let v = low p hp bx in
        let w = low q hq bY in
        once p q hp hq (same_node x y k
        (one_below n x.left y.left (omega (arith, v.0)) (omega (arith, v.0)) (omega (arith, w.0)) el)
        (one_below n x.right y.right (omega (arith, v.1)) (omega (arith, v.1)) (omega (arith, w.1)) er))))
        (cases_lt x.kind 2)

pub places_are_types : PlacesAreTypes
places_are_types l law once p q hp hq e = one_below l (lower_lawful l law) (λ k h. (law.each k h).leaf) once (suc p) p q (omega arith) hp hq e
