-- In a lawful list without equal records, places stand for types.
use Rattle.std.proofs.Common.{◌≡◌, ℕ, zero, suc, ◌<◌, ◌≤◌, List, length, get_or, sym, refl, ap, ◌∙◌, ap₂, inl, inr, arith}
use Rattle.std.proofs.lemmas.Bool.{cases_lt, cases_order}
use Rattle.types.specs.declared.TypeNode.{TypeNode}
use Rattle.types.specs.Types.{Ty, variable, base, branch}
use Rattle.types.specs.Lists.{node, zero_node, LawfulNode, shape, type_at}
use Rattle.instance.specs.Once.{Once, PlacesAreTypes}
use Rattle.types.proofs.Reading.{lower_at, at_branch}

-- ---- what a type is made of

abbrev pub kind_of : Ty → ℕ
kind_of (variable v) = 0
kind_of (base c) = 1
kind_of (branch k a b) = k

abbrev pub number_of : Ty → ℕ
number_of (variable v) = v
number_of (base c) = c
number_of (branch k a b) = 0

abbrev pub left_of : Ty → Ty
left_of (variable v) = variable v
left_of (base c) = base c
left_of (branch k a b) = a

abbrev pub right_of : Ty → Ty
right_of (variable v) = variable v
right_of (base c) = base c
right_of (branch k a b) = b

shape_kind : (k n : ℕ) (a b : Ty) → kind_of (shape k n a b) ≡ k
shape_kind zero n a b = refl
shape_kind (suc zero) n a b = refl
shape_kind (suc (suc k)) n a b = refl

shape_number : (k n : ℕ) (a b : Ty) → k < 2 → number_of (shape k n a b) ≡ n
shape_number zero n a b h = refl
shape_number (suc zero) n a b h = refl
shape_number (suc (suc k)) n a b h = absurd (omega arith)

pub kind_at : (l : List TypeNode) (p : ℕ) → kind_of (type_at l p) ≡ (get_or l p zero_node).kind
kind_at l p = shape_kind _ _ _ _

number_at : (l : List TypeNode) (p : ℕ) → (get_or l p zero_node).kind < 2 → number_of (type_at l p) ≡ (get_or l p zero_node).left
number_at l p h = shape_number _ _ _ _ h

-- records with equal fields are equal
same_node : (x y : TypeNode) → x.kind ≡ y.kind → x.left ≡ y.left → x.right ≡ y.right → x ≡ y
same_node x y e f g = ap (λ (k : ℕ). node k x.left x.right) e ∙ ap₂ (node y.kind) f g

module _ (l : List TypeNode) (each : (p : ℕ) → p < length l → LawfulNode p (get_or l p zero_node)) (once : Once l) where
  below : (n p q : ℕ) → p < n → p < length l → q < length l → type_at l p ≡ type_at l q → p ≡ q
  below zero p q i hp hq e = absurd (omega arith)
  below (suc n) p q i hp hq e =
      let x = get_or l p zero_node in
      let y = get_or l q zero_node in
      let k : x.kind ≡ y.kind = sym (kind_at l p) ∙ ap kind_of e ∙ kind_at l q in
      elim (cases_lt x.kind 2) [
        | inl leaf ↦
            (let leaf' : y.kind < 2 = omega arith in
            once p q hp hq (same_node x y k (sym (number_at l p leaf) ∙ ap number_of e ∙ number_at l q leaf') ((each p hp).leaf leaf ∙ sym ((each q hq).leaf leaf'))))
        | inr two ↦
            (let two' : 2 ≤ y.kind = omega arith in
            let parts = sym (at_branch l each p hp two) ∙ e ∙ at_branch l each q hq two' in
            let v = lower_at l each p hp two in
            let w = lower_at l each q hq two' in
            once p q hp hq (same_node x y k
            (below n x.left y.left (omega (arith, v.0)) (omega (arith, v.0)) (omega (arith, w.0)) (ap left_of parts))
            (below n x.right y.right (omega (arith, v.1)) (omega (arith, v.1)) (omega (arith, w.1)) (ap right_of parts))))
      ]

  pub places_are_types : PlacesAreTypes l
  places_are_types p q hp hq e = below (suc p) p q (omega arith) hp hq e

-- no record equals one that stands lower
abbrev pub NewUpTo : List TypeNode → ℕ → Type 0
NewUpTo l n = (p q : ℕ) → p < n → q < p → get_or l q zero_node ≡ get_or l p zero_node → ⊥

pub once_from_new : (l : List TypeNode) → NewUpTo l (length l) → Once l
once_from_new l new p q hp hq e =
    elim (cases_order p q) [
      | inl same ↦ same
      | inr apart ↦
          (elim apart [
            | inl less ↦ absurd (new q p hq less e)
            | inr more ↦ absurd (new p q hp more (sym e))
          ])
    ]
