-- The texts of a variable and of an arrow, by what the node says.
use Rattle.std.proofs.Common.{◌≡◌, ℕ, zero, suc, ◌<◌, eqb, List, length, get_or, Some, refl, ap, ap₂, ◌∙◌, arith}
use Rattle.std.proofs.lemmas.Bool.{eq-eqb, cond-true}
use Rattle.types.specs.declared.TypeNode.{TypeNode}
use Rattle.types.specs.declared.Shape.TheVariants.{Variable, Arrow}
use Rattle.types.specs.Lists.{zero_node, Lawful, type_at}
use Rattle.types.specs.Shapes.{of_kind, shape_of}
use Rattle.printing.specs.Text.{letters, text}
use Rattle.printing.specs.Writing.{arrow_text}
use Rattle.types.proofs.Reading.{lower_at, at_variable, at_branch}

record IsVariable (kind left a : ℕ) : Type 0 where
  zero : kind ≡ 0
  number : left ≡ a

says_variable : (kind left right a : ℕ) → of_kind kind left right ≡ Some (Variable a) → IsVariable kind left a
says_variable zero left right a e = record { zero = refl; number = (cc) }
says_variable (suc zero) left right a e = absurd (cc)
says_variable (suc (suc zero)) left right a e = absurd (cc)
says_variable (suc (suc (suc k))) left right a e = absurd (cc)

record IsArrow (kind left right a b : ℕ) : Type 0 where
  two : kind ≡ 2
  from : left ≡ a
  to : right ≡ b

says_arrow : (kind left right a b : ℕ) → of_kind kind left right ≡ Some (Arrow a b) → IsArrow kind left right a b
says_arrow zero left right a b e = absurd (cc)
says_arrow (suc zero) left right a b e = absurd (cc)
says_arrow (suc (suc zero)) left right a b e = record { two = refl; from = (cc); to = (cc) }
says_arrow (suc (suc (suc k))) left right a b e = absurd (cc)

module _ (l : List TypeNode) (law : Lawful l) (p : ℕ) (h : p < length l) where
  abbrev here : TypeNode
  here = get_or l p zero_node

  pub text_variable : (a : ℕ) → shape_of here ≡ Some (Variable a) → text (type_at l p) ≡ letters a
  text_variable a e =
      let says = says_variable here.kind here.left here.right a e in
      ap text (at_variable l law.each p h says.zero) ∙ ap letters says.number

  -- the parts of an arrow stand lower
  pub parts_lower : (a b : ℕ) → shape_of here ≡ Some (Arrow a b) → (a < p) × (b < p)
  parts_lower a b e =
      let says = says_arrow here.kind here.left here.right a b e in
      let low = lower_at l law.each p h (omega (arith, says.two)) in
      (omega (arith, low.0, says.from), omega (arith, low.1, says.to))

  pub text_arrow : (a b : ℕ) → shape_of here ≡ Some (Arrow a b) → text (type_at l p) ≡ arrow_text l a b
  text_arrow a b e =
      let says = says_arrow here.kind here.left here.right a b e in
      ap text (at_branch l law.each p h (omega (arith, says.two)))
      ∙ cond-true (eqb here.kind 2) _ _ (eq-eqb here.kind 2 says.two)
      ∙ ap₂ (arrow_text l) says.from says.to
