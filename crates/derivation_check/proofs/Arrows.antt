-- Arrows in a list without equal records, by the places of their parts.
use Rattle.std.proofs.Common.{◌≡◌, ℕ, zero, suc, ◌<◌, Bool, true, false, eqb, ◌&&◌, List, Some, None, Option, length, get_or, Decides, sym, refl, ap, ap₂, ◌∙◌, arith}
use Rattle.std.proofs.lemmas.Bool.Decides.{Decides-eqb, Decides-like, Decides-at, Decides-and}
use Rattle.std.specs.Option.{option_eq}
use Rattle.types.specs.declared.TypeNode.{TypeNode}
use Rattle.types.specs.Types.{Ty, branch, arrow}
use Rattle.types.specs.Shapes.{of_kind, shape_of}
use Rattle.types.specs.declared.Shape.TheVariants.{Arrow}
use Rattle.types.specs.Lists.{zero_node, Lawful, type_at}
use Rattle.types.proofs.Reading.{at_branch}
use Rattle.instance.specs.Once.{Once}
use Rattle.instance.proofs.Places.{left_of, right_of, places_are_types}
use Rattle.derivation_check.specs.Arrows.{ArrowOf, Parts}

-- an arrow by its kind and its parts
shaped : (kind left right from to : ℕ) → of_kind kind left right ≡ Some (Arrow from to) → (kind ≡ 2) × (left ≡ from) × (right ≡ to)
shaped zero l r a b e = absurd (cc)
shaped (suc zero) l r a b e = absurd (cc)
shaped (suc (suc zero)) l r a b e = (refl, cc, cc)
shaped (suc (suc (suc k))) l r a b e = absurd (cc)

-- a node that says that it is an arrow is one between the types at its places
pub arrow_node : (l : List TypeNode) → Lawful l → (q from to : ℕ) → q < length l → shape_of (get_or l q zero_node) ≡ Some (Arrow from to) → ArrowOf l (type_at l q) from to
arrow_node l law q from to h e =
    let n = get_or l q zero_node in
    let s = shaped n.kind n.left n.right from to e in
    let w = (law.each q h).lower (omega (arith, s.0)) in
    record {
      from_inside = omega (arith, w.0, s.1);
      to_inside = omega (arith, w.1, s.2);
      is = at_branch l law.each q h (omega (arith, s.0)) ∙ ap (λ (k : ℕ). branch k (type_at l n.left) (type_at l n.right)) s.0
          ∙ ap₂ (λ (x y : ℕ). arrow (type_at l x) (type_at l y)) s.1 s.2;
    }

module _ (l : List TypeNode) (law : Lawful l) (once : Once l) (τ : Ty) (a b : ℕ) (w : ArrowOf l τ a b) where
  pub decides_from : (p : ℕ) → p < length l → Decides (eqb a p) ((υ : Ty) × (τ ≡ arrow (type_at l p) υ))
  decides_from p hp =
      Decides-like (eqb a p)
      (λ e. (type_at l b, w.is ∙ ap (λ (x : ℕ). arrow (type_at l x) (type_at l b)) e))
      (λ v. places_are_types l law.each once a p w.from_inside hp (ap left_of (sym w.is ∙ v.1)))
      (Decides-eqb a p)

  pub decides_to : (p : ℕ) → p < length l → Decides (eqb b p) ((α : Ty) × (τ ≡ arrow α (type_at l p)))
  decides_to p hp =
      Decides-like (eqb b p)
      (λ e. (type_at l a, w.is ∙ ap (λ (x : ℕ). arrow (type_at l a) (type_at l x)) e))
      (λ v. places_are_types l law.each once b p w.to_inside hp (ap right_of (sym w.is ∙ v.1)))
      (Decides-eqb b p)

-- a pair of places is that of the parts exactly when the type is the arrow between the types there
pub decides_arrow : (l : List TypeNode) → Lawful l → Once l → (τ : Ty) (o : Option (ℕ × ℕ)) → Parts l τ o → (p q : ℕ) → p < length l → q < length l → (r : Bool) → r ≡ option_eq (λ (x y : ℕ × ℕ). eqb x.0 y.0 && eqb x.1 y.1) o (Some (p, q)) → Decides r (τ ≡ arrow (type_at l p) (type_at l q))
decides_arrow l law once τ None none p q hp hq r e = (λ yes. let n : ◌≡◌ {A = Bool} true false = sym yes ∙ e in cc, λ is. absurd (none _ _ is))
decides_arrow l law once τ (Some (a, b)) w p q hp hq r e =
    Decides-like r
    (λ v. w.is ∙ ap₂ (λ (x y : ℕ). arrow (type_at l x) (type_at l y)) v.0 v.1)
    (λ is. (places_are_types l law.each once a p w.from_inside hp (ap left_of (sym w.is ∙ is)), places_are_types l law.each once b q w.to_inside hq (ap right_of (sym w.is ∙ is))))
    (Decides-at r _ e (Decides-and (eqb a p) (eqb b q) (Decides-eqb a p) (Decides-eqb b q)))
