-- One more node is brought into the merged list.
use Rattle.std.proofs.Common.{◌≡◌, ℕ, ◌+◌, ◌<◌, ◌≤◌, ltb, List, [], ◌∷◌, ◌++◌, length, get_or, sym, ap, ◌∙◌, subst, ap₂, inl, inr, arith}
use Rattle.std.proofs.lemmas.List.{get_or_push, get_or_append_left, length_push}
use Rattle.std.proofs.lemmas.Bool.{cases_eq, cases_lt, lt-ltb, le-ltb, cond-true, cond-false}
use Rattle.types.specs.declared.TypeNode.{TypeNode}
use Rattle.types.specs.Types.{branch}
use Rattle.types.specs.Lists.{node, zero_node, LawfulNode, Lawful, shape, reading, type_at}
use Rattle.instance.specs.Merging.{moved, Keeps, Merged}
use Rattle.types.proofs.Reading.{shape_same, lower_at, at_branch}
use Rattle.instance.proofs.Growing.{Grows, grows}

module _ (l : List TypeNode) (law : Lawful l) (m : List TypeNode) (places : List ℕ) (n : ℕ) (here : n < length l) (was : Merged l m places n) where
  abbrev x : TypeNode
  x = get_or l n zero_node

  abbrev y : TypeNode
  y = moved x places

  leaf_moved : x.kind < 2 → y ≡ x
  leaf_moved leaf = cond-true (ltb x.kind 2) _ _ (lt-ltb x.kind 2 leaf)

  branch_moved : 2 ≤ x.kind → y ≡ node x.kind (get_or places x.left 0) (get_or places x.right 0)
  branch_moved two = cond-false (ltb x.kind 2) _ _ (le-ltb x.kind 2 two)

  parts_lower : 2 ≤ x.kind → (x.left < n) × (x.right < n)
  parts_lower = lower_at l law.each n here

  moved_lawful : LawfulNode (length m) y
  moved_lawful =
      let w = law.each n here in
      elim (cases_lt x.kind 2) [
        | inl leaf ↦
            subst (LawfulNode (length m)) (sym (leaf_moved leaf))
            (record { kinds = w.kinds; leaf = w.leaf; number = w.number; code = w.code; lower = λ two. absurd (omega (arith, two, leaf)) })
        | inr two ↦
            (let low = parts_lower two in
            subst (LawfulNode (length m)) (sym (branch_moved two))
            (record {
              kinds = w.kinds;
              leaf = λ leaf. absurd (omega (arith, two, leaf));
              number = λ is. absurd (omega (arith, two, is));
              code = λ is. absurd (omega (arith, two, is));
              lower = λ _. (was.inside x.left low.0, was.inside x.right low.1);
            }))
      ]

  module _ (m' : List TypeNode) (at : ℕ) (kept : Keeps m m' y at) where
    grown : Grows m m'
    grown = grows m was.each was.once y m' moved_lawful kept.grown

    -- the places so far keep their types
    still : (p : ℕ) → p < n → type_at m' (get_or places p 0) ≡ type_at l p
    still p h = grown.same (get_or places p 0) (was.inside p h) ∙ was.same p h

    -- the node's record means its type
    new_type : type_at m' at ≡ type_at l n
    new_type =
        elim (cases_lt x.kind 2) [
          | inl leaf ↦
              ap (λ (z : TypeNode). shape z.kind z.left (reading at m' z.left) (reading at m' z.right)) (kept.there ∙ leaf_moved leaf)
              ∙ shape_same x.kind x.left _ _ _ _ (λ two. absurd (omega (arith, two, leaf)))
          | inr two ↦
              (let is = kept.there ∙ branch_moved two in
              let low = parts_lower two in
              let two' : 2 ≤ (get_or m' at zero_node).kind = subst (λ (z : TypeNode). 2 ≤ z.kind) (sym is) two in
              at_branch m' grown.each at kept.inside two'
              ∙ ap (λ (z : TypeNode). branch z.kind (type_at m' z.left) (type_at m' z.right)) is
              ∙ ap₂ (branch x.kind) (still x.left low.0) (still x.right low.1)
              ∙ sym (at_branch l law.each n here two))
        ]

    -- with its place noted last
    abbrev noted : List ℕ
    noted = places ++ (at ∷ [])

    pub merged_more : Merged l m' noted (n + 1)
    merged_more =
        let size = was.noted in
        let last-is : get_or noted n 0 ≡ at = get_or_push places at 0 n size in
        let old-is : (p : ℕ) → p < n → get_or noted p 0 ≡ get_or places p 0 = λ p h. get_or_append_left places (at ∷ []) 0 p (omega (arith, size)) in
        record {
          few = omega (arith, grown.few, was.few);
          noted = length_push places at ∙ ap (λ (i : ℕ). i + 1) size;
          each = grown.each;
          once = grown.once;
          inside = λ p h.
              elim (cases_eq p n) [
                | inl last ↦ subst (λ (i : ℕ). i < length m') (sym (ap (λ (i : ℕ). get_or noted i 0) last ∙ last-is)) kept.inside
                | inr other ↦
                    (let below : p < n = omega arith in
                    let old = was.inside p below in
                    subst (λ (i : ℕ). i < length m') (sym (old-is p below)) (omega (arith, old, grown.longer)))
              ];
          same = λ p h.
              elim (cases_eq p n) [
                | inl last ↦ ap (type_at m') (ap (λ (i : ℕ). get_or noted i 0) last ∙ last-is) ∙ new_type ∙ ap (type_at l) (sym last)
                | inr other ↦ (let below : p < n = omega arith in ap (type_at m') (old-is p below) ∙ still p below)
              ];
        }
