-- The graph of a term, from those of its parts.
use Rattle.std.proofs.Common.{◌≡◌, ℕ, suc, ◌+◌, ◌-◌, ◌<◌, ◌≤◌, List, [], ◌∷◌, ◌++◌, map, reverse, length, get_or, sym, refl, ap, ◌∙◌, subst, ap₂, ⊎_elim, arith}
use Rattle.std.proofs.lemmas.List.{length-reverse, length-map, get_or-reverse, reverse-append, get_or-map}
use Rattle.std.proofs.lemmas.Bool.{cases_lt}
use Rattle.types.specs.Types.{Ty, base, arrow}
use Rattle.term.specs.Terms.{Term, variable, abstraction, application, primitive, reference}
use Rattle.graph.specs.Graph.{Solves, Sound}
use Rattle.graph.specs.declared.Node.{Node}
use Rattle.graph.specs.declared.Node.TheVariants.{Var}
use Rattle.copy.specs.Instances.{Lists}
use Rattle.copy.specs.Told.{Agree, Told, Never}
use Rattle.copy.proofs.Grow.{upd, upd_same, upd_below, pushed_length, pushed_pop, pushed_onto}
use Rattle.term.specs.declared.Symbol.{Symbol}
use Rattle.term.specs.declared.Symbol.TheVariants.{Variable, Primitive, Reference}
use Rattle.infer.specs.Typing.{size, Typing}
use Rattle.infer.specs.Scopes.{Scoped}
use Rattle.infer.specs.Passes.{types, OfLeaf, OfCall, OfArrow, Gives, Typed, Untyped}
use Rattle.infer.proofs.Typings.{size_application, some_node, typing_same}

-- the types of what is in scope
map_agree : (v w : ℕ → Ty) (Γ : List ℕ) → ((k : ℕ) → k < length Γ → w (get_or Γ k 0) ≡ v (get_or Γ k 0)) → map w Γ ≡ map v Γ
map_agree v w [] all = refl
map_agree v w (x ∷ Γ) all = ap₂ ◌∷◌ (all 0 (omega arith)) (map_agree v w Γ (λ k h. all (suc k) (omega arith)))

types_agree : (v w : ℕ → Ty) (xs : List ℕ) (n : ℕ) → Scoped xs n → Agree n w v → types w xs ≡ types v xs
types_agree v w xs n scoped ag =
    map_agree v w (reverse xs)
    (λ k h. let l : k < length xs = omega (arith, length-reverse xs) in
    let e = get_or-reverse xs k 0 l in
    ap w e ∙ ag (get_or xs (length xs - 1 - k) 0) (scoped (length xs - 1 - k) (omega arith)) ∙ sym (ap v e))

types_push : (v : ℕ → Ty) (xs ys : List ℕ) (a : ℕ) → ys ≡ xs ++ a ∷ [] → types v ys ≡ v a ∷ types v xs
types_push v xs ys a e = ap (types v) e ∙ ap (map v) (reverse-append xs (a ∷ []))

module _ (E K : Lists) where
  -- a variable is its binder's node
  pub told_variable : (ns : List Node) (xs : List ℕ) (k i : ℕ) → Sound ns → Scoped xs (length ns) → k < length xs → i ≡ get_or xs (length xs - 1 - k) 0 → Told ns ns i (OfLeaf E K xs (Variable k))
  told_variable ns xs k i sound scoped h ei =
      let at : (v : ℕ → Ty) → get_or (types v xs) k (base 0) ≡ v i = (λ v. get_or-map v (reverse xs) k 0 (base 0) (omega (arith, length-reverse xs)) ∙ ap v (get_or-reverse xs k 0 h ∙ sym ei)) in
      record {
        sound = sound;
        longer = omega arith;
        inside = rw ei (scoped (length xs - 1 - k) (omega arith));
        back = λ v s. (s, (omega (arith, length-map (reverse xs) v, length-reverse xs), at v));
        onto = λ v τ s t. (v, (λ j l. refl), s, sym (at v) ∙ t.1);
      }

  pub no_variable : (ns : List Node) (xs : List ℕ) (k : ℕ) → length xs ≤ k → Never ns (OfLeaf E K xs (Variable k))
  no_variable ns xs k h v τ s d = omega (arith, d.0, length-map (reverse xs) v, length-reverse xs)

  -- a term of one node, whose typings are what the leaf allows
  pub record Alone (xs : List ℕ) (l : Symbol) (t : Term) : Type 0 where
    pub one : size t ≡ 1
    pub to : (v T : ℕ → Ty) (i : ℕ) → Typing E K (types v xs) t T i → OfLeaf E K xs l v (T i)
    pub from : (v T : ℕ → Ty) (i : ℕ) → OfLeaf E K xs l v (T i) → Typing E K (types v xs) t T i

  pub alone_variable : (xs : List ℕ) (k : ℕ) (t : Term) → t ≡ variable k → Alone xs (Variable k) t
  alone_variable xs k t e = subst (Alone xs (Variable k)) (sym e) record { one = refl; to = λ v T i d. d; from = λ v T i d. d }

  pub alone_primitive : (xs : List ℕ) (k : ℕ) (t : Term) → t ≡ primitive k → Alone xs (Primitive k) t
  alone_primitive xs k t e = subst (Alone xs (Primitive k)) (sym e) record { one = refl; to = λ v T i d. d; from = λ v T i d. d }

  pub alone_reference : (xs : List ℕ) (k : ℕ) (t : Term) → t ≡ reference k → Alone xs (Reference k) t
  alone_reference xs k t e = subst (Alone xs (Reference k)) (sym e) record { one = refl; to = λ v T i d. d; from = λ v T i d. d }

  pub untyped_leaf : (ns : List Node) (xs : List ℕ) (i : ℕ) (l : Symbol) (t : Term) → Alone xs l t → Never ns (OfLeaf E K xs l) → Untyped E K ns xs i t
  untyped_leaf ns xs i l t is never v T s d = never v (T i) s (is.to v T i d)

  pub typed_leaf : (ns ms : List Node) (xs qs : List ℕ) (i a : ℕ) (l : Symbol) (t : Term) → Alone xs l t → get_or qs i 0 ≡ a → Told ns ms a (OfLeaf E K xs l) → Typed E K ns ms xs qs i t
  typed_leaf ns ms xs qs i a l t one e p =
      let z = one.one in
      let only : (P : ℕ → Type 0) → P i → (j : ℕ) → i ≤ j → j < i + size t → P j = (λ P here j h k. let q : i ≡ j = omega arith in subst P q here) in
      record {
        sound = p.sound;
        longer = p.longer;
        inside = only (λ j. get_or qs j 0 < length ms) (rw e p.inside);
        back = λ v s. (let b = p.back v s in (b.0, one.from v (λ j. v (get_or qs j 0)) i (subst (OfLeaf E K xs l v) (ap v (sym e)) b.1)));
        onto = λ v T s d. (let o = p.onto v (T i) s (one.to v T i d) in (o.0, o.1, o.2, only (λ j. o.0 (get_or qs j 0) ≡ T j) (ap o.0 e ∙ o.3)));
      }

  -- an abstraction: a binder a, the body b, and the arrow of the two
  module _ (ns n1 : List Node) (xs ys : List ℕ) (i : ℕ) (b : Term) (a : ℕ) (sound : Sound ns) (scoped : Scoped xs (length ns)) (ea : a ≡ length ns) (e1 : n1 ≡ ns ++ Var ∷ []) (ey : ys ≡ xs ++ a ∷ []) where
    bound : (v T : ℕ → Ty) → Solves v ns → (d : Typing E K (types v xs) (abstraction b) T i) → Agree (length ns) (upd v a d.0) v × Solves (upd v a d.0) n1 × Typing E K (types (upd v a d.0) ys) b T (i + 1)
    bound v T s d =
        let α : Ty = d.0 in
        let w : ℕ → Ty = upd v a α in
        let ag : Agree (length ns) w v = (λ k h. upd_below v a α k (omega arith)) in
        let Γ : types w ys ≡ α ∷ types v xs = types_push w xs ys a ey ∙ ap₂ ◌∷◌ (upd_same v a α) (types_agree v w xs (length ns) scoped ag) in
        (ag, pushed_onto ns n1 Var e1 v a α ea sound s tt, rw Γ d.2)

    pub untyped_abstraction : Untyped E K n1 ys (i + 1) b → Untyped E K ns xs i (abstraction b)
    untyped_abstraction none v T s d = let w = bound v T s d in none (upd v a d.0) T w.1 w.2

    pub typed_abstraction : (n2 ms : List Node) (qs rs : List ℕ) (node : ℕ) → Typed E K n1 n2 ys qs (i + 1) b → Told n2 ms node (OfArrow a (get_or qs (i + 1) 0)) → get_or rs i 0 ≡ node → ((p : ℕ) → i < p → get_or rs p 0 ≡ get_or qs p 0) → Typed E K ns ms xs rs i (abstraction b)
    typed_abstraction n2 ms qs rs node p q here above =
        let l = pushed_length ns n1 Var e1 in
        let nb = some_node b in
        let parts : (P : ℕ → Type 0) → P i → ((j : ℕ) → i + 1 ≤ j → j < i + 1 + size b → P j) → (j : ℕ) → i ≤ j → j < i + size (abstraction b) → P j =
        (λ P first rest j h k. ⊎_elim (λ (c : i < j). rest j (omega arith) (omega arith)) (λ (c : j ≤ i). let e : i ≡ j = omega arith in subst P e first) (cases_lt i j)) in
        record {
          sound = q.sound;
          longer = omega (arith, p.longer, q.longer);
          inside = parts (λ j. get_or rs j 0 < length ms) (rw here q.inside) (λ j h k. rw (above j (omega arith)) (let x = p.inside j h k in omega (arith, q.longer)));
          back = λ v s.
              (let g = q.back v s in
              let h = p.back v g.0 in (
                pushed_pop ns n1 Var e1 v h.0,
                (
                  v a,
                  ap v here ∙ g.1 ∙ ap (λ (j : ℕ). arrow (v a) (v j)) (sym (above (i + 1) (omega arith))),
                  typing_same E K b (v a ∷ types v xs) (λ j. v (get_or qs j 0)) (λ j. v (get_or rs j 0)) (i + 1) (λ j x y. ap v (sym (above j (omega arith)))) (rw (← (types_push v xs ys a ey)) h.1),
                ),
              ));
          onto = λ v T s d.
              (let f = bound v T s d in
              let g = p.onto (upd v a d.0) T f.1 f.2 in
              let wa : g.0 a ≡ d.0 = g.1 a (omega arith) ∙ upd_same v a d.0 in
              let wb : g.0 (get_or qs (i + 1) 0) ≡ T (i + 1) = g.3 (i + 1) (omega arith) (omega arith) in
              let h = q.onto g.0 (T i) g.2 (d.1 ∙ ap₂ arrow (sym wa) (sym wb)) in (
                h.0,
                (λ k lt. h.1 k (omega (arith, p.longer)) ∙ g.1 k (omega arith) ∙ f.0 k lt),
                h.2,
                parts (λ j. h.0 (get_or rs j 0) ≡ T j) (ap h.0 here ∙ h.3) (λ j x y. ap h.0 (above j (omega arith)) ∙ h.1 (get_or qs j 0) (p.inside j x y) ∙ g.3 j x y),
              ));
        }

  -- an application: the function at the places from i + 1, the argument from m
  module _ (ns : List Node) (xs : List ℕ) (i : ℕ) (f x : Term) where
    pub untyped_function : Untyped E K ns xs (i + 1) f → Untyped E K ns xs i (application f x)
    untyped_function none v T s d = none v T s d.1

    module _ (n1 : List Node) (qs : List ℕ) (scoped : Scoped xs (length ns)) (p : Typed E K ns n1 xs qs (i + 1) f) where
      function : (v T : ℕ → Ty) → Solves v ns → Typing E K (types v xs) (application f x) T i → (w : ℕ → Ty) × Agree (length ns) w v × Solves w n1 × Gives w qs T (i + 1) (i + 1 + size f) × Typing E K (types w xs) x T (i + 1 + size f)
      function v T s d =
          let o = p.onto v T s d.1 in
          (o.0, o.1, o.2, o.3, rw (types_agree v o.0 xs (length ns) scoped o.1) d.2)

      pub untyped_argument : Untyped E K n1 xs (i + 1 + size f) x → Untyped E K ns xs i (application f x)
      untyped_argument none v T s d = let w = function v T s d in none w.0 T w.2 w.4

      module _ (n2 : List Node) (rs : List ℕ) (q : Typed E K n1 n2 xs rs (i + 1 + size f) x) (older : (j : ℕ) → j < i + 1 + size f → get_or rs j 0 ≡ get_or qs j 0) where
        both : (v T : ℕ → Ty) → Solves v ns → Typing E K (types v xs) (application f x) T i → (w : ℕ → Ty) × Agree (length ns) w v × Solves w n2 × Gives w rs T (i + 1) (i + 1 + size f + size x) × OfCall (get_or rs (i + 1) 0) (get_or rs (i + 1 + size f) 0) w (T i)
        both v T s d =
            let nf = some_node f in
            let nx = some_node x in
            let g = function v T s d in
            let o = q.onto g.0 T g.2 g.4 in
            let gives : Gives o.0 rs T (i + 1) (i + 1 + size f + size x) =
            (λ j h k. ⊎_elim
            (λ (c : j < i + 1 + size f). ap o.0 (older j c) ∙ o.1 (get_or qs j 0) (p.inside j h c) ∙ g.3 j h c)
            (λ (c : i + 1 + size f ≤ j). o.3 j c k)
            (cases_lt j (i + 1 + size f))) in (
              o.0,
              (λ k lt. o.1 k (omega (arith, p.longer)) ∙ g.1 k lt),
              o.2,
              gives,
              gives (i + 1) (omega arith) (omega arith) ∙ d.0 ∙ ap (λ (α : Ty). arrow α (T i)) (sym (gives (i + 1 + size f) (omega arith) (omega arith))),
            )

        pub untyped_call : Never n2 (OfCall (get_or rs (i + 1) 0) (get_or rs (i + 1 + size f) 0)) → Untyped E K ns xs i (application f x)
        untyped_call none v T s d = let w = both v T s d in none w.0 (T i) w.2 w.4

        pub typed_application : (ms : List Node) (os : List ℕ) (node : ℕ) → Told n2 ms node (OfCall (get_or rs (i + 1) 0) (get_or rs (i + 1 + size f) 0)) → get_or os i 0 ≡ node → ((j : ℕ) → i < j → get_or os j 0 ≡ get_or rs j 0) → Typed E K ns ms xs os i (application f x)
        typed_application ms os node r here above =
            let nf = some_node f in
            let nx = some_node x in
            let z = size_application f x in
            let parts : (P : ℕ → Type 0) → P i → ((j : ℕ) → i + 1 ≤ j → j < i + 1 + size f + size x → P j) → (j : ℕ) → i ≤ j → j < i + size (application f x) → P j =
            (λ P first rest j h k. ⊎_elim (λ (c : i < j). rest j (omega arith) (omega arith)) (λ (c : j ≤ i). let e : i ≡ j = omega arith in subst P e first) (cases_lt i j)) in
            let within : (j : ℕ) → i + 1 ≤ j → j < i + 1 + size f + size x → get_or rs j 0 < length n2 =
            (λ j h k. ⊎_elim
            (λ (c : j < i + 1 + size f). rw (older j c) (let y = p.inside j h c in omega (arith, q.longer)))
            (λ (c : i + 1 + size f ≤ j). q.inside j c k)
            (cases_lt j (i + 1 + size f))) in
            record {
              sound = r.sound;
              longer = omega (arith, p.longer, q.longer, r.longer);
              inside = parts (λ j. get_or os j 0 < length ms) (rw here r.inside) (λ j h k. rw (above j (omega arith)) (let y = within j h k in omega (arith, r.longer)));
              back = λ v s.
                  (let a = r.back v s in
                  let b = q.back v a.0 in
                  let c = p.back v b.0 in
                  let up : (j : ℕ) → i < j → v (get_or os j 0) ≡ v (get_or rs j 0) = (λ j h. ap v (above j h)) in (
                    c.0,
                    (
                      up (i + 1) (omega arith) ∙ a.1 ∙ ap₂ arrow (sym (up (i + 1 + size f) (omega arith))) (ap v (sym here)),
                      typing_same E K f (types v xs) (λ j. v (get_or qs j 0)) (λ j. v (get_or os j 0)) (i + 1) (λ j h k. ap v (sym (older j k)) ∙ sym (up j (omega arith))) c.1,
                      typing_same E K x (types v xs) (λ j. v (get_or rs j 0)) (λ j. v (get_or os j 0)) (i + 1 + size f) (λ j h k. sym (up j (omega arith))) b.1,
                    ),
                  ));
              onto = λ v T s d.
                  (let w = both v T s d in
                  let k = r.onto w.0 (T i) w.2 w.4 in (
                    k.0,
                    (λ m lt. k.1 m (omega (arith, p.longer, q.longer)) ∙ w.1 m lt),
                    k.2,
                    parts (λ j. k.0 (get_or os j 0) ≡ T j) (ap k.0 here ∙ k.3) (λ j h l. ap k.0 (above j (omega arith)) ∙ k.1 (get_or rs j 0) (within j h l) ∙ w.3 j h l),
                  ));
            }
