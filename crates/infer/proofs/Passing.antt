-- One step of the pass over the nodes of a term.
use Rattle.std.proofs.Common.{◌≡◌, ℕ, ◌+◌, ◌-◌, ◌<◌, ◌≤◌, ◌≢◌, Some, None, List, [], ◌∷◌, ◌++◌, length, get_or, take, drop, set, sym, refl, ap, ap₂, ◌∙◌, subst, ⊎_elim, arith}
use Rattle.std.proofs.lemmas.List.{length-take-le, length_push, get_or-set_same, get_or-set_other, get_or_append_left, get_or_push, take_at}
use Rattle.std.proofs.lemmas.Bool.{cases_lt}
use Rattle.term.specs.Terms.{Term, abstraction, application}
use Rattle.term.specs.declared.TermNode.{TermNode}
use Rattle.term.specs.declared.Symbol.{Symbol}
use Rattle.term.specs.declared.Symbol.TheVariants.{Variable, Abstraction, Application, Primitive, Reference}
use Rattle.graph.specs.Graph.{Sound}
use Rattle.graph.specs.Memory.{nodes}
use Rattle.graph.specs.declared.Graph.{Graph}
use Rattle.graph.specs.declared.Node.TheVariants.{Var, Branch}
use Rattle.graph.proofs.Memory.{graph_length}
use Rattle.types.specs.declared.TypeNode.{TypeNode}
use Rattle.copy.specs.Instances.{Lists, OfList}
use Rattle.copy.specs.Copies.{Copied}
use Rattle.copy.specs.Told.{Told, Never}
use Rattle.copy.proofs.Grow.{pushed_sound}
use Rattle.infer.specs.declared.Found.{Found}
use Rattle.infer.specs.declared.Scope.{Scope}
use Rattle.infer.specs.Typing.{size}
use Rattle.infer.specs.Heads.{head_need, need}
use Rattle.infer.specs.Scopes.{held, Scoped}
use Rattle.infer.specs.Passes.{OfArrow, OfCall, OfLeaf, Refused, Stands, Typed, Untyped, Finds, Clashes}
use Rattle.infer.proofs.Calls.{told_arrow}
use Rattle.infer.proofs.Typings.{size_application}
use Rattle.infer.proofs.Prefixes.{Starts, need_at, Opens, opens, stands_within}
use Rattle.infer.proofs.Terms.{Alone, alone_variable, alone_primitive, alone_reference, told_variable, no_variable, untyped_leaf, typed_leaf, untyped_abstraction, typed_abstraction, untyped_function, untyped_argument, untyped_call, typed_application}

module _ (E K : Lists) (ts : List TermNode) (i : ℕ) (xs : List ℕ) (g : Graph) where
  -- no term stands behind the nodes, nor at a node that says nothing
  pub clash_past : length ts ≤ i → Clashes E K ts i xs g
  clash_past h = record { untyped = λ t s. (let w = stands_within ts i t s in absurd (omega arith)) }

  pub clash_none : Starts ts i None → Clashes E K ts i xs g
  clash_none s = record { untyped = λ t st. absurd (opens ts i t None s.1 st) }

-- the node of the term node i is written
module _ (qs : List ℕ) (i a : ℕ) (fits : i < length qs) where
  written : get_or (set qs i a) i 0 ≡ a
  written = get_or-set_same qs i a 0 fits

  above : (p : ℕ) → i < p → get_or (set qs i a) p 0 ≡ get_or qs p 0
  above p h = let ne : p ≢ i = omega arith in get_or-set_other qs i p a 0 ne

  below : (p : ℕ) → p < i → get_or (set qs i a) p 0 ≡ get_or qs p 0
  below p h = let ne : p ≢ i = omega arith in get_or-set_other qs i p a 0 ne

  -- a property of it, and of those behind it
  from_first : (P : ℕ → Type 0) (j : ℕ) → P a → ((p : ℕ) → i + 1 ≤ p → p < j → P (get_or qs p 0)) → (p : ℕ) → i ≤ p → p < j → P (get_or (set qs i a) p 0)
  from_first P j first rest p h k =
      ⊎_elim
      (λ (c : i < p). subst P (sym (above p c)) (rest p (omega arith) k))
      (λ (c : p ≤ i). let e : i ≡ p = omega arith in subst (λ (q : ℕ). P (get_or (set qs i a) q 0)) e (subst P (sym written) first))
      (cases_lt i p)

-- the binders stay where the innermost is left again
pub scope_back : (s t u v : Scope) (a : ℕ) → s.depth ≤ length s.binders.now → held t ≡ held s ++ a ∷ [] → t.depth ≡ s.depth + 1 → held u ≡ held t → u.depth ≡ t.depth → held v ≡ take (u.depth - 1) (held u) → held v ≡ held s
scope_back s t u v a fits et dt eu du ev =
    let d : u.depth - 1 ≡ s.depth = omega arith in
    ev ∙ ap₂ take d (eu ∙ et) ∙ take_at (held s) (a ∷ []) s.depth (length-take-le s.depth s.binders.now fits)

module _ (E K : Lists) (ts : List TermNode) (i : ℕ) (s : Scope) (ps : List ℕ) (g : Graph) (sound : Sound (nodes g)) (room : g.used + need E K (drop i ts) ≤ length g.memory.now) (scoped : Scoped (held s) g.used) where
  long : length (nodes g) ≡ g.used
  long = graph_length g.memory.now g.used (omega arith)

  scoped' : Scoped (held s) (length (nodes g))
  scoped' = subst (Scoped (held s)) (sym long) scoped

  -- a node without parts
  module _ (l : Symbol) (alone : (t : Term) → Opens ts i t (Some l) → Alone E K (held s) l t) (st : Starts ts i (Some l)) where
    clash_leaf : Never (nodes g) (OfLeaf E K (held s) l) → Clashes E K ts i (held s) g
    clash_leaf never = record { untyped = λ t stands. untyped_leaf E K (nodes g) (held s) i l t (alone t (opens ts i t (Some l) st.1 stands)) never }

    find_leaf : (h : Graph) (a : ℕ) → i < length ps → h.used ≡ g.used + head_need E K (Some l) → length h.memory.now ≡ length g.memory.now → Told (nodes g) (nodes h) a (OfLeaf E K (held s) l) → Finds E K ts i s s ps (set ps i a) g h record { node = a; next = i + 1 }
    find_leaf h a fits eu em p =
        let q = need_at E K ts i (Some l) st in
        let lg = graph_length h.memory.now h.used (omega arith) in
        record {
          forward = omega arith;
          within = omega (arith, st.0);
          room = omega arith;
          scope = refl;
          depth = refl;
          older = below ps i a fits;
          node = sym (written ps i a fits);
          sound = p.sound;
          longer = omega arith;
          inside = from_first ps i a fits (λ b. b < h.used) (i + 1) (omega (arith, lg, p.inside)) (λ j h k. absurd (omega arith));
          typed = λ t stands.
              (let is = alone t (opens ts i t (Some l) st.1 stands) in
              (let z = is.one in omega arith, typed_leaf E K (nodes g) (nodes h) (held s) (set ps i a) i a l t is (written ps i a fits) p));
        }

  pub clash_variable : (k : ℕ) → Starts ts i (Some (Variable k)) → length (held s) ≤ k → Clashes E K ts i (held s) g
  clash_variable k st h = clash_leaf (Variable k) (alone_variable E K (held s) k) st (no_variable E K (nodes g) (held s) k h)

  pub find_variable : (k a : ℕ) → Starts ts i (Some (Variable k)) → i < length ps → (k < length (held s)) × (a ≡ get_or (held s) (length (held s) - 1 - k) 0) → Finds E K ts i s s ps (set ps i a) g g record { node = a; next = i + 1 }
  find_variable k a st fits h = find_leaf (Variable k) (alone_variable E K (held s) k) st g a fits (omega arith) refl (told_variable E K (nodes g) (held s) k a sound scoped' h.0 h.1)

  -- a copy, if the list has nodes
  none_left : (l : List TypeNode) → length l ≡ 0 → Never (nodes g) (λ v τ. OfList l τ)
  none_left l e v τ t d = let h = d.some in omega arith

  pub clash_primitive : (k : ℕ) (h : Graph) → Starts ts i (Some (Primitive k)) → Copied (E k) (nodes g) (nodes h) None → Clashes E K ts i (held s) g
  clash_primitive k h st e = clash_leaf (Primitive k) (alone_primitive E K (held s) k) st (none_left (E k) e)

  pub find_primitive : (k a : ℕ) (h : Graph) → Starts ts i (Some (Primitive k)) → i < length ps → h.used ≡ g.used + length (E k) → length h.memory.now ≡ length g.memory.now → Copied (E k) (nodes g) (nodes h) (Some a) → Finds E K ts i s s ps (set ps i a) g h record { node = a; next = i + 1 }
  find_primitive k a h st fits eu em p = find_leaf (Primitive k) (alone_primitive E K (held s) k) st h a fits eu em p

  pub clash_reference : (k : ℕ) (h : Graph) → Starts ts i (Some (Reference k)) → Copied (K k) (nodes g) (nodes h) None → Clashes E K ts i (held s) g
  clash_reference k h st e = clash_leaf (Reference k) (alone_reference E K (held s) k) st (none_left (K k) e)

  pub find_reference : (k a : ℕ) (h : Graph) → Starts ts i (Some (Reference k)) → i < length ps → h.used ≡ g.used + length (K k) → length h.memory.now ≡ length g.memory.now → Copied (K k) (nodes g) (nodes h) (Some a) → Finds E K ts i s s ps (set ps i a) g h record { node = a; next = i + 1 }
  find_reference k a h st fits eu em p = find_leaf (Reference k) (alone_reference E K (held s) k) st h a fits eu em p

  -- an abstraction, whose binder is the graph node a
  module _ (st : Starts ts i (Some Abstraction)) (g1 : Graph) (e1 : nodes g1 ≡ nodes g ++ Var ∷ []) (u1 : g1.used ≡ g.used + 1) (m1 : length g1.memory.now ≡ length g.memory.now) (s1 : Scope) (a : ℕ) (ea : a ≡ g.used) (ey : held s1 ≡ held s ++ a ∷ []) where
    two_more : need E K (drop i ts) ≡ 2 + need E K (drop (i + 1) ts)
    two_more = need_at E K ts i (Some Abstraction) st

    pub body_sound : Sound (nodes g1)
    body_sound = pushed_sound (nodes g) (nodes g1) Var e1 sound tt

    pub body_room : g1.used + 1 + need E K (drop (i + 1) ts) ≡ g.used + need E K (drop i ts)
    body_room = omega (arith, two_more)

    pub body_scoped : Scoped (held s1) g1.used
    body_scoped =
        subst (λ (zs : List ℕ). Scoped zs g1.used) (sym ey)
        (λ k h. ⊎_elim
        (λ (lt : k < length (held s)). rw (get_or_append_left (held s) (a ∷ []) 0 k lt) (let x = scoped k lt in omega arith))
        (λ (ge : length (held s) ≤ k). let q : length (held s) ≡ k = omega (arith, length_push (held s) a) in rw (get_or_push (held s) a 0 k q) (omega arith))
        (cases_lt k (length (held s))))

    binder : a ≡ length (nodes g)
    binder = ea ∙ sym long

    pub clash_body : Clashes E K ts (i + 1) (held s1) g1 → Clashes E K ts i (held s) g
    clash_body c =
        record {
          untyped = λ t stands.
              (let o = opens ts i t (Some Abstraction) st.1 stands in
              subst (Untyped E K (nodes g) (held s) i) (sym o.1)
              (untyped_abstraction E K (nodes g) (nodes g1) (held s) (held s1) i o.0 a sound scoped' binder e1 ey (c.untyped o.0 o.2)));
        }

    pub find_abstraction : (s2 s3 : Scope) (qs : List ℕ) (g2 g3 : Graph) (f : Found) (b : ℕ) → Finds E K ts (i + 1) s1 s2 ps qs g1 g2 f → i < length qs → held s3 ≡ held s → s3.depth ≡ s.depth → length g2.memory.now ≡ length g1.memory.now → b ≡ g2.used → g3.used ≡ g2.used + 1 → length g3.memory.now ≡ length g2.memory.now → nodes g3 ≡ nodes g2 ++ Branch 2 a f.node ∷ [] → Finds E K ts i s s3 ps (set qs i b) g g3 record { node = b; next = f.next }
    find_abstraction s2 s3 qs g2 g3 f b p fits scope depth m2 eb u3 m3 e3 =
        let l2 = graph_length g2.memory.now g2.used (omega (arith, p.room, two_more)) in
        let at : f.node < g2.used = rw p.node (p.inside (i + 1) (omega arith) p.forward) in
        let q : Told (nodes g2) (nodes g3) b (OfArrow a f.node) = told_arrow (nodes g2) (nodes g3) a f.node b p.sound (omega (arith, p.longer)) (omega arith) (eb ∙ sym l2) e3 in
        record {
          forward = omega (arith, p.forward);
          within = p.within;
          room = omega (arith, p.room, two_more);
          scope = scope;
          depth = depth;
          older = λ j h. below qs i b fits j h ∙ p.older j (omega arith);
          node = sym (written qs i b fits);
          sound = q.sound;
          longer = omega (arith, p.longer);
          inside = from_first qs i b fits (λ c. c < g3.used) f.next (omega arith) (λ j h k. let x = p.inside j h k in omega arith);
          typed = λ t stands.
              (let o = opens ts i t (Some Abstraction) st.1 stands in
              let c = p.typed o.0 o.2 in (
                c.0 ∙ (let z : i + 1 + size o.0 ≡ i + size (abstraction o.0) = omega arith in z) ∙ ap (λ (u : Term). i + size u) (sym o.1),
                subst (Typed E K (nodes g) (nodes g3) (held s) (set qs i b) i) (sym o.1)
                    (typed_abstraction E K (nodes g) (nodes g1) (held s) (held s1) i o.0 a sound scoped' binder e1 ey (nodes g2) (nodes g3) qs (set qs i b) b c.1
                    (subst (λ (m : ℕ). Told (nodes g2) (nodes g3) b (OfArrow a m)) p.node q) (written qs i b fits) (above qs i b fits)),
              ));
        }

  -- an application
  module _ (st : Starts ts i (Some Application)) where
    two_most : need E K (drop i ts) ≡ 2 + need E K (drop (i + 1) ts)
    two_most = need_at E K ts i (Some Application) st

    pub clash_function : Clashes E K ts (i + 1) (held s) g → Clashes E K ts i (held s) g
    clash_function c =
        record {
          untyped = λ t stands.
              (let o = opens ts i t (Some Application) st.1 stands in
              subst (Untyped E K (nodes g) (held s) i) (sym o.2) (untyped_function E K (nodes g) (held s) i o.0 o.1 (c.untyped o.0 o.3)));
        }

    module _ (s1 : Scope) (qs : List ℕ) (g1 : Graph) (f : Found) (p : Finds E K ts (i + 1) s s1 ps qs g g1 f) where
      -- the argument begins where the function ends
      function : (t : Term) (o : Opens ts i t (Some Application)) → Typed E K (nodes g) (nodes g1) (held s) qs (i + 1) o.0 × Stands ts f.next o.1 × (f.next ≡ i + 1 + size o.0)
      function t o = let b = p.typed o.0 o.3 in (b.1, subst (λ (j : ℕ). Stands ts j o.1) (sym b.0) o.4, b.0)

      pub clash_argument : Clashes E K ts f.next (held s1) g1 → Clashes E K ts i (held s) g
      clash_argument c =
          record {
            untyped = λ t stands.
                (let o = opens ts i t (Some Application) st.1 stands in
                let b = function t o in
                let a = c.untyped o.1 b.1 in
                subst (Untyped E K (nodes g) (held s) i) (sym o.2)
                (untyped_argument E K (nodes g) (held s) i o.0 o.1 (nodes g1) qs scoped' b.0
                (subst (λ (j : ℕ). Untyped E K (nodes g1) (held s) j o.1) b.2 (subst (λ (e : List ℕ). Untyped E K (nodes g1) e f.next o.1) p.scope a))));
          }

      module _ (s2 : Scope) (rs : List ℕ) (g2 : Graph) (x : Found) (q : Finds E K ts f.next s1 s2 qs rs g1 g2 x) where
        pub call_room : g2.used + 2 ≤ g.used + need E K (drop i ts)
        call_room = omega (arith, p.room, q.room, two_most)

        -- the nodes of the function and of the argument
        function_node : f.node ≡ get_or rs (i + 1) 0
        function_node = p.node ∙ sym (q.older (i + 1) (omega (arith, p.forward)))

        argument : (t : Term) (o : Opens ts i t (Some Application)) → (x.next ≡ i + 1 + size o.0 + size o.1) × Typed E K (nodes g1) (nodes g2) (held s) rs (i + 1 + size o.0) o.1 × ((j : ℕ) → j < i + 1 + size o.0 → get_or rs j 0 ≡ get_or qs j 0)
        argument t o =
            let b = function t o in
            let a = q.typed o.1 b.1 in (
              a.0 ∙ ap (λ (j : ℕ). j + size o.1) b.2,
              subst (λ (j : ℕ). Typed E K (nodes g1) (nodes g2) (held s) rs j o.1) b.2 (subst (λ (e : List ℕ). Typed E K (nodes g1) (nodes g2) e rs f.next o.1) p.scope a.1),
              λ j h. q.older j (omega (arith, b.2)),
            )

        -- what the call asks, by the nodes that stand in rs
        by_nodes : (P : ℕ → ℕ → Type 0) (m : ℕ) → f.next ≡ m → P f.node x.node → P (get_or rs (i + 1) 0) (get_or rs m 0)
        by_nodes P m e c = subst (λ (j : ℕ). P (get_or rs (i + 1) 0) (get_or rs j 0)) e (subst (P (get_or rs (i + 1) 0)) q.node (subst (λ (j : ℕ). P j x.node) function_node c))

        pub clash_call : Refused (nodes g2) (OfCall f.node x.node) → Clashes E K ts i (held s) g
        clash_call r =
            record {
              untyped = λ t stands.
                  (let o = opens ts i t (Some Application) st.1 stands in
                  let b = function t o in
                  let a = argument t o in
                  subst (Untyped E K (nodes g) (held s) i) (sym o.2)
                  (untyped_call E K (nodes g) (held s) i o.0 o.1 (nodes g1) qs scoped' b.0 (nodes g2) rs a.1 a.2
                  (by_nodes (λ j k. Never (nodes g2) (OfCall j k)) (i + 1 + size o.0) b.2 r.never)));
            }

        pub find_application : (g3 : Graph) (a : ℕ) → i < length rs → length g3.memory.now ≡ length g.memory.now → g3.used ≡ g2.used + 2 → Told (nodes g2) (nodes g3) a (OfCall f.node x.node) → Finds E K ts i s s2 ps (set rs i a) g g3 record { node = a; next = x.next }
        find_application g3 a fits m3 u3 r =
            let lg = graph_length g3.memory.now g3.used (omega (arith, call_room)) in
            record {
              forward = omega (arith, p.forward, q.forward);
              within = q.within;
              room = omega (arith, p.room, q.room, two_most);
              scope = q.scope ∙ p.scope;
              depth = q.depth ∙ p.depth;
              older = λ j h. below rs i a fits j h ∙ q.older j (omega (arith, p.forward)) ∙ p.older j (omega arith);
              node = sym (written rs i a fits);
              sound = r.sound;
              longer = omega (arith, p.longer, q.longer);
              inside = from_first rs i a fits (λ b. b < g3.used) x.next (omega (arith, lg, r.inside))
                  (λ j h k. ⊎_elim
                  (λ (c : j < f.next). rw (q.older j c) (let y = p.inside j h c in omega (arith, q.longer)))
                  (λ (c : f.next ≤ j). let y = q.inside j c k in omega arith)
                  (cases_lt j f.next));
              typed = λ t stands.
                  (let o = opens ts i t (Some Application) st.1 stands in
                  let b = function t o in
                  let c = argument t o in (
                    c.0 ∙ (let z : i + 1 + size o.0 + size o.1 ≡ i + size (application o.0 o.1) = omega (arith, size_application o.0 o.1) in z) ∙ ap (λ (u : Term). i + size u) (sym o.2),
                    subst (Typed E K (nodes g) (nodes g3) (held s) (set rs i a) i) (sym o.2)
                        (typed_application E K (nodes g) (held s) i o.0 o.1 (nodes g1) qs scoped' b.0 (nodes g2) rs c.1 c.2 (nodes g3) (set rs i a) a
                        (by_nodes (λ j k. Told (nodes g2) (nodes g3) a (OfCall j k)) (i + 1 + size o.0) b.2 r) (written rs i a fits) (above rs i a fits)),
                  ));
            }
