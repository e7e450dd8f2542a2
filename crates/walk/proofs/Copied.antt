-- A lawful list and its copy in a graph have the same types, up to the names of variables.
use Rattle.std.proofs.Common.{◌≡◌, ℕ, zero, suc, ◌-◌, ◌<◌, ◌≤◌, Bool, true, false, cond, ◌&&◌, eqb, ◌≢◌, List, [], ◌∷◌, ◌++◌, length, get_or, replicate, sym, refl, ap, ◌∙◌, subst, ap₂, ⊎_elim, arith}
use Rattle.std.proofs.lemmas.Bool.{cases_eq, cases_lt, cond-true, cond-false, eq-eqb, ne_eqb, eqb-true, and_parts, and_from}
use Rattle.types.specs.declared.TypeNode.{TypeNode}
use Rattle.types.specs.Types.{Ty, variable, base, branch, apply, Instance}
use Rattle.types.specs.Lists.{zero_node, Lawful, type_at, meaning}
use Rattle.graph.specs.Graph.{view, graph, Says, Solves, Inside, Sound}
use Rattle.graph.proofs.Writes.{says_at}
use Rattle.graph.proofs.Memory.{graph_at, graph_length}
use Rattle.graph.specs.declared.Node.{Node}
use Rattle.graph.specs.declared.Node.TheVariants.{Var, Base, Branch, Link}
use Rattle.normal.specs.Normal.{normal_of}
use Rattle.normal.proofs.Reading.{lower_lawful, at_variable, at_base, at_branch}
use Rattle.normal.proofs.Rename.{mutual_keeps_list}
use Rattle.walk.specs.Reads.{MostGeneral}
use Rattle.walk.specs.Listing.{Unsolvable, Listed}
use Rattle.walk.specs.Copies.{Copy, Normalized}
use Rattle.walk.proofs.Finding.{same_node}

-- ---- records as graph nodes

view_variable : (x : TypeNode) → x.kind ≡ 0 → view x ≡ Var
view_variable x e = cond-true (eqb x.kind 0) Var _ (eq-eqb x.kind 0 e)

view_base : (x : TypeNode) → x.kind ≡ 1 → view x ≡ Base x.left
view_base x e = cond-false (eqb x.kind 0) Var _ (ne_eqb x.kind 0 (λ z. omega arith)) ∙ cond-true (eqb x.kind 1) (Base x.left) _ (eq-eqb x.kind 1 e)

view_branch : (x : TypeNode) → 2 ≤ x.kind → x.kind ≤ 2 → view x ≡ Branch x.kind x.left x.right
view_branch x e f =
    cond-false (eqb x.kind 0) Var _ (ne_eqb x.kind 0 (λ z. omega arith))
    ∙ cond-false (eqb x.kind 1) (Base x.left) _ (ne_eqb x.kind 1 (λ z. omega arith))
    ∙ cond-false (eqb x.kind 255) (Link x.left) _ (ne_eqb x.kind 255 (λ z. omega arith))

-- ---- the first place of a variable

named : TypeNode → ℕ → Bool
named x n = eqb x.kind 0 && eqb x.left n

first_place : List TypeNode → ℕ → ℕ
first_place [] n = 0
first_place (x ∷ xs) n = cond (named x n) 0 (suc (first_place xs n))

first_is : (l : List TypeNode) (n p : ℕ) → p < length l → (get_or l p zero_node).kind ≡ 0 → (get_or l p zero_node).left ≡ n → (first_place l n ≤ p) × ((get_or l (first_place l n) zero_node).kind ≡ 0) × ((get_or l (first_place l n) zero_node).left ≡ n)
unfolding named first_place
first_is [] n p h k e = absurd (omega arith)
first_is (x ∷ xs) n zero h k e = subst (λ (b : Bool). (cond b 0 (suc (first_place xs n)) ≤ 0) × ((get_or (x ∷ xs) (cond b 0 (suc (first_place xs n))) zero_node).kind ≡ 0) × ((get_or (x ∷ xs) (cond b 0 (suc (first_place xs n))) zero_node).left ≡ n)) (sym (and_from (eqb x.kind 0) (eqb x.left n) (eq-eqb x.kind 0 k) (eq-eqb x.left n e))) (omega arith, k, e)
first_is (x ∷ xs) n (suc p) h k e = go (first_is xs n p (omega arith) k e) (named x n) refl
  where
    go : (first_place xs n ≤ p) × ((get_or xs (first_place xs n) zero_node).kind ≡ 0) × ((get_or xs (first_place xs n) zero_node).left ≡ n) → (b : Bool) → (eqb x.kind 0 && eqb x.left n) ≡ b → (cond b 0 (suc (first_place xs n)) ≤ suc p) × ((get_or (x ∷ xs) (cond b 0 (suc (first_place xs n))) zero_node).kind ≡ 0) × ((get_or (x ∷ xs) (cond b 0 (suc (first_place xs n))) zero_node).left ≡ n)
    go rest true q = let w = and_parts (eqb x.kind 0) (eqb x.left n) q in (omega arith, eqb-true x.kind 0 w.0, eqb-true x.left n w.1)
    go rest false q = (omega (arith, rest.0), rest.1, rest.2)

-- ---- the copy

module _ (l : List TypeNode) (law : Lawful l) (ns : List Node) (long : length ns ≡ length l) (copy : (p : ℕ) → p < length l → Copy l p (get_or ns p Var)) where
  -- by the kind of a record
  by_kind : (P : Type 0) (p : ℕ) → p < length l → ((get_or l p zero_node).kind ≡ 0 → P) → ((get_or l p zero_node).kind ≡ 1 → P) → (2 ≤ (get_or l p zero_node).kind → P) → P
  by_kind P p h v b a =
      let k = (get_or l p zero_node).kind in
      ⊎_elim v (λ (n : k ≢ 0). ⊎_elim (λ (lt : k < 2). b (omega arith)) a (cases_lt k 2)) (cases_eq k 0)

  -- equal records have one type
  type_same : (p q : ℕ) → p < length l → q < length l → get_or l q zero_node ≡ get_or l p zero_node → type_at l q ≡ type_at l p
  type_same p q hp hq e =
      let low = lower_lawful l law in
      let x = get_or l p zero_node in
      let y = get_or l q zero_node in
      let k : y.kind ≡ x.kind = ap (λ (n : TypeNode). n.kind) e in
      by_kind (type_at l q ≡ type_at l p) p hp
      (λ a. at_variable l low q (k ∙ a) ∙ ap (λ (n : TypeNode). variable n.left) e ∙ sym (at_variable l low p a))
      (λ a. at_base l low q (k ∙ a) ∙ ap (λ (n : TypeNode). base n.left) e ∙ sym (at_base l low p a))
      (λ a. at_branch l low q hq (omega arith) ∙ ap (λ (n : TypeNode). branch n.kind (type_at l n.left) (type_at l n.right)) e ∙ sym (at_branch l low p hp a))

  pub copy_sound : Sound ns
  copy_sound i h =
      let hi : i < length l = omega arith in
      let x = get_or l i zero_node in
      let e = law.each i hi in
      ⊎_elim
      (λ (c : (get_or ns i Var ≡ view x) × ((q : ℕ) → q < i → get_or l q zero_node ≡ x → ⊥)).
      subst (Inside (length ns) i) (sym c.0)
      (by_kind (Inside (length ns) i (view x)) i hi
      (λ a. subst (Inside (length ns) i) (sym (view_variable x a)) tt)
      (λ a. subst (Inside (length ns) i) (sym (view_base x a)) tt)
      (λ a. let w = e.lower a in subst (Inside (length ns) i) (sym (view_branch x a e.kinds)) (omega (arith, w.0), omega (arith, w.1)))))
      (λ (c : (q : ℕ) × (q < i) × (get_or l q zero_node ≡ x) × (get_or ns i Var ≡ Link q)). subst (Inside (length ns) i) (sym c.3) c.1)
      (copy i hi)

  -- the list's own types solve it
  pub copy_solved : Solves (type_at l) ns
  copy_solved i h =
      let hi : i < length l = omega arith in
      let low = lower_lawful l law in
      let x = get_or l i zero_node in
      let v = type_at l in
      ⊎_elim
      (λ (c : (get_or ns i Var ≡ view x) × ((q : ℕ) → q < i → get_or l q zero_node ≡ x → ⊥)).
      subst (Says v i) (sym c.0)
      (by_kind (Says v i (view x)) i hi
      (λ a. subst (Says v i) (sym (view_variable x a)) tt)
      (λ a. subst (Says v i) (sym (view_base x a)) (at_base l low i a))
      (λ a. subst (Says v i) (sym (view_branch x a (law.each i hi).kinds)) (at_branch l low i hi a))))
      (λ (c : (q : ℕ) × (q < i) × (get_or l q zero_node ≡ x) × (get_or ns i Var ≡ Link q)).
      subst (Says v i) (sym c.3) (sym (type_same i c.0 hi (let lt = c.1 in omega arith) c.2)))
      (copy i hi)

  module _ (τ : ℕ → Ty) (s : Solves τ ns) where
    abbrev names : ℕ → Ty
    names n = τ (first_place l n)

    -- all nodes of one variable have one type
    variable_type : (b p : ℕ) → p < b → p < length l → (get_or l p zero_node).kind ≡ 0 → τ p ≡ names (get_or l p zero_node).left
    variable_type zero p lt h k = absurd (omega arith)
    variable_type (suc b) p lt h k =
        let x = get_or l p zero_node in
        let f = first_is l x.left p h k refl in
        let i = first_place l x.left in
        let y = get_or l i zero_node in
        ⊎_elim
        (λ (c : (get_or ns p Var ≡ view x) × ((q : ℕ) → q < p → get_or l q zero_node ≡ x → ⊥)).
        ⊎_elim
        (λ (e : p ≡ i). ap τ e)
        (λ (ne : p ≢ i).
        absurd (c.1 i (omega (arith, f.0)) (same_node y x (f.1 ∙ sym k) f.2 ((law.each i (omega (arith, f.0))).leaf (omega (arith, f.1)) ∙ sym ((law.each p h).leaf (omega arith))))))
        (cases_eq p i))
        (λ (c : (q : ℕ) × (q < p) × (get_or l q zero_node ≡ x) × (get_or ns p Var ≡ Link q)).
        let q = c.0 in
        let lq = c.1 in
        says_at τ ns p (Link q) s (omega arith) c.3 ∙ variable_type b q (omega arith) (omega arith) (ap (λ (n : TypeNode). n.kind) c.2 ∙ k) ∙ ap (λ (n : TypeNode). names n.left) c.2)
        (copy p h)

    -- each solution is an instance of the list's types
    copy_instance : (b p : ℕ) → p < b → p < length l → apply names (type_at l p) ≡ τ p
    copy_instance zero p lt h = absurd (omega arith)
    copy_instance (suc b) p lt h =
        let low = lower_lawful l law in
        let x = get_or l p zero_node in
        let hn : p < length ns = omega arith in
        ⊎_elim
        (λ (c : (get_or ns p Var ≡ view x) × ((q : ℕ) → q < p → get_or l q zero_node ≡ x → ⊥)).
        by_kind (apply names (type_at l p) ≡ τ p) p h
        (λ a. ap (apply names) (at_variable l low p a) ∙ sym (variable_type (suc p) p (omega arith) h a))
        (λ a. ap (apply names) (at_base l low p a) ∙ sym (says_at τ ns p (Base x.left) s hn (c.0 ∙ view_base x a)))
        (λ a.
        let w = low p h a in
        ap (apply names) (at_branch l low p h a)
        ∙ ap₂ (branch x.kind) (copy_instance b x.left (omega (arith, w.0)) (omega (arith, w.0))) (copy_instance b x.right (omega (arith, w.1)) (omega (arith, w.1)))
        ∙ sym (says_at τ ns p (Branch x.kind x.left x.right) s hn (c.0 ∙ view_branch x a (law.each p h).kinds))))
        (λ (c : (q : ℕ) × (q < p) × (get_or l q zero_node ≡ x) × (get_or ns p Var ≡ Link q)).
        let q = c.0 in
        let lq = c.1 in
        ap (apply names) (sym (type_same p q h (omega arith) c.2)) ∙ copy_instance b q (omega arith) (omega arith) ∙ sym (says_at τ ns p (Link q) s hn c.3))
        (copy p h)

  pub copy_normal : (τ : ℕ → Ty) → MostGeneral τ ns → (p : ℕ) → p < length l → normal_of (τ p) ≡ normal_of (type_at l p)
  copy_normal τ g p h =
      let back : Instance (type_at l p) (τ p) = (names τ g.solves, copy_instance τ g.solves (suc p) p (omega arith) h) in
      let there : Instance (τ p) (type_at l p) = (type_at l, g.general (type_at l) copy_solved p (omega arith)) in
      mutual_keeps_list (τ p) (type_at l p) there back

-- ---- the copy in a memory

module _ (l m : List TypeNode) (law : Lawful l) (fits : length l ≤ length m) (copy : (p : ℕ) → p < length l → Copy l p (view (get_or m p zero_node))) where
  copy_graph : (p : ℕ) → p < length l → Copy l p (get_or (graph m (length l)) p Var)
  copy_graph p h = subst (Copy l p) (sym (graph_at m (length l) p h)) (copy p h)

  pub graph_sound : Sound (graph m (length l))
  graph_sound = copy_sound l law (graph m (length l)) (graph_length m (length l) fits) copy_graph

  pub graph_solved : Unsolvable (graph m (length l)) → ⊥
  graph_solved none = none (type_at l) (copy_solved l law (graph m (length l)) (graph_length m (length l) fits) copy_graph)

  pub normalized : (qs : List ℕ) (memory : List TypeNode) (n : ℕ) → Listed (graph m (length l)) ((length l - 1) ∷ []) qs memory n → Normalized l memory n
  normalized qs memory n listed =
      let τ = listed.found.types in
      let e : normal_of (τ (length l - 1)) ≡ normal_of (meaning l) =
      copy_normal l law (graph m (length l)) (graph_length m (length l) fits) copy_graph τ listed.found.general (length l - 1) (omega (arith, law.some)) in
      record {
        lawful = law;
        count = listed.count ∙ ap length e;
        list = listed.list ∙ ap (λ (r : List TypeNode). r ++ replicate (length memory - n) zero_node) e;
      }
