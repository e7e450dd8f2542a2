-- A copy of a list has exactly the instances of the list's type.
use Rattle.std.proofs.Common.{◌≡◌, ℕ, zero, suc, ◌+◌, ◌-◌, ◌<◌, ◌≤◌, Bool, true, false, cond, ◌&&◌, eqb, ◌≢◌, List, [], ◌∷◌, ◌++◌, length, get_or, sym, refl, ap, ◌∙◌, subst, ap₂, ⊎_elim, arith}
use Rattle.std.proofs.lemmas.Bool.{cases_eq, cond-true, cond-false, eq-eqb, eqb-true, and_parts}
use Rattle.types.specs.Types.{Ty, variable, base, branch, apply}
use Rattle.types.specs.Lists.{zero_node, Lawful, type_at}
use Rattle.types.specs.declared.TypeNode.{TypeNode}
use Rattle.graph.specs.Graph.{Says, Solves, Inside, Sound}
use Rattle.graph.specs.declared.Node.{Node}
use Rattle.graph.specs.declared.Node.TheVariants.{Var, Base, Branch, Link}
use Rattle.copy.specs.Copies.{IsVariable, First, Fresh}
use Rattle.copy.specs.Instances.{OfList}
use Rattle.copy.specs.Told.{Agree, Told}
use Rattle.copy.proofs.Grow.{upd, upd_same, upd_below, pushed_length, pushed_sound, pushed_pop, pushed_last, pushed_onto}
use Rattle.copy.proofs.Reading.{variable_at, base_at, branch_at}

-- whether a node is the variable a, and the first place that is
abbrev test : TypeNode → ℕ → Bool
test x a = eqb x.kind 0 && eqb x.left a

abbrev find : List TypeNode → ℕ → ℕ
find [] a = 0
find (x ∷ xs) a = cond (test x a) 0 (suc (find xs a))

test_from : (x : TypeNode) (a : ℕ) → test x a ≡ true → IsVariable x a
test_from x a e = let both = and_parts (eqb x.kind 0) (eqb x.left a) e in record { leaf = eqb-true x.kind 0 both.0; number = eqb-true x.left a both.1 }

test_is : (x : TypeNode) (a : ℕ) → IsVariable x a → test x a ≡ true
test_is x a i = ap₂ ◌&&◌ (eq-eqb x.kind 0 i.leaf) (eq-eqb x.left a i.number)

falsely : (b : Bool) → (b ≡ true → ⊥) → b ≡ false
falsely true h = absurd (h refl)
falsely false h = refl

first_find : (xs : List TypeNode) (a r : ℕ) → r < length xs → First xs a r → find xs a ≡ r
first_find [] a r h f = absurd (omega arith)
first_find (x ∷ xs) a zero h f = cond-true (test x a) 0 (suc (find xs a)) (test_is x a f.here)
first_find (x ∷ xs) a (suc r) h f =
    cond-false (test x a) 0 (suc (find xs a)) (falsely (test x a) (λ e. f.before 0 (omega arith) (test_from x a e)))
    ∙ ap suc (first_find xs a r (omega arith) record { here = f.here; before = λ j l i. f.before (suc j) (omega arith) i })

module _ (l : List TypeNode) (lawful : Lawful l) where
  -- what v gives the variables of a copy that stands at n
  abbrev choice : (ℕ → Ty) → ℕ → ℕ → Ty
  choice v n a = v (n + find l a)

  -- the first i nodes of the list are copied to the end of ns
  pub record Partly (ns ms : List Node) (i : ℕ) : Type 0 where
    pub sound : Sound ms
    pub long : length ms ≡ length ns + i
    pub back : (v : ℕ → Ty) → Solves v ms → Solves v ns × ((j : ℕ) → j < i → v (length ns + j) ≡ apply (choice v (length ns)) (type_at l j))
    pub onto : (v σ : ℕ → Ty) → Solves v ns → (w : ℕ → Ty) × Agree (length ns) w v × Solves w ms × ((j : ℕ) → j < i → w (length ns + j) ≡ apply σ (type_at l j))

  pub partly_none : (ns : List Node) → Sound ns → Partly ns ns 0
  partly_none ns sound = record { sound = sound; long = omega arith; back = λ v s. (s, λ j h. absurd (omega arith)); onto = λ v σ s. (v, (λ k h. refl), s, λ j h. absurd (omega arith)) }

  module _ (ns ms : List Node) (i : ℕ) (h : i < length l) (p : Partly ns ms i) where
    -- the parts of a branch stand lower
    lower : (k : ℕ) → 2 ≤ k → (get_or l i zero_node).kind ≡ k → ((get_or l i zero_node).left < i) × ((get_or l i zero_node).right < i)
    lower k two e = (lawful.each i h).lower (omega arith)

    fresh_inside : (x : Node) → Fresh l (length ns) i x → Inside (length ms + 1) (length ms) x
    fresh_inside Var f = tt
    fresh_inside (Base c) f = tt
    fresh_inside (Branch k a b) f = let low = lower k f.0 f.1 in (omega (arith, p.long, f.2, low.0), omega (arith, p.long, f.3, low.1))
    fresh_inside (Link m) f = omega (arith, p.long, f.1, f.2)

    -- a copied node says that v gives it an instance
    fresh_back : (x : Node) (v : ℕ → Ty) → Fresh l (length ns) i x → Says v (length ns + i) x → ((j : ℕ) → j < i → v (length ns + j) ≡ apply (choice v (length ns)) (type_at l j)) → v (length ns + i) ≡ apply (choice v (length ns)) (type_at l i)
    fresh_back Var v f s below = ap (λ (j : ℕ). v (length ns + j)) (sym (first_find l (get_or l i zero_node).left i h f)) ∙ ap (apply (choice v (length ns))) (sym (variable_at l lawful i f.here.leaf))
    fresh_back (Base c) v f s below = s ∙ ap (λ (d : ℕ). apply (choice v (length ns)) (base d)) (sym f.1) ∙ ap (apply (choice v (length ns))) (sym (base_at l lawful i f.0))
    fresh_back (Branch k a b) v f s below =
        let low = lower k f.0 f.1 in
        s ∙ ap₂ (branch k) (ap v f.2 ∙ below (get_or l i zero_node).left low.0) (ap v f.3 ∙ below (get_or l i zero_node).right low.1) ∙ ap (apply (choice v (length ns))) (sym (branch_at l lawful i k h f.1 f.0))
    fresh_back (Link m) v f s below =
        s ∙ ap v f.1 ∙ ap (λ (j : ℕ). v (length ns + j)) (sym (first_find l (get_or l i zero_node).left f.0 (omega (arith, f.2)) f.4)) ∙ ap (apply (choice v (length ns))) (sym (variable_at l lawful i f.3))

    -- and an instance can be given to it
    fresh_onto : (x : Node) (w σ : ℕ → Ty) → Fresh l (length ns) i x → w (length ns + i) ≡ apply σ (type_at l i) → ((j : ℕ) → j < i → w (length ns + j) ≡ apply σ (type_at l j)) → Says w (length ns + i) x
    fresh_onto Var w σ f here below = tt
    fresh_onto (Base c) w σ f here below = here ∙ ap (apply σ) (base_at l lawful i f.0) ∙ ap base f.1
    fresh_onto (Branch k a b) w σ f here below =
        let low = lower k f.0 f.1 in
        here ∙ ap (apply σ) (branch_at l lawful i k h f.1 f.0) ∙ ap₂ (branch k) (sym (ap w f.2 ∙ below (get_or l i zero_node).left low.0)) (sym (ap w f.3 ∙ below (get_or l i zero_node).right low.1))
    fresh_onto (Link m) w σ f here below =
        here ∙ ap (apply σ) (variable_at l lawful i f.3 ∙ ap variable (sym f.4.here.number) ∙ sym (variable_at l lawful f.0 f.4.here.leaf)) ∙ sym (ap w f.1 ∙ below f.0 f.2)

    pub partly_more : (os : List Node) (x : Node) → os ≡ ms ++ x ∷ [] → Fresh l (length ns) i x → Partly ns os (i + 1)
    partly_more os x e f =
        let le = pushed_length ms os x e in
        let el : length ns + i ≡ length ms = sym p.long in
        let all : (P : ℕ → Type 0) → ((j : ℕ) → j < i → P j) → P i → (j : ℕ) → j < i + 1 → P j = (λ P less here j lt. ⊎_elim (λ (q : j ≡ i). subst P (sym q) here) (λ (q : j ≢ i). less j (omega arith)) (cases_eq j i)) in
        record {
          sound = pushed_sound ms os x e p.sound (fresh_inside x f);
          long = omega (arith, le, p.long);
          back = λ v s.
              (let b = p.back v (pushed_pop ms os x e v s) in
              (b.0, all (λ j. v (length ns + j) ≡ apply (choice v (length ns)) (type_at l j)) b.1 (fresh_back x v f (pushed_last ms os x e v (length ns + i) el s) b.1)));
          onto = λ v σ s.
              (let o = p.onto v σ s in
              let τ : Ty = apply σ (type_at l i) in
              let w : ℕ → Ty = upd o.0 (length ns + i) τ in
              let below : (j : ℕ) → j < i → w (length ns + j) ≡ apply σ (type_at l j) = (λ j lt. upd_below o.0 (length ns + i) τ (length ns + j) (omega arith) ∙ o.3 j lt) in
              let here : w (length ns + i) ≡ τ = upd_same o.0 (length ns + i) τ in (
                w,
                (λ k lt. upd_below o.0 (length ns + i) τ k (omega arith) ∙ o.1 k lt),
                pushed_onto ms os x e o.0 (length ns + i) τ el p.sound o.2 (fresh_onto x w σ f here below),
                all (λ j. w (length ns + j) ≡ apply σ (type_at l j)) below here,
              ));
        }

  pub told_copied : (ns ms : List Node) (i : ℕ) → Partly ns ms (length l) → i ≡ length ns + (length l - 1) → Told ns ms i (λ v τ. OfList l τ)
  told_copied ns ms i p ei =
      let some : 0 < length l = lawful.some in
      record {
        sound = p.sound;
        longer = omega (arith, p.long);
        inside = omega (arith, p.long);
        back = λ v s. (let b = p.back v s in (b.0, record { some = some; instance = (choice v (length ns), sym (ap v ei ∙ b.1 (length l - 1) (omega arith))) }));
        onto = λ v τ s d. (let o = p.onto v d.instance.0 s in (o.0, o.1, o.2, ap o.0 ei ∙ o.3 (length l - 1) (omega arith) ∙ d.instance.1));
      }
