-- A merge of two classes, and what it does to the solutions of a graph.
use Rattle.std.proofs.Common.{◌≡◌, ℕ, ◌<◌, ◌≢◌, cond, ◌==◌, Option, Some, None, Result, Ok, Err, List, length, get_or, set, sym, refl, ap, ◌∙◌, subst, ⊎_elim, arith}
use Rattle.std.proofs.lemmas.List.{length-set, get_or-set_same, get_or-set_other}
use Rattle.std.proofs.lemmas.Bool.{cases_eq, cond-true, cond-false, eq-eqb, ne_eqb}
use Rattle.types.specs.Types.{Ty, base}
use Rattle.graph.specs.Graph.{Says, Solves, Inside, Sound, alive, live, Kept, Always}
use Rattle.graph.specs.Unifying.{Alike, Apart, Reduced, compared, Merged, Unified}
use Rattle.graph.proofs.Writes.{says_at, inside_at, solves_set, solves_unset, sound_set, live_set, kept_then}
use Rattle.graph.specs.declared.Node.{Node}
use Rattle.graph.specs.declared.Node.TheVariants.{Var, Base, Branch, Link}
use Rattle.graph.specs.declared.Clash.{Clash}
use Rattle.graph.specs.declared.Parts.{Parts}

-- a node may move to another index of its class
says_move : (v : ℕ → Ty) (i j : ℕ) (x : Node) → v i ≡ v j → Says v i x → Says v j x
says_move v i j Var e s = tt
says_move v i j (Base c) e s = sym e ∙ s
says_move v i j (Branch k l r) e s = sym e ∙ s
says_move v i j (Link k) e s = sym e ∙ s

inside_move : (n i j : ℕ) (x : Node) → alive x ≡ 1 → Inside n i x → Inside n j x
inside_move n i j Var e s = tt
inside_move n i j (Base c) e s = tt
inside_move n i j (Branch k l r) e s = s
inside_move n i j (Link k) e s = absurd (omega arith)

-- `high` becomes a link to `low`
module _ (ns : List Node) (low high : ℕ) (sound : Sound ns) (order : low < high) (within : high < length ns) where
  link_sound : Sound (set ns high (Link low))
  link_sound = sound_set ns high (Link low) sound order

  link_fewer : alive (get_or ns high Var) ≡ 1 → live (set ns high (Link low)) < live ns
  link_fewer one = omega (arith, live_set ns high (Link low) within)

  link_onto : (v : ℕ → Ty) → Solves v ns → v low ≡ v high → Solves v (set ns high (Link low))
  link_onto v s e = solves_set v ns high (Link low) s (sym e)

  link_alike : (v : ℕ → Ty) → Solves v (set ns high (Link low)) → v low ≡ v high
  link_alike v s = sym (says_at v (set ns high (Link low)) high (Link low) s (rw (length-set ns high (Link low)) within) (get_or-set_same ns high (Link low) Var within))

  link_back : (v : ℕ → Ty) (x : Node) → get_or ns high Var ≡ x → Solves v (set ns high (Link low)) → Says v high x → Solves v ns
  link_back v x e s here = solves_unset v ns high (Link low) s (subst (Says v high) (sym e) here)

  -- what `low` said, it still says
  link_low : (v : ℕ → Ty) (x : Node) → get_or ns low Var ≡ x → Solves v (set ns high (Link low)) → Says v low x
  link_low v x e s =
      let ne : low ≢ high = omega arith in
      let h : low < length (set ns high (Link low)) = omega (arith, length-set ns high (Link low)) in
      says_at v (set ns high (Link low)) low x s h (get_or-set_other ns high low (Link low) Var ne ∙ e)

  -- `high` says no more than `low`
  merged_same : (x y : Node) → get_or ns low Var ≡ x → get_or ns high Var ≡ y → alive y ≡ 1 → ((v : ℕ → Ty) → v low ≡ v high → Says v low x → Says v high y) → Merged ns (set ns high (Link low)) low high (Ok None)
  merged_same x y d e one told =
      record {
        sound = link_sound;
        fewer = omega (arith, link_fewer (ap alive e ∙ one));
        onto = λ v s a. (link_onto v s a, tt);
        back = λ v s _. (let alike = link_alike v s in (link_back v y e s (told v alike (link_low v x d s)), alike));
      }

  merged_high_var : get_or ns high Var ≡ Var → Merged ns (set ns high (Link low)) low high (Ok None)
  merged_high_var e = merged_same (get_or ns low Var) Var refl e refl (λ v a s. tt)

  merged_bases : (p q : ℕ) → get_or ns low Var ≡ Base p → get_or ns high Var ≡ Base q → p ≡ q → Merged ns (set ns high (Link low)) low high (Ok None)
  merged_bases p q d e same = merged_same (Base p) (Base q) d e refl (λ v a s. sym a ∙ s ∙ ap base same)

  merged_branches : (j k l m r s : ℕ) → get_or ns low Var ≡ Branch j l r → get_or ns high Var ≡ Branch k m s → j ≡ k → Merged ns (set ns high (Link low)) low high (Ok (Some record { left = (l, m); right = (r, s) }))
  merged_branches j k l m r s d e same =
      let il = inside_at ns low (Branch j l r) sound (omega arith) d in
      let ih = inside_at ns high (Branch k m s) sound within e in
      record {
        kept = record {
          sound = link_sound;
          fewer = omega (arith, link_fewer (ap alive e));
          onto = λ v t a.
              (let p = says_at v ns low (Branch j l r) t (omega arith) d in
              let q = says_at v ns high (Branch k m s) t within e in
              (link_onto v t a, (cc, cc)));
          back = λ v t a.
              (let alike = link_alike v t in
              let p = link_low v (Branch j l r) d t in
              let a0 = a.0 in
              let a1 = a.1 in
              (link_back v (Branch k m s) e t (cc), alike));
        };
        falls = link_fewer (ap alive e);
        first = (il.0, ih.0);
        second = (il.1, ih.1);
      }

  -- bases and branches clash where they differ
  says : (v : ℕ → Ty) (x y : Node) → get_or ns low Var ≡ x → get_or ns high Var ≡ y → Solves v ns → v low ≡ v high → Says v high x × Says v high y
  says v x y d e s a = (says_move v low high x a (says_at v ns low x s (omega arith) d), says_at v ns high y s within e)

  apart_bases : (p q : ℕ) → get_or ns low Var ≡ Base p → get_or ns high Var ≡ Base q → p ≢ q → Apart ns low high
  apart_bases p q d e ne v s a = let x = says v (Base p) (Base q) d e s a in let x0 = x.0 in let x1 = x.1 in ne (cc)

  apart_branches : (j k l m r t : ℕ) → get_or ns low Var ≡ Branch j l r → get_or ns high Var ≡ Branch k m t → j ≢ k → Apart ns low high
  apart_branches j k l m r t d e ne v s a = let x = says v (Branch j l r) (Branch k m t) d e s a in let x0 = x.0 in let x1 = x.1 in ne (cc)

  apart_base_branch : (p k m t : ℕ) → get_or ns low Var ≡ Base p → get_or ns high Var ≡ Branch k m t → Apart ns low high
  apart_base_branch p k m t d e v s a = let x = says v (Base p) (Branch k m t) d e s a in let x0 = x.0 in let x1 = x.1 in cc

  apart_branch_base : (k l r q : ℕ) → get_or ns low Var ≡ Branch k l r → get_or ns high Var ≡ Base q → Apart ns low high
  apart_branch_base k l r q d e v s a = let x = says v (Branch k l r) (Base q) d e s a in let x0 = x.0 in let x1 = x.1 in cc

  -- a test that says what is left
  tested : (p q : ℕ) (r : Result (Option Parts) Clash) → (p ≡ q → Merged ns (set ns high (Link low)) low high r) → (p ≢ q → Apart ns low high) → Merged ns (set ns high (Link low)) low high (cond (p == q) r (Err record {}))
  tested p q r same other =
      ⊎_elim
      (λ (e : p ≡ q). subst (Merged ns (set ns high (Link low)) low high) (sym (cond-true (p == q) r (Err record {}) (eq-eqb p q e))) (same e))
      (λ (n : p ≢ q). subst (Merged ns (set ns high (Link low)) low high) (sym (cond-false (p == q) r (Err record {}) (ne_eqb p q n))) (other n))
      (cases_eq p q)

  -- what is left is what the two nodes say
  pub merged : (x y : Node) → get_or ns low Var ≡ x → get_or ns high Var ≡ y → alive x ≡ 1 → alive y ≡ 1 → x ≢ Var → Merged ns (set ns high (Link low)) low high (compared x y)
  merged Var y d e a b ne = absurd (ne refl)
  merged (Base p) Var d e a b ne = merged_high_var e
  merged (Base p) (Base q) d e a b ne = tested p q (Ok None) (merged_bases p q d e) (apart_bases p q d e)
  merged (Base p) (Branch k m t) d e a b ne = apart_base_branch p k m t d e
  merged (Base p) (Link n) d e a b ne = absurd (omega (arith, b))
  merged (Branch j l r) Var d e a b ne = merged_high_var e
  merged (Branch j l r) (Base q) d e a b ne = apart_branch_base j l r q d e
  merged (Branch j l r) (Branch k m t) d e a b ne = tested j k (Ok (Some record { left = (l, m); right = (r, t) })) (merged_branches j k l m r t d e) (apart_branches j k l m r t d e)
  merged (Branch j l r) (Link n) d e a b ne = absurd (omega (arith, b))
  merged (Link i) y d e a b ne = absurd (omega (arith, a))

-- `low` takes over what `high` says
pub merged_low_var : (ns : List Node) (low high : ℕ) (x : Node) → Sound ns → low < high → high < length ns → get_or ns low Var ≡ Var → get_or ns high Var ≡ x → alive x ≡ 1 → Merged ns (set (set ns low x) high (Link low)) low high (Ok None)
merged_low_var ns low high x sound order within d e one =
    let ms = set ns low x in
    let hl : low < length ns = omega arith in
    let ne : high ≢ low = omega arith in
    let sound' = sound_set ns low x sound (inside_move (length ns) high low x one (inside_at ns high x sound within e)) in
    let within' : high < length ms = omega (arith, length-set ns low x) in
    let e' = get_or-set_other ns low high x Var ne ∙ e in
    record {
      sound = link_sound ms low high sound' order within';
      fewer = omega (arith, link_fewer ms low high sound' order within' (ap alive e' ∙ one), live_set ns low x hl, ap alive d, one);
      onto = λ v s a. (link_onto ms low high sound' order within' v (solves_set v ns low x s (says_move v high low x (sym a) (says_at v ns high x s within e))) a, tt);
      back = λ v s _.
          (let alike = link_alike ms low high sound' order within' v s in
          let here = link_low ms low high sound' order within' v x (get_or-set_same ns low x Var hl) s in
          let t = link_back ms low high sound' order within' v x e' s (says_move v low high x alike here) in
          (solves_unset v ns low x t (subst (Says v low) (sym d) tt), alike));
    }

-- where a and b have the types of x and y, other nodes may stand for them
module _ (ns ms : List Node) (a b x y : ℕ) (p : (v : ℕ → Ty) → Solves v ns → v a ≡ v x) (q : (v : ℕ → Ty) → Solves v ns → v b ≡ v y) where
  kept_by : (F : (ℕ → Ty) → Type 0) → Kept ns ms (Alike x y) F → Kept ns ms (Alike a b) F
  kept_by F m = record { sound = m.sound; fewer = m.fewer; onto = λ v s e. m.onto v s (sym (p v s) ∙ e ∙ q v s); back = λ v s f. (let h = m.back v s f in (h.0, p v h.0 ∙ h.1 ∙ sym (q v h.0))) }

  pub merged_by : (r : Result (Option Parts) Clash) → Merged ns ms x y r → Merged ns ms a b r
  merged_by (Ok None) m = kept_by Always m
  merged_by (Ok (Some z)) m = record { kept = kept_by (λ v. Alike z.left.0 z.left.1 v × Alike z.right.0 z.right.1 v) m.kept; falls = m.falls; first = m.first; second = m.second }
  merged_by (Err c) m = λ v s e. m v s (sym (p v s) ∙ e ∙ q v s)

kept_flip : (ns ms : List Node) (x y : ℕ) (F : (ℕ → Ty) → Type 0) → Kept ns ms (Alike x y) F → Kept ns ms (Alike y x) F
kept_flip ns ms x y F m = record { sound = m.sound; fewer = m.fewer; onto = λ v s e. m.onto v s (sym e); back = λ v s f. (let h = m.back v s f in (h.0, sym h.1)) }

pub merged_flip : (ns ms : List Node) (x y : ℕ) (r : Result (Option Parts) Clash) → Merged ns ms x y r → Merged ns ms y x r
merged_flip ns ms x y (Ok None) m = kept_flip ns ms x y Always m
merged_flip ns ms x y (Ok (Some z)) m = record { kept = kept_flip ns ms x y (λ v. Alike z.left.0 z.left.1 v × Alike z.right.0 z.right.1 v) m.kept; falls = m.falls; first = m.first; second = m.second }
merged_flip ns ms x y (Err c) m = λ v s e. m v s (sym e)

-- a merge after what keeps all solutions
pub merged_then : (ns ms os : List Node) (a b : ℕ) (r : Result (Option Parts) Clash) → length ms ≡ length ns → Kept ns ms Always Always → Merged ms os a b r → Merged ns os a b r
merged_then ns ms os a b (Ok None) e p q = kept_then ns ms os (Alike a b) Always p q
merged_then ns ms os a b (Err c) e p q = λ v s h. q v (p.onto v s tt).0 h
merged_then ns ms os a b (Ok (Some z)) e p q =
    record { kept = kept_then ns ms os (Alike a b) (λ v. Alike z.left.0 z.left.1 v × Alike z.right.0 z.right.1 v) p q.kept; falls = omega (arith, p.fewer, q.falls); first = omega (arith, q.first); second = omega (arith, q.second) }

-- after the first pair, the second
module _ (ns ms os : List Node) (a b l m r s : ℕ) (x : Reduced ns ms a b l m r s) where
  pub unified_second : (ps : List Node) (u : Unit) (t : Result Unit Clash) → Unified ms os l m (Ok u) → Unified os ps r s t → Unified ns ps a b t
  unified_second ps u (Ok w) y z =
      record {
        sound = z.sound;
        fewer = omega (arith, x.kept.fewer, y.fewer, z.fewer);
        onto = λ v g e. (let h = x.kept.onto v g e in z.onto v (y.onto v h.0 h.1.0).0 h.1.1);
        back = λ v g _. (let k = z.back v g tt in let j = y.back v k.0 tt in x.kept.back v j.0 (j.1, k.1));
      }
  unified_second ps u (Err c) y z = λ v g e. (let h = x.kept.onto v g e in z v (y.onto v h.0 h.1.0).0 h.1.1)
