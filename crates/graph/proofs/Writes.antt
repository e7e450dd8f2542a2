-- What a write to one node does to the solutions of a graph.
use Rattle.std.proofs.Common.{◌≡◌, ℕ, zero, suc, ◌+◌, ◌<◌, ◌≢◌, List, [], ◌∷◌, length, get_or, set, sym, ap, ◌∙◌, subst, ⊎_elim, arith}
use Rattle.std.proofs.lemmas.List.{length-set, get_or-set_same, get_or-set_other}
use Rattle.std.proofs.lemmas.Bool.{cases_eq}
use Rattle.types.specs.Types.{Ty}
use Rattle.graph.specs.Graph.{Says, Solves, Inside, Sound, alive, live, Kept, Always, Still}
use Rattle.graph.specs.declared.Node.{Node}
use Rattle.graph.specs.declared.Node.TheVariants.{Var, Link}

pub says_at : (v : ℕ → Ty) (ns : List Node) (i : ℕ) (x : Node) → Solves v ns → i < length ns → get_or ns i Var ≡ x → Says v i x
says_at v ns i x s h e = subst (Says v i) e (s i h)

pub inside_at : (ns : List Node) (i : ℕ) (x : Node) → Sound ns → i < length ns → get_or ns i Var ≡ x → Inside (length ns) i x
inside_at ns i x s h e = subst (Inside (length ns) i) e (s i h)

-- a property of each node with its index, after a write
all_set : (P : ℕ → Node → Type 0) (ns : List Node) (i : ℕ) (x : Node) → ((k : ℕ) → k < length ns → P k (get_or ns k Var)) → P i x → (k : ℕ) → k < length (set ns i x) → P k (get_or (set ns i x) k Var)
all_set P ns i x all here k h =
    let h' : k < length ns = omega (arith, length-set ns i x) in
    ⊎_elim
    (λ (e : k ≡ i). let hi : i < length ns = omega arith in subst (λ (j : ℕ). P j (get_or (set ns i x) j Var)) (sym e) (subst (P i) (sym (get_or-set_same ns i x Var hi)) here))
    (λ (ne : k ≢ i). subst (P k) (sym (get_or-set_other ns i k x Var ne)) (all k h'))
    (cases_eq k i)

-- and before it
all_unset : (P : ℕ → Node → Type 0) (ns : List Node) (i : ℕ) (x : Node) → ((k : ℕ) → k < length (set ns i x) → P k (get_or (set ns i x) k Var)) → P i (get_or ns i Var) → (k : ℕ) → k < length ns → P k (get_or ns k Var)
all_unset P ns i x all here k h =
    let h' : k < length (set ns i x) = omega (arith, length-set ns i x) in
    ⊎_elim
    (λ (e : k ≡ i). subst (λ (j : ℕ). P j (get_or ns j Var)) (sym e) here)
    (λ (ne : k ≢ i). subst (P k) (get_or-set_other ns i k x Var ne) (all k h'))
    (cases_eq k i)

pub solves_set : (v : ℕ → Ty) (ns : List Node) (i : ℕ) (x : Node) → Solves v ns → Says v i x → Solves v (set ns i x)
solves_set v ns i x s here = all_set (Says v) ns i x s here

pub solves_unset : (v : ℕ → Ty) (ns : List Node) (i : ℕ) (x : Node) → Solves v (set ns i x) → Says v i (get_or ns i Var) → Solves v ns
solves_unset v ns i x s here = all_unset (Says v) ns i x s here

pub sound_set : (ns : List Node) (i : ℕ) (x : Node) → Sound ns → Inside (length ns) i x → Sound (set ns i x)
sound_set ns i x s here = all_set (Inside (length (set ns i x))) ns i x (rw (length-set ns i x) s) (rw (length-set ns i x) here)

pub live_set : (ns : List Node) (i : ℕ) (x : Node) → i < length ns → live (set ns i x) + alive (get_or ns i Var) ≡ live ns + alive x
live_set [] i x h = omega arith
live_set (n ∷ ns) zero x h = omega arith
live_set (n ∷ ns) (suc i) x h = omega (arith, live_set ns i x (omega arith))

pub kept_none : (ns : List Node) → Sound ns → Kept ns ns Always Always
kept_none ns sound = record { sound = sound; fewer = omega arith; onto = λ v s _. (s, tt); back = λ v s _. (s, tt) }

pub kept_then : (ns ms os : List Node) (E F : (ℕ → Ty) → Type 0) → Kept ns ms Always Always → Kept ms os E F → Kept ns os E F
kept_then ns ms os E F p q =
    record {
      sound = q.sound;
      fewer = omega (arith, p.fewer, q.fewer);
      onto = λ v s e. q.onto v (p.onto v s tt).0 e;
      back = λ v s f. (let h = q.back v s f in ((p.back v h.0 tt).0, h.1));
    }

-- a link that skips one
pub skipped : (ns : List Node) (at next far : ℕ) → Sound ns → at < length ns → get_or ns at Var ≡ Link next → get_or ns next Var ≡ Link far → Kept ns (set ns at (Link far)) Always Always × Still ns (set ns at (Link far))
skipped ns at next far sound h d e =
    let lt : next < at = inside_at ns at (Link next) sound h d in
    let lf : far < next = inside_at ns next (Link far) sound (omega arith) e in
    let ne : next ≢ at = omega arith in
    let hn : next < length ns = omega arith in
    let hn' : next < length (set ns at (Link far)) = omega (arith, length-set ns at (Link far)) in
    let h' : at < length (set ns at (Link far)) = omega (arith, length-set ns at (Link far)) in (
      record {
        sound = sound_set ns at (Link far) sound (omega arith);
        fewer = omega (arith, live_set ns at (Link far) h, ap alive d);
        onto = λ v s _. (solves_set v ns at (Link far) s (says_at v ns at (Link next) s h d ∙ says_at v ns next (Link far) s hn e), tt);
        back = λ v s _.
            (let p = says_at v (set ns at (Link far)) next (Link far) s hn' (get_or-set_other ns at next (Link far) Var ne ∙ e) in
            let q = says_at v (set ns at (Link far)) at (Link far) s h' (get_or-set_same ns at (Link far) Var h) in
            (solves_unset v ns at (Link far) s (subst (Says v at) (sym d) (q ∙ sym p)), tt));
      },
      λ k. ⊎_elim
          (λ (q : k ≡ at). subst (λ (j : ℕ). alive (get_or (set ns at (Link far)) j Var) ≡ alive (get_or ns j Var)) (sym q) (ap alive (get_or-set_same ns at (Link far) Var h) ∙ sym (ap alive d)))
          (λ (n : k ≢ at). ap alive (get_or-set_other ns at k (Link far) Var n))
          (cases_eq k at),
    )
