-- Graphs that grow, and what becomes of their solutions.
use Rattle.std.proofs.Common.{◌≡◌, ℕ, ◌+◌, ◌<◌, ◌≤◌, cond, eqb, List, [], ◌∷◌, ◌++◌, length, get_or, sym, refl, ap, ◌∙◌, subst, ap₂, ⊎_elim, arith}
use Rattle.std.proofs.lemmas.List.{length_push, get_or_append_left, get_or_push}
use Rattle.std.proofs.lemmas.Bool.{cases_lt, cond-true, cond-false, eq-eqb, ne_eqb}
use Rattle.types.specs.Types.{Ty, branch}
use Rattle.graph.specs.Graph.{Says, Solves, Inside, Sound}
use Rattle.graph.specs.declared.Node.{Node}
use Rattle.graph.specs.declared.Node.TheVariants.{Var, Base, Branch, Link}
use Rattle.copy.specs.Told.{Agree}

-- v with another type at a
pub upd : (ℕ → Ty) → ℕ → Ty → ℕ → Ty
upd v a α k = cond (eqb k a) α (v k)

pub upd_same : (v : ℕ → Ty) (a : ℕ) (α : Ty) → upd v a α a ≡ α
unfolding upd
upd_same v a α = cond-true (eqb a a) α (v a) (eq-eqb a a refl)

pub upd_below : (v : ℕ → Ty) (a : ℕ) (α : Ty) → Agree a (upd v a α) v
unfolding upd
upd_below v a α k h = cond-false (eqb k a) α (v k) (ne_eqb k a (omega arith))

pub says_agree : (n i : ℕ) (x : Node) (v w : ℕ → Ty) → Inside n i x → i < n → Agree n w v → Says v i x → Says w i x
says_agree n i Var v w b h ag s = tt
says_agree n i (Base k) v w b h ag s = ag i h ∙ s
says_agree n i (Branch c l r) v w b h ag s = ag i h ∙ s ∙ ap₂ (branch c) (sym (ag l b.0)) (sym (ag r b.1))
says_agree n i (Link j) v w b h ag s = ag i h ∙ s ∙ sym (ag j (omega arith))

pub solves_agree : (ns : List Node) (v w : ℕ → Ty) → Sound ns → Agree (length ns) w v → Solves v ns → Solves w ns
solves_agree ns v w sound ag s i h = says_agree (length ns) i (get_or ns i Var) v w (sound i h) h ag (s i h)

pub all_push : (P : ℕ → Node → Type 0) (ns : List Node) (x : Node) → ((k : ℕ) → k < length ns → P k (get_or ns k Var)) → P (length ns) x → (k : ℕ) → k < length (ns ++ x ∷ []) → P k (get_or (ns ++ x ∷ []) k Var)
all_push P ns x all here k h =
    ⊎_elim
    (λ (l : k < length ns). subst (P k) (sym (get_or_append_left ns (x ∷ []) Var k l)) (all k l))
    (λ (l : length ns ≤ k). let e : length ns ≡ k = omega (arith, length_push ns x) in subst (P k) (sym (get_or_push ns x Var k e)) (subst (λ (j : ℕ). P j x) e here))
    (cases_lt k (length ns))

pub solves_push : (v : ℕ → Ty) (ns : List Node) (x : Node) → Solves v ns → Says v (length ns) x → Solves v (ns ++ x ∷ [])
solves_push v ns x s here = all_push (Says v) ns x s here

pub solves_pop : (v : ℕ → Ty) (ns : List Node) (x : Node) → Solves v (ns ++ x ∷ []) → Solves v ns
solves_pop v ns x s i h = subst (Says v i) (get_or_append_left ns (x ∷ []) Var i h) (s i (omega (arith, length_push ns x)))

pub solves_last : (v : ℕ → Ty) (ns : List Node) (x : Node) → Solves v (ns ++ x ∷ []) → Says v (length ns) x
solves_last v ns x s = subst (Says v (length ns)) (get_or_push ns x Var (length ns) refl) (s (length ns) (omega (arith, length_push ns x)))

pub inside_more : (m n i : ℕ) (x : Node) → m ≤ n → Inside m i x → Inside n i x
inside_more m n i Var h s = tt
inside_more m n i (Base k) h s = tt
inside_more m n i (Branch c l r) h s = omega (arith, s.0, s.1)
inside_more m n i (Link j) h s = s

pub sound_push : (ns : List Node) (x : Node) → Sound ns → Inside (length ns + 1) (length ns) x → Sound (ns ++ x ∷ [])
sound_push ns x s here =
    all_push (Inside (length (ns ++ x ∷ []))) ns x
    (λ k h. inside_more (length ns) (length (ns ++ x ∷ [])) k (get_or ns k Var) (omega (arith, length_push ns x)) (s k h))
    (rw (length_push ns x) here)

-- ms is ns with one node more
module _ (ns ms : List Node) (x : Node) (e : ms ≡ ns ++ x ∷ []) where
  pub pushed_length : length ms ≡ length ns + 1
  pushed_length = ap length e ∙ length_push ns x

  pub pushed_sound : Sound ns → Inside (length ns + 1) (length ns) x → Sound ms
  pushed_sound s here = subst Sound (sym e) (sound_push ns x s here)

  pub pushed_pop : (v : ℕ → Ty) → Solves v ms → Solves v ns
  pushed_pop v s = solves_pop v ns x (subst (Solves v) e s)

  pub pushed_last : (v : ℕ → Ty) (i : ℕ) → i ≡ length ns → Solves v ms → Says v i x
  pushed_last v i ei s = subst (λ (j : ℕ). Says v j x) (sym ei) (solves_last v ns x (subst (Solves v) e s))

  -- a new node, at any type that its own words allow
  pub pushed_onto : (v : ℕ → Ty) (i : ℕ) (τ : Ty) → i ≡ length ns → Sound ns → Solves v ns → Says (upd v i τ) i x → Solves (upd v i τ) ms
  pushed_onto v i τ ei sound s here =
      let ag : Agree (length ns) (upd v i τ) v = (λ k h. upd_below v i τ k (omega arith)) in
      subst (Solves (upd v i τ)) (sym e) (solves_push (upd v i τ) ns x (solves_agree ns v (upd v i τ) sound ag s) (subst (λ (j : ℕ). Says (upd v i τ) j x) ei here))
