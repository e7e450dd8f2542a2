-- Every name is known or not, also one that the reader doesn't look up.
use Rattle.std.proofs.Common.{◌≡◌, ℕ, suc, zero, ◌<◌, ◌≤◌, ◌⊎◌, inl, inr, Bool, true, false, List, [], ◌∷◌, length, Some, None, Option, refl, ⊎_elim, arith}
use Rattle.std.proofs.lemmas.Slice.Eq.{bytes_eq-Decides}
use Rattle.std.proofs.lemmas.Bool.{cases_lt}
use Rattle.std.specs.Str.{bytes_eq}
use Rattle.std.specs.Bool.{Decides}
use Rattle.catalogue.specs.Names.{Name, Same}
use Rattle.catalogue.specs.Entries.{Entry, Bears}
use Rattle.term.specs.declared.TermNode.{TermNode}
use Rattle.formula.specs.Names.{Bound, Use, Known}
use Rattle.formula.specs.Parsing.{Settled}
use Rattle.formula.proofs.Scopes.{false_no, none_around, none_within, first_bears, bears_around}

-- a test that decides P says that it holds or not
decided : {P : Type 0} (b : Bool) → Decides b P → P ⊎ (P → ⊥)
decided true d = inl (d.0 refl)
decided false d = inr (false_no d.1)

same_or_not : (v w : Name) → Same v w ⊎ (Same v w → ⊥)
same_or_not v w = decided (bytes_eq v w) (bytes_eq-Decides v w)

bound_or_not : (scope : List Name) (w : Name) → ((k : ℕ) × Bound scope w k) ⊎ ((k : ℕ) → Bound scope w k → ⊥)
bound_or_not [] w = inr (none_around w)
bound_or_not (v ∷ rest) w =
    ⊎_elim (λ s. inl (0, first_bears rest v w s))
    (λ n. ⊎_elim (λ b. inl (suc b.0, bears_around rest v w b.0 n b.1)) (λ m. inr (none_within rest v w n m)) (bound_or_not rest w))
    (same_or_not v w)

-- no entry bears a name where the first doesn't and none of the others does
borne_within : (rest : List Entry) (e : Entry) (w : Name) → (Same e.name w → ⊥) → ((j : ℕ) → Bears rest j w → ⊥) → (k : ℕ) → Bears (e ∷ rest) k w → ⊥
borne_within rest e w n m zero b = n b.same
borne_within rest e w n m (suc j) b = m j (record { within = omega (arith, b.within); same = b.same })

borne_or_not : (es : List Entry) (w : Name) → ((k : ℕ) × Bears es k w) ⊎ ((k : ℕ) → Bears es k w → ⊥)
borne_or_not [] w = inr (λ k b. omega (arith, b.within))
borne_or_not (e ∷ rest) w =
    ⊎_elim (λ s. inl (0, record { within = omega arith; same = s }))
    (λ n. ⊎_elim (λ b. inl (suc b.0, record { within = omega (arith, b.1.within); same = b.1.same })) (λ m. inr (borne_within rest e w n m)) (borne_or_not rest w))
    (same_or_not e.name w)

known_or_not : (es : List Entry) (u : Use) → Known es u ⊎ (Known es u → ⊥)
known_or_not es u =
    ⊎_elim (λ b. inl (inl b))
    (λ n. ⊎_elim (λ b. inl (inr b)) (λ m. inr (⊎_elim (λ b. n b.0 b.1) (λ b. m b.0 b.1))) (borne_or_not es u.name))
    (bound_or_not u.scope u.name)

-- where there is no room for its node, a name is settled by whether it is known
settled_unwritten : (es : List Entry) (scope : List Name) (w : Name) (place : ℕ) (out out' : List TermNode) → length out ≤ 0 → (u : Option ℕ) × Settled es scope w place out out' u
settled_unwritten es scope w place out out' none =
    ⊎_elim (λ k. (None, (λ o. k, λ d h. absurd (omega (arith, none, h))))) (λ n. (Some place, (refl, λ o. n))) (known_or_not es (record { name = w; at = place; scope = scope }))

-- something settles a name, with room or without; where it has room, this is what was answered
pub settled_anyhow : (es : List Entry) (scope : List Name) (w : Name) (place : ℕ) (out out' : List TermNode) (r : Option ℕ) → (0 < length out → Settled es scope w place out out' r) → (u : Option ℕ) × Settled es scope w place out out' u × (1 ≤ length out → u ≡ r)
settled_anyhow es scope w place out out' r s =
    ⊎_elim (λ some. (r, s some, λ fits. refl))
    (λ none. let u = settled_unwritten es scope w place out out' none in (u.0, u.1, λ fits. absurd (omega (arith, none, fits))))
    (cases_lt 0 (length out))
