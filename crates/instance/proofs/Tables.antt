-- What holds of the places in a table, as one is given.
use Rattle.std.proofs.Common.{◌≡◌, ℕ, ◌<◌, List, get_or, set, replicate, Option, Some, None, sym, ap, ◌∙◌, subst, inl, inr}
use Rattle.std.proofs.lemmas.List.{get_or-set_same, get_or-set_other, get_or_past, get_or-replicate, length-replicate}
use Rattle.std.proofs.lemmas.Bool.{cases_eq, cases_lt}
use Rattle.instance.specs.Matching.{Gave}

-- P holds of each entry with its place
abbrev pub OfPlaces : List (Option ℕ) → (ℕ → ℕ → Type 0) → Type 0
OfPlaces t P = (e q : ℕ) → get_or t e None ≡ Some q → P e q

module _ (P : ℕ → ℕ → Type 0) (t t' : List (Option ℕ)) (entry place : ℕ) (g : Gave t t' entry place) where
  pub gave_onto : OfPlaces t P → P entry place → OfPlaces t' P
  gave_onto all new e q is =
      elim (cases_eq e entry) [
        | inl same ↦
            (let at : get_or t' entry None ≡ Some q = subst (λ (i : ℕ). get_or t' i None ≡ Some q) same is in
            let q-is : place ≡ q = cc (at, g.has) in
            subst (λ (i : ℕ). P i q) (sym same) (subst (P entry) q-is new))
        | inr other ↦ all e q (sym (g.others e other) ∙ is)
      ]

  pub gave_back : OfPlaces t' P → OfPlaces t P
  gave_back all e q is =
      elim (cases_eq e entry) [
        | inl same ↦
            (let was : get_or t entry None ≡ Some q = subst (λ (i : ℕ). get_or t i None ≡ Some q) same is in
            elim g.had [
              | inl free ↦ absurd (cc (free, was))
              | inr had ↦ all e q (ap (λ (i : ℕ). get_or t' i None) same ∙ g.has ∙ sym had ∙ was)
            ])
        | inr other ↦ all e q (g.others e other ∙ is)
      ]

-- a new table of n entries
module _ (n : ℕ) where
  abbrev free : List (Option ℕ)
  free = replicate n None

  free_at : (e : ℕ) → get_or free e None ≡ None
  free_at e = elim (cases_lt e n) [ inl inside ↦ get_or-replicate n e None None inside | inr past ↦ get_or_past free e None (simp length-replicate (past)) ]

  pub none_given : (P : ℕ → ℕ → Type 0) → OfPlaces free P
  none_given P e q is = let at = free_at e in absurd (cc)

  pub one_given : (P : ℕ → ℕ → Type 0) (entry place : ℕ) → entry < n → P entry place → OfPlaces (set free entry (Some place)) P
  one_given P entry place h =
      gave_onto P free (set free entry (Some place)) entry place
      (record {
        has = get_or-set_same free entry (Some place) None (simp length-replicate (h));
        others = λ e other. get_or-set_other free entry e (Some place) None other;
        had = inl (free_at entry);
      })
      (none_given P)
