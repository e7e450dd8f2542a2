-- The places in a table, as its entries are read and written.
use Rattle.std.proofs.Common.{◌≡◌, ℕ, zero, suc, ◌<◌, List, ◌∷◌, length, get_or, set, replicate, Option, Some, None, refl, ap, ap₂, ◌∙◌, inl}
use Rattle.std.proofs.Math.ListN.{get_or-map}
use Rattle.std.proofs.lemmas.List.{map-set, length-map, get_or-set_same, get_or-set_other}
use Rattle.instance.specs.declared.matching.Slot.{Slot}
use Rattle.instance.specs.Matching.{Gave}
use Rattle.instance.specs.Slots.{place_of, places}

abbrev free : Slot
free = record { 0 = 0 }

pub place_at : (t : List Slot) (e : ℕ) → get_or (places t) e None ≡ place_of (get_or t e free)
place_at t e = get_or-map place_of t e free

places_set : (t : List Slot) (e : ℕ) (s : Slot) → places (set t e s) ≡ set (places t) e (place_of s)
places_set t e s = map-set place_of t e s

-- a table of free entries
pub places_free : (n : ℕ) (s : Slot) → place_of s ≡ None → places (replicate n s) ≡ replicate n None
places_free zero s e = refl
places_free (suc n) s e = ap₂ (λ (x : Option ℕ) (l : List (Option ℕ)). x ∷ l) e (places_free n s e)

-- one of them with a place
pub places_one : (n e place : ℕ) (s x : Slot) → place_of s ≡ None → place_of x ≡ Some place → places (set (replicate n s) e x) ≡ set (replicate n None) e (Some place)
places_one n e place s x is gives =
    places_set (replicate n s) e x
    ∙ ap (λ (l : List (Option ℕ)). set l e (place_of x)) (places_free n s is)
    ∙ ap (λ (o : Option ℕ). set (replicate n None) e o) gives

-- a free entry gets a place
pub gave_free : (t : List Slot) (e place : ℕ) (s : Slot) → e < length t → place_of (get_or t e free) ≡ None → place_of s ≡ Some place → Gave (places t) (places (set t e s)) e place
gave_free t e place s inside is gives =
    let after = places_set t e s in
    record {
      has = ap (λ (l : List (Option ℕ)). get_or l e None) after ∙ get_or-set_same (places t) e (place_of s) None (simp length-map (inside)) ∙ gives;
      others = λ i other. ap (λ (l : List (Option ℕ)). get_or l i None) after ∙ get_or-set_other (places t) e i (place_of s) None other;
      had = inl (place_at t e ∙ is);
    }
