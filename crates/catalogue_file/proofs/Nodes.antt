-- Nodes of five bytes each: how many there are, and where each is read.
use Rattle.std.proofs.Common.{◌≡◌, ℕ, zero, suc, ◌+◌, ◌-◌, ◌*◌, ◌/◌, ◌<◌, ◌≤◌, List, [], ◌∷◌, length, get_or, get_or-drop, drop, length-drop, Option, Some, None, unwrap_or, Bor, ⊎_elim, sym, refl, ap, ◌∙◌, arith}
use Rattle.std.specs.Slice.{IsGetRangeResult}
use Rattle.std.proofs.lemmas.List.{get_or_past, drop_all, take_rest}
use Rattle.types.specs.declared.TypeNode.{TypeNode}
use Rattle.types.specs.Lists.{node, zero_node}
use Rattle.catalogue_file.specs.Numbers.{number}
use Rattle.catalogue_file.specs.Parts.{nodes_of}

-- fewer than five bytes are left over
nodes_fill : (bs : List ℕ) → (5 * length (nodes_of bs) ≤ length bs) × (length bs < 5 * length (nodes_of bs) + 5)
nodes_fill [] = (omega arith, omega arith)
nodes_fill (k ∷ []) = (omega arith, omega arith)
nodes_fill (k ∷ l ∷ []) = (omega arith, omega arith)
nodes_fill (k ∷ l ∷ m ∷ []) = (omega arith, omega arith)
nodes_fill (k ∷ l ∷ m ∷ r ∷ []) = (omega arith, omega arith)
nodes_fill (k ∷ l ∷ m ∷ r ∷ s ∷ bs) = let fill = nodes_fill bs in (omega arith, omega arith)

pub nodes_counted : (bs : List ℕ) → length bs / 5 ≡ length (nodes_of bs)
nodes_counted bs = let fill = nodes_fill bs in omega arith

-- behind five bytes for each of i nodes the other nodes stand
nodes_behind : (i : ℕ) (bs : List ℕ) → nodes_of (drop (5 * i) bs) ≡ drop i (nodes_of bs)
nodes_behind zero bs = refl
nodes_behind (suc i) [] = let moved : 5 * suc i ≡ suc (suc (suc (suc (suc (5 * i))))) = omega arith in rw moved refl
nodes_behind (suc i) (k ∷ []) = let moved : 5 * suc i ≡ suc (suc (suc (suc (suc (5 * i))))) = omega arith in rw moved refl
nodes_behind (suc i) (k ∷ l ∷ []) = let moved : 5 * suc i ≡ suc (suc (suc (suc (suc (5 * i))))) = omega arith in rw moved refl
nodes_behind (suc i) (k ∷ l ∷ m ∷ []) = let moved : 5 * suc i ≡ suc (suc (suc (suc (suc (5 * i))))) = omega arith in rw moved refl
nodes_behind (suc i) (k ∷ l ∷ m ∷ r ∷ []) = let moved : 5 * suc i ≡ suc (suc (suc (suc (suc (5 * i))))) = omega arith in rw moved refl
nodes_behind (suc i) (k ∷ l ∷ m ∷ r ∷ s ∷ bs) =
    let moved : 5 * suc i ≡ suc (suc (suc (suc (suc (5 * i))))) = omega arith in rw moved (nodes_behind i bs)

-- the node that five bytes in front are, or none in fewer
first_node : (bs : List ℕ) → 5 ≤ length bs → node (get_or bs 0 0) (number (get_or bs 1 0 ∷ get_or bs 2 0 ∷ [])) (number (get_or bs 3 0 ∷ get_or bs 4 0 ∷ [])) ≡ get_or (nodes_of bs) 0 zero_node
first_node [] h = absurd (omega arith)
first_node (k ∷ []) h = absurd (omega arith)
first_node (k ∷ l ∷ []) h = absurd (omega arith)
first_node (k ∷ l ∷ m ∷ []) h = absurd (omega arith)
first_node (k ∷ l ∷ m ∷ r ∷ []) h = absurd (omega arith)
first_node (k ∷ l ∷ m ∷ r ∷ s ∷ bs) h = refl

-- what is left of a list behind a place, nothing behind its end
pub left : (bs : List ℕ) (n : ℕ) (r : Option (Bor (List ℕ))) (none part : Bor (List ℕ)) → IsGetRangeResult bs n (length bs) r → none.now ≡ [] → part ≡ unwrap_or r none → part.now ≡ drop n bs
left bs n None none part h e is = ap (λ (x : Bor (List ℕ)). x.now) is ∙ e ∙ sym (drop_all n bs (⊎_elim (λ a. omega arith) (λ a. omega arith) h.0))
left bs n (Some x) none part h e is = ap (λ (y : Bor (List ℕ)). y.now) is ∙ h.0.2 ∙ take_rest bs n

module _ (bs part : List ℕ) (i : ℕ) (is : part ≡ drop (5 * i) bs) where
  pub node_read : (l r : ℕ) → 5 ≤ length part → l ≡ number (get_or part 1 0 ∷ get_or part 2 0 ∷ []) → r ≡ number (get_or part 3 0 ∷ get_or part 4 0 ∷ []) → node (get_or part 0 0) l r ≡ get_or (nodes_of bs) i zero_node
  node_read l r h p q =
      let here : i + 0 ≡ i = omega arith in
      ap (λ n. node (get_or part 0 0) n r) p
      ∙ ap (node (get_or part 0 0) (number (get_or part 1 0 ∷ get_or part 2 0 ∷ []))) q
      ∙ first_node part h
      ∙ ap (λ xs. get_or (nodes_of xs) 0 zero_node) is
      ∙ ap (λ (xs : List TypeNode). get_or xs 0 zero_node) (nodes_behind i bs)
      ∙ get_or-drop i (nodes_of bs) 0 zero_node
      ∙ ap (λ j. get_or (nodes_of bs) j zero_node) here

  pub no_node : length part < 5 → zero_node ≡ get_or (nodes_of bs) i zero_node
  no_node h =
      let fill = nodes_fill bs in
      let long : length part ≡ length bs - 5 * i = ap length is ∙ length-drop (5 * i) bs in
      sym (get_or_past (nodes_of bs) i zero_node (omega arith))
