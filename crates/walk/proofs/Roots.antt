-- The steps from one listed node to the next.
use Rattle.std.proofs.Common.{◌≡◌, ℕ, ◌+◌, ◌<◌, ◌≢◌, List, [], ◌∷◌, ◌++◌, map, length, get_or, set, sym, refl, ap, ◌∙◌, subst, ap₂, ⊎_elim, arith}
use Rattle.std.specs.List.{AllByRecursion}
use Rattle.std.proofs.lemmas.List.{append-nil, length-map, length_push, get_or_push, get_or_append_left, get_or-set_same, get_or-set_other}
use Rattle.std.proofs.ByRecursion.{All-from_get_or}
use Rattle.std.proofs.lemmas.Bool.{cases_eq}
use Rattle.types.specs.Types.{Ty, variable}
use Rattle.normal.specs.Normal.{place, postorder, postorders, firsts, parts}
use Rattle.normal.specs.Built.{none}
use Rattle.normal.specs.Laws.{Proper}
use Rattle.normal.proofs.Parts.{firsts_append, firsts_place}
use Rattle.normal.proofs.Meaning.{postorders_append, parts_have}
use Rattle.types.specs.declared.TypeNode.{TypeNode}
use Rattle.graph.specs.Graph.{view}
use Rattle.graph.specs.declared.Node.{Node}
use Rattle.walk.specs.Reads.{Reads, Flat}
use Rattle.walk.specs.Work.{Work, State, Room, Grown, Walked, Above}
use Rattle.walk.specs.Listing.{Shut, Unsolvable, Sofar, Placed, Rooted}
use Rattle.walk.proofs.Graphs.{reads_proper}

pub shut_grown : (ms ms' : List ℕ) → Grown ms ms' → Shut ms → Shut ms'
shut_grown ms ms' g s k one =
    ⊎_elim (λ (z : get_or ms k 0 ≡ 0). (g k).1 z one) (λ (o : get_or ms k 0 ≡ 0 → ⊥). s k (sym ((g k).0 o) ∙ one)) (cases_eq (get_or ms k 0) 0)

-- with no node open, nothing stands above
pub nothing_above : (ns : List Node) (ms : List ℕ) (at : ℕ) → Shut ms → (Above ns ms at → Unsolvable ns) → Unsolvable ns
nothing_above ns ms at s f = f (λ k h e. absurd (s k e))

firsts_push : (ps ts : List Ty) (t : Ty) → firsts ps (postorders (ts ++ (t ∷ []))) ≡ firsts (firsts ps (postorders ts)) (postorder t)
firsts_push ps ts t = ap (firsts ps) (postorders_append ts (t ∷ []) ∙ ap (λ (l : List Ty). postorders ts ++ l) (append-nil (postorder t))) ∙ firsts_append ps (postorders ts) (postorder t)

module _ (ns : List Node) (w w' : Work) (r : ℕ → ℕ) (ps : List Ty) (i p : ℕ) (s : Sofar ns w r ps i) (x : Walked ns w w' (r i) p) where
  pub sofar_more : Sofar ns w' r ps (i + 1)
  sofar_more =
      let ts = s.types in
      let e = x.exact (firsts ps (postorders ts)) s.state in
      let t = e.type in
      record {
        types = ts ++ (t ∷ []);
        long = length_push ts t ∙ ap (λ (k : ℕ). k + 1) s.long;
        reads = λ k h.
            ⊎_elim
            (λ (q : k ≡ i). subst (λ (j : ℕ). Reads ns (r j) (get_or (ts ++ (t ∷ [])) j (variable 0))) (sym q) (subst (Reads ns (r i)) (sym (get_or_push ts t (variable 0) i s.long)) e.reads))
            (λ (ne : k ≢ i). let lt : k < length ts = omega (arith, s.long) in subst (Reads ns (r k)) (sym (get_or_append_left ts (t ∷ []) (variable 0) k lt)) (s.reads k (omega arith)))
            (cases_eq k i);
        state = subst (State ns w') (sym (firsts_push ps ts t)) e.state;
      }

pub sofar_proper : (ns : List Node) (w : Work) (r : ℕ → ℕ) (ps : List Ty) (i : ℕ) → Flat ns → (s : Sofar ns w r ps i) → AllByRecursion Proper s.types
sofar_proper ns w r ps i flat s = All-from_get_or Proper s.types (variable 0) (λ k h. reads_proper ns flat (s.reads k (omega (arith, s.long))))

pub placed_more : (ns : List Node) (w w' : Work) (r : ℕ → ℕ) (qs : List ℕ) (i p : ℕ) → Flat ns → i < length qs → (s : Sofar ns w r [] i) (x : Walked ns w w' (r i) p) → Placed qs s.types i → Placed (set qs i p) (sofar_more ns w w' r [] i p s x).types (i + 1)
unfolding sofar_more
placed_more ns w w' r qs i p flat h s x placed k l =
    let ts = s.types in
    let e = x.exact (parts ts) s.state in
    let t = e.type in
    let f = firsts_push [] ts t in
    ⊎_elim
    (λ (q : k ≡ i).
    subst (λ (j : ℕ). get_or (set qs i p) j 0 ≡ place (parts (ts ++ (t ∷ []))) (get_or (ts ++ (t ∷ [])) j (variable 0))) (sym q)
    (get_or-set_same qs i p 0 h ∙ e.here ∙ ap₂ place (sym f) (sym (get_or_push ts t (variable 0) i s.long))))
    (λ (ne : k ≢ i).
    let lt : k < length ts = omega (arith, s.long) in
    get_or-set_other qs i k p 0 ne ∙ placed k (omega arith)
    ∙ sym (firsts_place (parts ts) (postorder t) (get_or ts k (variable 0)) (parts_have ts [] (sofar_proper ns w r [] i flat s) none k lt))
    ∙ ap₂ place (sym f) (sym (get_or_append_left ts (t ∷ []) (variable 0) k lt)))
    (cases_eq k i)

pub walked_at : (ns : List Node) (w w' : Work) (at to p : ℕ) → at ≡ to → Walked ns w w' at p → Walked ns w w' to p
walked_at ns w w' at to p e x = subst (λ (j : ℕ). Walked ns w w' j p) e x

pub rooted : (ns : List Node) (w : Work) (rs qs : List ℕ) (i : ℕ) → i ≡ length rs → (s : Sofar ns w (λ k. get_or rs k 0) [] i) → Placed qs s.types i → Shut w.marks → Room (length ns) w → Rooted ns w rs qs w.count
rooted ns w rs qs i e s placed shut room =
    record {
      sofar = record { types = s.types; long = s.long ∙ e; reads = λ k h. s.reads k (omega arith); state = s.state };
      placed = λ k h. placed k (omega arith);
      shut = shut;
      room = room;
      count = refl;
    }

-- the room for as many nodes as the memory has records
pub room_nodes : (ts : List TypeNode) (w : Work) → Room (length ts) w → Room (length (map view ts)) w
room_nodes ts w r = subst (λ (n : ℕ). Room n w) (sym (length-map ts view)) r
