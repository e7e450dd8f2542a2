-- What a walk holds before and after its steps.
use Rattle.std.proofs.Common.{◌≡◌, ℕ, ◌+◌, ◌-◌, ◌<◌, ◌≤◌, List, map, length, get_or, set, sym, ap, ◌∙◌, subst, ⊎_elim, arith}
use Rattle.std.proofs.lemmas.List.{length-map}
use Rattle.std.proofs.lemmas.Bool.{cases_lt}
use Rattle.types.specs.declared.TypeNode.{TypeNode}
use Rattle.types.specs.Types.{Ty}
use Rattle.types.specs.Lists.{node, zero_node}
use Rattle.normal.specs.Normal.{postorder, add, firsts}
use Rattle.normal.specs.Built.{Ready}
use Rattle.graph.specs.Graph.{view, Solves}
use Rattle.graph.proofs.Writes.{inside_at}
use Rattle.graph.specs.declared.Node.{Node}
use Rattle.graph.specs.declared.Node.TheVariants.{Var, Branch}
use Rattle.walk.specs.Reads.{Reads, root, Kind, Flat}
use Rattle.walk.specs.Work.{Work, work, key_of, State, Room, Complete, Walked, Above, Closed, zeros, size}
use Rattle.walk.specs.declared.walking.Walk.{Walk}
use Rattle.walk.specs.Lent.{nodes, held, SameMemories, Running}
use Rattle.walk.proofs.Graphs.{nodes_at, root_within}
use Rattle.walk.proofs.Steps.{zeros_set, opening, opened, room_opened, walked_leaf, walked_branch, room_walked, complete_walked, still_open, above_part, above_grown, smaller_left, smaller_right}

pub nodes_long : (k : Walk) → length (nodes k) ≡ length k.graph.now
nodes_long k = length-map k.graph.now view

pub nodes_same : (k k' : Walk) → k'.graph ≡ k.graph → nodes k' ≡ nodes k
nodes_same k k' e = ap (λ z. map view z.now) e

pub same_then : (k k' k'' : Walk) → SameMemories k k' → SameMemories k' k'' → SameMemories k k''
same_then k k' k'' p q =
    record {
      graph = q.graph ∙ p.graph;
      marks = q.marks ∙ p.marks;
      origins = q.origins ∙ p.origins;
      marks-long = q.marks-long ∙ p.marks-long;
      origins-long = q.origins-long ∙ p.origins-long;
      heads = q.heads ∙ p.heads;
      nexts = q.nexts ∙ p.nexts;
      heads-long = q.heads-long ∙ p.heads-long;
      nexts-long = q.nexts-long ∙ p.nexts-long;
    }

-- what is done stands at a place that has room
pub mark_small : (k : Walk) → Running k → (i : ℕ) → i < length k.graph.now → get_or k.marks.now i 0 < 65538
mark_small k run i h =
    let m = get_or k.marks.now i 0 in
    ⊎_elim (λ (lt : m < 2). omega arith)
    (λ (ge : 2 ≤ m).
    let s = run.state.1 in
    let r = s.marked.read i (m - 2) (omega (arith, nodes_long k)) (omega arith) in
    omega (arith, r.0, s.long, run.room.rest, run.room.few))
    (cases_lt m 2)

pub walked_as : (k k' : Walk) (w : Work) {at p : ℕ} → k'.graph ≡ k.graph → Walked (nodes k') (held k') w at p → Walked (nodes k) (held k') w at p
walked_as k k' w {at} {p} e x = subst (λ (ns : List Node). Walked ns (held k') w at p) (nodes_same k k' e) x

-- the walk may go on after a node is listed
pub running_walked : {k k' : Walk} {at p : ℕ} → Running k → SameMemories k k' → Walked (nodes k) (held k) (held k') at p → Running k'
running_walked {k} {k'} {at} {p} run same x =
    let n = sym (nodes_same k k' same.graph) in
    let e = x.exact run.state.0 run.state.1 in
    let ps = firsts run.state.0 (postorder e.type) in
    record {
      flat = subst Flat n run.flat;
      room =
          subst (λ z. Room (length z.now) (held k')) (sym same.graph)
          (room_walked (nodes k) (length k.graph.now) (held k) (held k') at p run.room x same.marks-long same.origins-long same.heads-long same.nexts-long);
      state = (ps, subst (λ (ns : List Node). State ns (held k') ps) n e.state);
    }

-- the node i, which stands for the class of `at`, was not entered, and is now open
module _ {k : Walk} (run : Running k) {at i x : ℕ} (h : at < length k.graph.now) (is : i ≡ root (nodes k) at) (new : 0 ≡ get_or k.marks.now i 0) (one : x ≡ 1) where
  abbrev entered : Work
  entered = work (set k.marks.now i x) k.origins.now k.heads.now k.nexts.now k.count

  entered_is : entered ≡ opening (held k) i
  entered_is = ap (λ (n : ℕ). work (set k.marks.now i n) k.origins.now k.heads.now k.nexts.now k.count) one

  inside : i < length k.graph.now
  inside = (root_within k.graph.now at i run.flat h is).0

  marked : i < length k.marks.now
  marked = omega (arith, inside, run.room.marks)

  room : Room (length k.graph.now) (opening (held k) i) × (k.count + zeros (set k.marks.now i 1) < length k.graph.now)
  room = room_opened (nodes k) (held k) i marked (sym new) (length k.graph.now) run.room

  pub fewer_left : zeros (set k.marks.now i x) < zeros k.marks.now
  fewer_left = omega (arith, zeros_set k.marks.now i x (omega arith) marked (sym new))

  -- there is a place for the node's type
  pub place_left : k.count < length k.graph.now
  place_left = omega (arith, room.1)

  pub running_opened : (k' : Walk) → k'.graph ≡ k.graph → held k' ≡ entered → Running k'
  running_opened k' g e =
      let n = sym (nodes_same k k' g) in
      let w = sym (e ∙ entered_is) in
      let ps = run.state.0 in
      record {
        flat = subst Flat n run.flat;
        room = subst (Room (length k'.graph.now)) w (subst (λ z. Room (length z.now) (opening (held k) i)) (sym g) room.0);
        state = (ps, subst (λ (ns : List Node). State ns (held k') ps) n (subst (λ (v : Work). State (nodes k) v ps) w (opened (nodes k) (held k) i marked (sym new) ps run.state.1)));
      }

  pub leaf_listed :
      (w' : Work) (p : ℕ) (t : Ty) (key key' : TypeNode) → key' ≡ key → Closed (nodes k) entered w' i key' p → Reads (nodes k) i t → ((ps : List Ty) → (key_of ps t ≡ key) × Ready ps t × (firsts ps (postorder t) ≡ add ps t))
      → Walked (nodes k) (held k) w' at p
  leaf_listed w' p t key key' e cl reads leaf =
      walked_leaf (nodes k) run.flat (held k) w' at i p t key is marked (sym new) (subst (λ (y : TypeNode). Closed (nodes k) (opening (held k) i) w' i y p) e (subst (λ (v : Work). Closed (nodes k) v w' i key' p) entered_is cl)) reads leaf

  module _ {kind l r : ℕ} (branch : Branch kind l r ≡ view (get_or k.graph.now i zero_node)) where
    is_branch : get_or (nodes k) i Var ≡ Branch kind l r
    is_branch = nodes_at k.graph.now i ∙ sym branch

    pub parts_inside : (l < length k.graph.now) × (r < length k.graph.now)
    parts_inside =
        let d = inside_at (nodes k) i (Branch kind l r) run.flat.sound (omega (arith, inside, nodes_long k)) is_branch in
        (omega (arith, d.0, nodes_long k), omega (arith, d.1, nodes_long k))

    above : (j : ℕ) → ((v : ℕ → Ty) → Solves v (nodes k) → size (v j) < size (v i)) → Above (nodes k) k.marks.now at → Above (nodes k) (set k.marks.now i x) j
    above j smaller a = subst (λ (n : ℕ). Above (nodes k) (set k.marks.now i n) j) (sym one) (above_part (nodes k) run.flat k.marks.now at i j (omega (arith, nodes_long k)) is smaller a)

    pub left_below : Above (nodes k) k.marks.now at → Above (nodes k) (set k.marks.now i x) l
    left_below = above l (smaller_left (nodes k) run.flat i kind l r (omega (arith, inside, nodes_long k)) is_branch)

    -- the left part is walked
    module _ (k₂ : Walk) (g : k₂.graph ≡ k.graph) {left : ℕ} (xl : Walked (nodes k) entered (held k₂) l left) where
      pub right_below : Above (nodes k) k.marks.now at → Above (nodes k₂) k₂.marks.now r
      right_below a =
          subst (λ (ns : List Node). Above ns k₂.marks.now r) (sym (nodes_same k k₂ g))
          (above_grown (nodes k) run.flat (set k.marks.now i x) k₂.marks.now r xl.grown (above r (smaller_right (nodes k) run.flat i kind l r (omega (arith, inside, nodes_long k)) is_branch) a))

      -- and so is the right one
      module _ {k₃ : Walk} (same : SameMemories k₂ k₃) (long : length k₂.marks.now ≡ length k.marks.now) {right : ℕ} (xr : Walked (nodes k₂) (held k₂) (held k₃) r right) where
        left_walked : Walked (nodes k) (opening (held k) i) (held k₂) l left
        left_walked = subst (λ (v : Work). Walked (nodes k) v (held k₂) l left) entered_is xl

        right_walked : Walked (nodes k) (held k₂) (held k₃) r right
        right_walked = subst (λ (ns : List Node). Walked ns (held k₂) (held k₃) r right) (nodes_same k k₂ g) xr

        pub branch_open : get_or k₃.marks.now i 0 ≡ 1
        branch_open = still_open (nodes k) run.flat (held k) (held k₂) (held k₃) i l r left right marked left_walked right_walked

        pub branch_complete : Complete (nodes k₃) k₃.marks.now i
        branch_complete =
            subst (λ (ns : List Node). Complete ns k₃.marks.now i) (sym (nodes_same k₂ k₃ same.graph ∙ nodes_same k k₂ g))
            (complete_walked (nodes k) run.flat (opening (held k) i) (held k₂) (held k₃) i kind l r left right is_branch left_walked right_walked)

        pub branch_fits : k₃.count < length k₃.graph.now
        branch_fits = omega (arith, room.1, left_walked.rest, right_walked.rest, ap (λ z. length z.now) same.graph, ap (λ z. length z.now) g)

        pub branch_listed : (w' : Work) (p : ℕ) → Closed (nodes k₃) (held k₃) w' i (node kind left right) p → Walked (nodes k) (held k) w' at p
        branch_listed w' p cl =
            walked_branch (nodes k) run.flat (held k) (held k₂) (held k₃) w' at i p kind l r left right is marked (sym new) (same.marks-long ∙ long) is_branch
            (subst Kind is_branch (run.flat.kinds i)) left_walked right_walked
            (subst (λ (ns : List Node). Closed ns (held k₃) w' i (node kind left right) p) (nodes_same k₂ k₃ same.graph ∙ nodes_same k k₂ g) cl)
