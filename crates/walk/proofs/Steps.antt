-- The steps of the walk.
use Rattle.std.proofs.Common.{◌≡◌, ℕ, zero, suc, ◌+◌, ◌<◌, ◌≤◌, true, ◌≢◌, List, [], ◌∷◌, length, get_or, set, sym, refl, ap, ◌∙◌, subst, ap₂, ⊎_elim, arith}
use Rattle.std.proofs.lemmas.List.{length-set, get_or-set_same, get_or-set_other}
use Rattle.std.proofs.lemmas.Bool.{cases_eq}
use Rattle.types.specs.declared.TypeNode.{TypeNode}
use Rattle.types.specs.Types.{Ty, variable, branch}
use Rattle.types.specs.Lists.{node}
use Rattle.normal.specs.Normal.{has, place, postorder, add, firsts}
use Rattle.normal.specs.Built.{Ready}
use Rattle.normal.proofs.Parts.{has_at, place_own, firsts_branch, firsts_has, firsts_place, visit_built, visit_again}
use Rattle.graph.specs.Graph.{Solves}
use Rattle.graph.proofs.Writes.{says_at}
use Rattle.graph.specs.declared.Node.{Node}
use Rattle.graph.specs.declared.Node.TheVariants.{Var, Branch}
use Rattle.walk.specs.Reads.{Reads, reads_branch, root, Flat}
use Rattle.walk.specs.Work.{Work, work, key_of, part, State, zeros, Room, Grown, Exact, Walked, size, Above, Complete, Closed}
use Rattle.walk.proofs.Graphs.{root_inside, root_same, root_reads, reads_proper}

-- ---- marks

pub zeros_set : (l : List ℕ) (i x : ℕ) → 0 < x → i < length l → get_or l i 0 ≡ 0 → zeros l ≡ zeros (set l i x) + 1
zeros_set [] i x o h e = absurd (omega arith)
zeros_set (zero ∷ xs) zero zero o h e = absurd (omega arith)
zeros_set (zero ∷ xs) zero (suc x) o h e = omega arith
zeros_set (suc y ∷ xs) zero x o h e = absurd (omega arith)
zeros_set (zero ∷ xs) (suc i) x o h e = omega (arith, zeros_set xs i x o (omega arith) e)
zeros_set (suc y ∷ xs) (suc i) x o h e = zeros_set xs i x o (omega arith) e

zeros_same : (l : List ℕ) (i x : ℕ) → 0 < x → i < length l → (get_or l i 0 ≡ 0 → ⊥) → zeros (set l i x) ≡ zeros l
zeros_same [] i x o h e = absurd (omega arith)
zeros_same (zero ∷ xs) zero x o h e = absurd (e refl)
zeros_same (suc y ∷ xs) zero zero o h e = absurd (omega arith)
zeros_same (suc y ∷ xs) zero (suc x) o h e = refl
zeros_same (zero ∷ xs) (suc i) x o h e = ap suc (zeros_same xs i x o (omega arith) e)
zeros_same (suc y ∷ xs) (suc i) x o h e = zeros_same xs i x o (omega arith) e

grown_none : (ms : List ℕ) → Grown ms ms
grown_none ms k = (λ was. refl, λ z one. omega (arith, sym z ∙ one))

pub grown_then : (a b d : List ℕ) → Grown a b → Grown b d → Grown a d
grown_then a b d p q k = (
  λ was. (let e = (p k).0 was in (q k).0 (λ z. was (sym e ∙ z)) ∙ e),
  λ z one. ⊎_elim (λ (y : get_or b k 0 ≡ 0). (q k).1 y one) (λ (n : get_or b k 0 ≡ 0 → ⊥). (p k).1 z (sym ((q k).0 n) ∙ one)) (cases_eq (get_or b k 0) 0),
)

-- node i is opened, what is below it is walked, and it is closed
grown_closed : (ms ms' : List ℕ) (i x : ℕ) → i < length ms → length ms' ≡ length ms → get_or ms i 0 ≡ 0 → 1 < x → Grown (set ms i 1) ms' → Grown ms (set ms' i x)
grown_closed ms ms' i x h len e big g k =
    ⊎_elim
    (λ (q : k ≡ i). (
      λ was. absurd (was (ap (λ j. get_or ms j 0) q ∙ e)),
      λ z one. omega (arith, sym (ap (λ j. get_or (set ms' i x) j 0) q ∙ get_or-set_same ms' i x 0 (omega arith)) ∙ one),
    ))
    (λ (n : k ≢ i).
    let p = get_or-set_other ms i k 1 0 n in
    let r = get_or-set_other ms' i k x 0 n in
    (λ was. r ∙ (g k).0 (λ z. was (sym p ∙ z)) ∙ p, λ z one. (g k).1 (p ∙ z) (sym r ∙ one)))
    (cases_eq k i)

-- what is entered stays
grown_keeps : (ms ms' : List ℕ) (k x : ℕ) → Grown ms ms' → get_or ms k 0 ≡ x → 0 < x → get_or ms' k 0 ≡ x
grown_keeps ms ms' k x g e big = (g k).0 (λ z. omega (arith, sym e ∙ z)) ∙ e

-- ---- a node is opened

abbrev pub opening : Work → ℕ → Work
opening w i = work (set w.marks i 1) w.origins w.heads w.nexts w.count

module _ (ns : List Node) (w : Work) (i : ℕ) (h : i < length w.marks) (new : get_or w.marks i 0 ≡ 0) where
  done_other : (j : ℕ) → 2 ≤ get_or w.marks j 0 → get_or (set w.marks i 1) j 0 ≡ get_or w.marks j 0
  done_other j d = let ne : j ≢ i = λ q. omega (arith, ap (λ (k : ℕ). get_or w.marks k 0) q) in get_or-set_other w.marks i j 1 0 ne

  mark_other : (k p : ℕ) → get_or (set w.marks i 1) k 0 ≡ p + 2 → get_or w.marks k 0 ≡ p + 2
  mark_other k p d =
      let ne : k ≢ i = λ q. omega (arith, sym (ap (λ (j : ℕ). get_or (set w.marks i 1) j 0) q ∙ get_or-set_same w.marks i 1 0 h) ∙ d) in
      sym (get_or-set_other w.marks i k 1 0 ne) ∙ d

  pub opened : (ps : List Ty) → State ns w ps → State ns (opening w i) ps
  opened ps s =
      record {
        marked = record {
          built = s.marked.built;
          read = λ k p l d. s.marked.read k p l (mark_other k p d);
          complete = λ k p l d j a b e.
              (let c = s.marked.complete k p l (mark_other k p d) j a b e in
              (omega (arith, c.0, done_other (root ns a) c.0), omega (arith, c.1, done_other (root ns b) c.1)));
        };
        long = s.long;
        made = λ p l. (let o = s.made p l in record { inside = o.inside; stands = o.stands; mark = done_other (get_or w.origins p 0) (omega (arith, o.mark)) ∙ o.mark });
        table = s.table;
      }

  pub room_opened : (n : ℕ) → Room n w → Room n (opening w i) × (w.count + zeros (set w.marks i 1) < n)
  room_opened n r =
      let z = zeros_set w.marks i 1 (omega arith) h new in
      (record { marks = length-set w.marks i 1 ∙ r.marks; origins = r.origins; heads = r.heads; nexts = r.nexts; rest = omega (arith, r.rest); few = r.few }, omega (arith, r.rest))

-- ---- the ways out of the walk

module _ (ns : List Node) (flat : Flat ns) where
  -- a node that is done
  pub walked_known : (w : Work) (at i p : ℕ) → at < length ns → i ≡ root ns at → get_or w.marks i 0 ≡ p + 2 → Walked ns w w at p
  walked_known w at i p h is d =
      let d' : get_or w.marks (root ns at) 0 ≡ p + 2 = ap (λ (j : ℕ). get_or w.marks j 0) (sym is) ∙ d in
      record {
        fewer = omega arith;
        rest = omega arith;
        grown = grown_none w.marks;
        mark = d';
        exact = λ ps s.
            (let r = s.marked.read (root ns at) p (root_inside ns flat at h) d' in
            let a = sym (visit_again s.marked.built (part ps p) (has_at ps p (variable 0) r.0)) in
            record {
              type = part ps p;
              reads = root_reads ns flat at r.1;
              state = subst (State ns w) a s;
              here = sym (place_own s.marked.built p (variable 0) r.0) ∙ ap (λ (qs : List Ty). place qs (part ps p)) a;
            });
      }

  -- node i was opened, its parts were walked, and it is done
  module _ (w w₃ w' : Work) (at i p : ℕ) (key : TypeNode) (is : i ≡ root ns at) (h : i < length w.marks) (new : get_or w.marks i 0 ≡ 0) (len : length w₃.marks ≡ length w.marks) (g : Grown (set w.marks i 1) w₃.marks) (cl : Closed ns w₃ w' i key p) where
    stays : get_or w₃.marks i 0 ≡ 1
    stays = grown_keeps (set w.marks i 1) w₃.marks i 1 g (get_or-set_same w.marks i 1 0 h) (omega arith)

    walked_closed : zeros w₃.marks ≤ zeros (set w.marks i 1) → w₃.count + zeros w₃.marks ≤ w.count + zeros (set w.marks i 1) → ((ps : List Ty) → State ns w ps → Exact ns w' at p ps) → Walked ns w w' at p
    walked_closed fewer rest exact =
        let z = zeros_set w.marks i 1 (omega arith) h new in
        let y = zeros_same w₃.marks i (p + 2) (omega arith) (omega arith) (λ q. omega (arith, sym stays ∙ q)) in
        let e : zeros w'.marks ≡ zeros w₃.marks = ap zeros cl.marks ∙ y in
        record {
          fewer = omega arith;
          rest = omega (arith, cl.count);
          grown = subst (Grown w.marks) (sym cl.marks) (grown_closed w.marks w₃.marks i (p + 2) h len new (omega arith) g);
          mark = ap (λ (j : ℕ). get_or w'.marks j 0) (sym is) ∙ ap (λ (l : List ℕ). get_or l i 0) cl.marks ∙ get_or-set_same w₃.marks i (p + 2) 0 (omega arith);
          exact = exact;
        }

  -- a leaf
  pub walked_leaf : (w w' : Work) (at i p : ℕ) (t : Ty) (key : TypeNode) → i ≡ root ns at → i < length w.marks → get_or w.marks i 0 ≡ 0 → Closed ns (opening w i) w' i key p → Reads ns i t → ((ps : List Ty) → (key_of ps t ≡ key) × Ready ps t × (firsts ps (postorder t) ≡ add ps t)) → Walked ns w w' at p
  walked_leaf w w' at i p t key is h new cl reads leaf =
      walked_closed w (opening w i) w' at i p key is h new (length-set w.marks i 1) (grown_none (set w.marks i 1)) cl (omega arith) (omega arith)
      (λ ps s.
      let f = leaf ps in
      let x = cl.exact ps t (opened ns w i h new ps s) f.1 f.0 reads in
      record {
        type = t;
        reads = root_reads ns flat at (subst (λ (j : ℕ). Reads ns j t) is reads);
        state = subst (State ns w') (sym f.2) x.0;
        here = x.1 ∙ ap (λ (qs : List Ty). place qs t) (sym f.2);
      })

  pub walked_branch : (w w₂ w₃ w' : Work) (at i p k l r left right : ℕ) → i ≡ root ns at → i < length w.marks → get_or w.marks i 0 ≡ 0 → length w₃.marks ≡ length w.marks → get_or ns i Var ≡ Branch k l r → 2 ≤ k → Walked ns (opening w i) w₂ l left → Walked ns w₂ w₃ r right → Closed ns w₃ w' i (node k left right) p → Walked ns w w' at p
  walked_branch w w₂ w₃ w' at i p k l r left right is h new len e kind wl wr cl =
      walked_closed w w₃ w' at i p (node k left right) is h new len (grown_then (set w.marks i 1) w₂.marks w₃.marks wl.grown wr.grown) cl (omega (arith, wl.fewer, wr.fewer)) (omega (arith, wl.rest, wr.rest))
      (λ ps s.
      let a = wl.exact ps (opened ns w i h new ps s) in
      let qs = firsts ps (postorder a.type) in
      let b = wr.exact qs a.state in
      let rs = firsts qs (postorder b.type) in
      let t = branch k a.type b.type in
      let ml = (visit_built a.type (reads_proper ns flat a.reads) s.marked.built).1 in
      let ml' : has rs a.type ≡ true = firsts_has qs (postorder b.type) a.type ml in
      let mr : has rs b.type ≡ true = (visit_built b.type (reads_proper ns flat b.reads) a.state.marked.built).1 in
      let el : place rs a.type ≡ left = firsts_place qs (postorder b.type) a.type ml ∙ sym a.here in
      let reads : Reads ns i t = reads_branch e a.reads b.reads in
      let x = cl.exact rs t b.state (kind, ml', mr) (ap₂ (node k) el (sym b.here)) reads in
      let f = sym (firsts_branch ps k a.type b.type) in
      record {
        type = t;
        reads = root_reads ns flat at (subst (λ (j : ℕ). Reads ns j t) is reads);
        state = subst (State ns w') f x.0;
        here = x.1 ∙ ap (λ (us : List Ty). place us t) f;
      })

  -- the parts of an open node, once walked, are done
  pub complete_walked : (w w₂ w₃ : Work) (i k l r left right : ℕ) → get_or ns i Var ≡ Branch k l r → Walked ns w w₂ l left → Walked ns w₂ w₃ r right → Complete ns w₃.marks i
  complete_walked w w₂ w₃ i k l r left right e wl wr j a b d =
      let ea : l ≡ a = cc in
      let eb : r ≡ b = cc in
      let ml = grown_keeps w₂.marks w₃.marks (root ns l) (left + 2) wr.grown wl.mark (omega arith) in
      let mr = wr.mark in
      (omega (arith, ap (λ (x : ℕ). get_or w₃.marks (root ns x) 0) ea), omega (arith, ap (λ (x : ℕ). get_or w₃.marks (root ns x) 0) eb))

  pub still_open : (w w₂ w₃ : Work) (i l r left right : ℕ) → i < length w.marks → Walked ns (opening w i) w₂ l left → Walked ns w₂ w₃ r right → get_or w₃.marks i 0 ≡ 1
  still_open w w₂ w₃ i l r left right h wl wr =
      grown_keeps w₂.marks w₃.marks i 1 wr.grown (grown_keeps (set w.marks i 1) w₂.marks i 1 wl.grown (get_or-set_same w.marks i 1 0 h) (omega arith)) (omega arith)

  -- ---- loops

  pub looped : (ms : List ℕ) (at i : ℕ) → at < length ns → i ≡ root ns at → get_or ms i 0 ≡ 1 → Above ns ms at → (v : ℕ → Ty) → Solves v ns → ⊥
  looped ms at i h is e above v s =
      omega (arith, above (root ns at) (root_inside ns flat at h) (ap (λ (j : ℕ). get_or ms j 0) (sym is) ∙ e) v s, ap size (root_same ns flat v s at h))

  -- the open node i is larger than its part l
  pub above_part : (ms : List ℕ) (at i l : ℕ) → at < length ns → i ≡ root ns at → ((v : ℕ → Ty) → Solves v ns → size (v l) < size (v i)) → Above ns ms at → Above ns (set ms i 1) l
  above_part ms at i l h is smaller above k b e v s =
      ⊎_elim
      (λ (q : k ≡ i). omega (arith, smaller v s, ap (λ (j : ℕ). size (v j)) q))
      (λ (ne : k ≢ i). omega (arith, smaller v s, ap size (root_same ns flat v s at h), ap (λ (j : ℕ). size (v j)) is, above k b (sym (get_or-set_other ms i k 1 0 ne) ∙ e) v s))
      (cases_eq k i)

  pub above_grown : (ms ms' : List ℕ) (l : ℕ) → Grown ms ms' → Above ns ms l → Above ns ms' l
  above_grown ms ms' l g above k b e v s =
      above k b (⊎_elim (λ (z : get_or ms k 0 ≡ 0). absurd ((g k).1 z e)) (λ (n : get_or ms k 0 ≡ 0 → ⊥). sym ((g k).0 n) ∙ e) (cases_eq (get_or ms k 0) 0)) v s

  pub smaller_left : (i k l r : ℕ) → i < length ns → get_or ns i Var ≡ Branch k l r → (v : ℕ → Ty) → Solves v ns → size (v l) < size (v i)
  smaller_left i k l r h e v s = omega (arith, ap size (says_at v ns i (Branch k l r) s h e))

  pub smaller_right : (i k l r : ℕ) → i < length ns → get_or ns i Var ≡ Branch k l r → (v : ℕ → Ty) → Solves v ns → size (v r) < size (v i)
  smaller_right i k l r h e v s = omega (arith, ap size (says_at v ns i (Branch k l r) s h e))

pub room_walked : (ns : List Node) (n : ℕ) (w w' : Work) (at p : ℕ) → Room n w → Walked ns w w' at p → length w'.marks ≡ length w.marks → length w'.origins ≡ length w.origins → length w'.heads ≡ length w.heads → length w'.nexts ≡ length w.nexts → Room n w'
room_walked ns n w w' at p r x em eo eh ex =
    record { marks = em ∙ r.marks; origins = eo ∙ r.origins; heads = eh ∙ r.heads; nexts = ex ∙ r.nexts; rest = omega (arith, x.rest, r.rest); few = r.few }
