-- Keys tell the parts of a list, and are worked out from a node and the marks of its parts.
use Rattle.std.proofs.Common.{◌≡◌, ℕ, ◌+◌, ◌-◌, ◌<◌, ◌≤◌, List, ◌++◌, map, length, get_or, sym, refl, ap, ◌∙◌, ap₂, arith}
use Rattle.types.specs.declared.TypeNode.{TypeNode}
use Rattle.types.specs.Types.{Ty, variable, base, branch}
use Rattle.types.specs.Lists.{node, zero_node}
use Rattle.normal.specs.Normal.{place}
use Rattle.normal.specs.Built.{Ready}
use Rattle.normal.proofs.Parts.{place_own, place_one, place_left}
use Rattle.std.proofs.lemmas.List.{length-map}
use Rattle.graph.specs.Graph.{view}
use Rattle.graph.proofs.Writes.{inside_at}
use Rattle.graph.specs.declared.Node.{Node}
use Rattle.graph.specs.declared.Node.TheVariants.{Var, Base, Branch}
use Rattle.walk.specs.Reads.{Reads, root, Flat}
use Rattle.walk.specs.Work.{key_of, part, Marked, Origin}
use Rattle.walk.proofs.Graphs.{nodes_at, spelt_as, reads_one, root_inside, root_reads}

abbrev kind_of : TypeNode → ℕ
kind_of n = n.kind

abbrev left_of : TypeNode → ℕ
left_of n = n.left

abbrev right_of : TypeNode → ℕ
right_of n = n.right

pub key_one : (ps : List Ty) (t u : Ty) → Ready ps t → Ready ps u → key_of ps t ≡ key_of ps u → t ≡ u
key_one ps (variable i) (variable j) k l e = ap variable (ap left_of e)
key_one ps (variable i) (base d) k l e = absurd (omega (arith, ap kind_of e))
key_one ps (variable i) (branch h x y) k l e = absurd (omega (arith, ap kind_of e, l.0))
key_one ps (base c) (variable j) k l e = absurd (omega (arith, ap kind_of e))
key_one ps (base c) (base d) k l e = ap base (ap left_of e)
key_one ps (base c) (branch h x y) k l e = absurd (omega (arith, ap kind_of e, l.0))
key_one ps (branch h a b) (variable j) k l e = absurd (omega (arith, ap kind_of e, k.0))
key_one ps (branch h a b) (base d) k l e = absurd (omega (arith, ap kind_of e, k.0))
key_one ps (branch h a b) (branch j x y) k l e =
    ap (λ (i : ℕ). branch i a b) (ap kind_of e) ∙ ap₂ (branch j) (place_one ps a x k.1 l.1 (ap left_of e)) (place_one ps b y k.2 l.2 (ap right_of e))

pub key_left : (ps qs : List Ty) (t : Ty) → Ready ps t → key_of (ps ++ qs) t ≡ key_of ps t
key_left ps qs (variable i) k = refl
key_left ps qs (base c) k = refl
key_left ps qs (branch h a b) k = ap₂ (node h) (place_left ps qs a k.1) (place_left ps qs b k.2)

module _ (ns : List Node) (ms : List ℕ) (ps : List Ty) (flat : Flat ns) (m : Marked ns ms ps) where
  -- where the type of a node stands whose class is done
  pub place_done : (l : ℕ) (a : Ty) → l < length ns → 2 ≤ get_or ms (root ns l) 0 → Reads ns l a → get_or ms (root ns l) 0 - 2 ≡ place ps a
  place_done l a h done p =
      let q = get_or ms (root ns l) 0 - 2 in
      let r = m.read (root ns l) q (root_inside ns flat l h) (omega arith) in
      let e : part ps q ≡ a = reads_one ns (root_reads ns flat l r.1) p in
      sym (place_own m.built q (variable 0) r.0) ∙ ap (place ps) e

  module _ (i p : ℕ) (h : i < length ns) (done : get_or ms i 0 ≡ p + 2) where
    pub key_variable : get_or ns i Var ≡ Var → node 0 i 0 ≡ key_of ps (part ps p)
    key_variable e = ap (key_of ps) (sym (spelt_as ns Var e (m.read i p h done).1))

    pub key_base : (c : ℕ) → get_or ns i Var ≡ Base c → node 1 c 0 ≡ key_of ps (part ps p)
    key_base c e = ap (key_of ps) (sym (spelt_as ns (Base c) e (m.read i p h done).1))

    pub key_branch : (k l r : ℕ) → get_or ns i Var ≡ Branch k l r → node k (get_or ms (root ns l) 0 - 2) (get_or ms (root ns r) 0 - 2) ≡ key_of ps (part ps p)
    key_branch k l r e =
        let w = spelt_as ns (Branch k l r) e (m.read i p h done).1 in
        let d = m.complete i p h done k l r e in
        let in_graph = inside_at ns i (Branch k l r) flat.sound h e in
        ap₂ (node k) (place_done l w.0 in_graph.0 d.0 w.2) (place_done r w.1 in_graph.1 d.1 w.3) ∙ ap (key_of ps) (sym w.4)

-- what may be asked of a part whose class is done
pub record Found (ts : List TypeNode) (ms : List ℕ) (l : ℕ) : Type 0 where
  pub inside : l < length ts
  pub known : root (map view ts) l < length ms
  pub done : 2 ≤ get_or ms (root (map view ts) l) 0
  pub few : get_or ms (root (map view ts) l) 0 < 65538

module _ (ts : List TypeNode) (ms : List ℕ) (ps : List Ty) (flat : Flat (map view ts)) (m : Marked (map view ts) ms ps) (long : length ms ≡ length ts) (small : length ps ≤ length ts) (few : length ts ≤ 65536) where
  pub found : (l : ℕ) → l < length (map view ts) → 2 ≤ get_or ms (root (map view ts) l) 0 → Found ts ms l
  found l h done =
      let n = length-map ts view in
      let i = root_inside (map view ts) flat l h in
      let r = m.read (root (map view ts) l) (get_or ms (root (map view ts) l) 0 - 2) i (omega arith) in
      record { inside = omega arith; known = omega arith; done = done; few = omega (arith, r.0) }

  pub found_parts : (i k l r : ℕ) → Origin (map view ts) ms i (get_or ms i 0 - 2) → Branch k l r ≡ view (get_or ts i zero_node) → Found ts ms l × Found ts ms r
  found_parts i k l r o e =
      let f : get_or (map view ts) i Var ≡ Branch k l r = nodes_at ts i ∙ sym e in
      let in_graph = inside_at (map view ts) i (Branch k l r) flat.sound o.inside f in
      let d = m.complete i (get_or ms i 0 - 2) o.inside o.mark k l r f in
      (found l in_graph.0 d.0, found r in_graph.1 d.1)
