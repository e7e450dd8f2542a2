-- Links that are made straight, from the lowest on.
use Rattle.std.proofs.Common.{◌≡◌, ℕ, ◌+◌, ◌<◌, eqb, ◌≢◌, List, map, length, get_or, set, sym, refl, ap, ◌∙◌, subst, ⊎_elim, arith}
use Rattle.std.proofs.lemmas.List.{length-map, length-set, map-set, get_or-set_same, get_or-set_other}
use Rattle.std.proofs.lemmas.Bool.{cases_eq, eqb-false, cond_both}
use Rattle.types.specs.declared.TypeNode.{TypeNode}
use Rattle.types.specs.Lists.{zero_node}
use Rattle.graph.specs.Graph.{view, Sound, alive, Kept, Always, Still}
use Rattle.graph.proofs.Writes.{inside_at, skipped}
use Rattle.graph.specs.declared.Node.{Node}
use Rattle.graph.specs.declared.Node.TheVariants.{Var, Base, Branch, Link}
use Rattle.walk.specs.Reads.{target, root, Kind, Straight, Flat}
use Rattle.walk.specs.Listing.{SimpleNode, SimpleGraph}
use Rattle.walk.proofs.Graphs.{nodes_at, root_alive}

pub kind_view : (x : TypeNode) → Kind (view x)
kind_view x =
    cond_both (eqb x.kind 0) Var _ Kind (λ e. tt)
    (λ a. cond_both (eqb x.kind 1) (Base x.left) _ Kind (λ e. tt)
    (λ b. cond_both (eqb x.kind 255) (Link x.left) (Branch x.kind x.left x.right) Kind (λ e. tt) (λ d. omega (arith, eqb-false x.kind 0 a, eqb-false x.kind 1 b))))

pub not_link_alive : (x : Node) → ((j : ℕ) → x ≡ Link j → ⊥) → alive x ≡ 1
not_link_alive Var n = refl
not_link_alive (Base c) n = refl
not_link_alive (Branch k l r) n = refl
not_link_alive (Link j) n = absurd (n j refl)

-- a node that is no link is straight
pub straight_self : (ns : List Node) (i : ℕ) → alive (get_or ns i Var) ≡ 1 → Straight ns i
straight_self ns i e = subst (λ (j : ℕ). alive (get_or ns j Var) ≡ 1) (sym (root_alive ns i e)) e

pub straight_link : (ns : List Node) (i j : ℕ) → get_or ns i Var ≡ Link j → alive (get_or ns j Var) ≡ 1 → Straight ns i
straight_link ns i j e a = subst (λ (x : Node). alive (get_or ns (target i x) Var) ≡ 1) (sym e) a

pub straight_flat : (ts : List TypeNode) → Sound (map view ts) → ((k : ℕ) → k < length ts → Straight (map view ts) k) → Flat (map view ts)
straight_flat ts sound all =
    record {
      sound = sound;
      kinds = λ i. subst Kind (sym (nodes_at ts i)) (kind_view (get_or ts i zero_node));
      straight = λ i l. all i (omega (arith, length-map ts view));
    }

module _ (ts : List TypeNode) (i : ℕ) (within : i < length ts) (sound : Sound (map view ts)) (below : (k : ℕ) → k < i → Straight (map view ts) k) where
  abbrev ns : List Node
  ns = map view ts

  inside : i < length ns
  inside = omega (arith, length-map ts view)

  more : Straight ns i → (k : ℕ) → k < i + 1 → Straight ns k
  more here k h = ⊎_elim (λ (q : k ≡ i). subst (Straight ns) (sym q) here) (λ (ne : k ≢ i). below k (omega arith)) (cases_eq k i)

  -- no link
  pub straight_node : alive (view (get_or ts i zero_node)) ≡ 1 → (k : ℕ) → k < i + 1 → Straight ns k
  straight_node e = more (straight_self ns i (ap alive (nodes_at ts i) ∙ e))

  module _ (next : ℕ) (link : Link next ≡ view (get_or ts i zero_node)) where
    pub next_below : next < i
    next_below = inside_at ns i (Link next) sound inside (nodes_at ts i ∙ sym link)

    -- a link to no link
    pub straight_next : alive (view (get_or ts next zero_node)) ≡ 1 → (k : ℕ) → k < i + 1 → Straight ns k
    straight_next e = more (straight_link ns i next (nodes_at ts i ∙ sym link) (ap alive (nodes_at ts next) ∙ e))

    -- a link to a link, which is put in its place
    module _ (far : ℕ) (again : Link far ≡ view (get_or ts next zero_node)) where
      abbrev ms : List Node
      ms = map view (set ts i (get_or ts next zero_node))

      same : ms ≡ set ns i (Link far)
      same = map-set view ts i (get_or ts next zero_node) ∙ ap (set ns i) (sym again)

      skipped_link : Kept ns ms Always Always × Still ns ms
      skipped_link = subst (λ (zs : List Node). Kept ns zs Always Always × Still ns zs) (sym same) (skipped ns i next far sound inside (nodes_at ts i ∙ sym link) (nodes_at ts next ∙ sym again))

      pub skipped_kept : Kept ns ms Always Always
      skipped_kept = skipped_link.0

      pub skipped_simple : SimpleGraph ns → SimpleGraph ms
      skipped_simple simple k h =
          subst (λ (l : List Node). SimpleNode (get_or l k Var)) (sym same)
          (⊎_elim
          (λ (q : k ≡ i). subst (λ (j : ℕ). SimpleNode (get_or (set ns i (Link far)) j Var)) (sym q) (subst SimpleNode (sym (get_or-set_same ns i (Link far) Var inside)) tt))
          (λ (ne : k ≢ i). subst SimpleNode (sym (get_or-set_other ns i k (Link far) Var ne)) (simple k (omega (arith, ap length same, length-set ns i (Link far)))))
          (cases_eq k i))

      pub skipped_straight : (k : ℕ) → k < i + 1 → Straight ms k
      skipped_straight k h =
          let still = skipped_link.1 in
          let far-alive : alive (get_or ns far Var) ≡ 1 = subst (λ (x : Node). alive (get_or ns (target next x) Var) ≡ 1) (nodes_at ts next ∙ sym again) (below next next_below) in
          ⊎_elim
          (λ (q : k ≡ i). subst (Straight ms) (sym q) (straight_link ms i far (ap (λ (l : List Node). get_or l i Var) same ∙ get_or-set_same ns i (Link far) Var inside) (still far ∙ far-alive)))
          (λ (ne : k ≢ i).
          let e : get_or ns k Var ≡ get_or ms k Var = sym (ap (λ (l : List Node). get_or l k Var) same ∙ get_or-set_other ns i k (Link far) Var ne) in
          subst (λ (x : Node). alive (get_or ms (target k x) Var) ≡ 1) e (still (root ns k) ∙ below k (omega arith)))
          (cases_eq k i)

pub looked_alive : (x y : Node) → y ≡ x → ((j : ℕ) → y ≡ Link j → ⊥) → alive x ≡ 1
looked_alive x y e n = ap alive (sym e) ∙ not_link_alive y n
