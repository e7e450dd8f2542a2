-- Records in a lent memory, read as the nodes of a graph.
use Rattle.std.proofs.Common.{◌≡◌, ℕ, zero, suc, ◌+◌, ◌<◌, ◌≤◌, List, [], ◌∷◌, ◌++◌, map, length, get_or, take, set, sym, refl, ap, ◌∙◌, subst, arith}
use Rattle.std.proofs.lemmas.List.{length-map, length-take, take_more_set, map-append, map-set}
use Rattle.std.proofs.Math.ListN.{get_or-map}
use Rattle.types.specs.Types.{Ty}
use Rattle.types.specs.Lists.{node, zero_node}
use Rattle.types.specs.declared.TypeNode.{TypeNode}
use Rattle.graph.specs.Graph.{view, graph, Solves, Sound, alive, Kept, Always, Still}
use Rattle.graph.proofs.Writes.{says_at, inside_at, skipped}
use Rattle.graph.specs.declared.Node.{Node}
use Rattle.graph.specs.declared.Node.TheVariants.{Var, Link}

pub graph_set : (ts : List TypeNode) (n i : ℕ) (x : TypeNode) → graph (set ts i x) n ≡ set (graph ts n) i (view x)
graph_set [] zero i x = refl
graph_set [] (suc n) i x = refl
graph_set (t ∷ ts) zero i x = refl
graph_set (t ∷ ts) (suc n) zero x = refl
graph_set (t ∷ ts) (suc n) (suc i) x = ap (λ (zs : List Node). view t ∷ zs) (graph_set ts n i x)

pub graph_push : (ts : List TypeNode) (n : ℕ) (x : TypeNode) → n < length ts → graph (set ts n x) (n + 1) ≡ graph ts n ++ view x ∷ []
graph_push ts n x h = ap (map view) (take_more_set ts n x h) ∙ map-append view (take n ts) (x ∷ [])

pub graph_at : (ts : List TypeNode) (n i : ℕ) → i < n → get_or (graph ts n) i Var ≡ view (get_or ts i zero_node)
graph_at [] zero i h = refl
graph_at [] (suc n) i h = refl
graph_at (t ∷ ts) zero i h = absurd (omega arith)
graph_at (t ∷ ts) (suc n) zero h = refl
graph_at (t ∷ ts) (suc n) (suc i) h = graph_at ts n i (omega arith)

pub graph_length : (ts : List TypeNode) (n : ℕ) → n ≤ length ts → length (graph ts n) ≡ n
graph_length ts n h = omega (arith, length-map (take n ts) view, length-take n ts)

pub same_long : (ts us : List TypeNode) (n : ℕ) → n ≤ length ts → length us ≡ length ts → length (graph us n) ≡ length (graph ts n)
same_long ts us n h e = omega (arith, graph_length ts n h, graph_length us n (omega arith))

-- a link in the memory that skips one
pub skip : (ts : List TypeNode) (n i next far : ℕ) → n ≤ length ts → i < n → next < n → Sound (graph ts n) → view (get_or ts i zero_node) ≡ Link next → view (get_or ts next zero_node) ≡ Link far → Kept (graph ts n) (graph (set ts i (node 255 far 0)) n) Always Always × Still (graph ts n) (graph (set ts i (node 255 far 0)) n)
skip ts n i next far fits hi hn sound d e =
    subst (λ (zs : List Node). Kept (graph ts n) zs Always Always × Still (graph ts n) zs) (sym (graph_set ts n i (node 255 far 0)))
    (skipped (graph ts n) i next far sound (omega (arith, graph_length ts n fits)) (graph_at ts n i hi ∙ d) (graph_at ts n next hn ∙ e))

-- where all records are in use
pub node_at : (ts : List TypeNode) (i : ℕ) → get_or (map view ts) i Var ≡ view (get_or ts i zero_node)
node_at ts i = get_or-map view ts i zero_node

pub same_many : (ts us : List TypeNode) → length us ≡ length ts → length (map view us) ≡ length (map view ts)
same_many ts us e = omega (arith, length-map ts view, length-map us view)

-- a link that skips one
pub skipped_link : (ts : List TypeNode) (i next far : ℕ) (x : TypeNode) → i < length ts → next < length ts → Sound (map view ts) → view (get_or ts i zero_node) ≡ Link next → x ≡ get_or ts next zero_node → view x ≡ Link far → Kept (map view ts) (map view (set ts i x)) Always Always × Still (map view ts) (map view (set ts i x))
skipped_link ts i next far x hi hn sound d q e =
    subst (λ (zs : List Node). Kept (map view ts) zs Always Always × Still (map view ts) zs) (sym (map-set view ts i x ∙ ap (set (map view ts) i) e))
    (skipped (map view ts) i next far sound (omega (arith, length-map ts view)) (node_at ts i ∙ d) (node_at ts next ∙ ap view (sym q) ∙ e))

-- a link goes down
pub link_down : (ts : List TypeNode) (i next : ℕ) → i < length ts → Sound (map view ts) → view (get_or ts i zero_node) ≡ Link next → next < i
link_down ts i next h sound e = inside_at (map view ts) i (Link next) sound (omega (arith, length-map ts view)) (node_at ts i ∙ e)

pub link_says : (v : ℕ → Ty) (ts : List TypeNode) (i next : ℕ) → i < length ts → Solves v (map view ts) → view (get_or ts i zero_node) ≡ Link next → v i ≡ v next
link_says v ts i next h s e = says_at v (map view ts) i (Link next) s (omega (arith, length-map ts view)) (node_at ts i ∙ e)

pub alive_still : (ts us : List TypeNode) (i : ℕ) → Still (map view ts) (map view us) → alive (view (get_or ts i zero_node)) ≡ 1 → alive (view (get_or us i zero_node)) ≡ 1
alive_still ts us i still e = ap alive (sym (node_at us i)) ∙ still i ∙ ap alive (node_at ts i) ∙ e
