-- A merge in the memory is the merge in the graph.
use Rattle.std.proofs.Common.{◌≡◌, ℕ, ◌<◌, ◌≢◌, Option, None, Ok, Err, map, List, length, get_or, set, sym, ap, ap₂, ◌∙◌, subst, arith}
use Rattle.std.proofs.lemmas.List.{length-map, map-set}
use Rattle.types.specs.Lists.{node, zero_node}
use Rattle.types.specs.declared.TypeNode.{TypeNode}
use Rattle.graph.specs.Graph.{view, Sound, alive}
use Rattle.graph.specs.Unifying.{Apart, compared, Merged}
use Rattle.graph.proofs.Memory.{node_at}
use Rattle.graph.proofs.Merges.{merged_low_var, merged}
use Rattle.graph.specs.declared.Node.{Node}
use Rattle.graph.specs.declared.Node.TheVariants.{Var, Link}
use Rattle.graph.specs.declared.Clash.{Clash}
use Rattle.graph.specs.declared.Parts.{Parts}

module _ (ts : List TypeNode) (low high : ℕ) (x y : Node) (d : x ≡ view (get_or ts low zero_node)) (e : y ≡ view (get_or ts high zero_node)) (sound : Sound (map view ts)) (order : low < high) (within : high < length ts) (one : alive (view (get_or ts low zero_node)) ≡ 1) (two : alive (view (get_or ts high zero_node)) ≡ 1) where
  here : high < length (map view ts)
  here = omega (arith, length-map ts view)

  at_low : get_or (map view ts) low Var ≡ x
  at_low = node_at ts low ∙ sym d

  at_high : get_or (map view ts) high Var ≡ y
  at_high = node_at ts high ∙ sym e

  linked : x ≢ Var → Merged (map view ts) (set (map view ts) high (Link low)) low high (compared x y)
  linked ne = merged (map view ts) low high sound order here x y at_low at_high (ap alive d ∙ one) (ap alive e ∙ two) ne

  -- x stays where it says something
  pub merges_other : (us : List TypeNode) (l : TypeNode) (r : Option Parts) → us ≡ ts → l ≡ node 255 low 0 → Ok r ≡ compared x y → x ≢ Var → Merged (map view ts) (map view (set us high l)) low high (Ok r)
  merges_other us l r eu el q ne =
      subst (λ (zs : List Node). Merged (map view ts) zs low high (Ok r)) (sym (map-set view us high l ∙ ap₂ (λ (zs : List TypeNode) (z : TypeNode). set (map view zs) high (view z)) eu el))
      (subst (Merged (map view ts) (set (map view ts) high (Link low)) low high) (sym q) (linked ne))

  pub merges_var : (us : List TypeNode) (l : TypeNode) (r : Option Parts) → us ≡ set ts low (get_or ts high zero_node) → l ≡ node 255 low 0 → Ok r ≡ compared x y → x ≡ Var → Merged (map view ts) (map view (set us high l)) low high (Ok r)
  merges_var us l r eu el q v =
      let n : Ok r ≡ compared Var y = subst (λ (z : Node). Ok r ≡ compared z y) v q in
      let z : ◌≡◌ {A = Option Parts} None r = cc in
      let u : map view us ≡ set (map view ts) low y = ap (map view) eu ∙ map-set view ts low (get_or ts high zero_node) ∙ ap (set (map view ts) low) (sym e) in
      let w : map view (set us high l) ≡ set (set (map view ts) low y) high (Link low) =
      map-set view us high l ∙ ap₂ (λ (zs : List Node) (z : TypeNode). set zs high (view z)) u el in
      subst (λ (zs : List Node). Merged (map view ts) zs low high (Ok r)) (sym w)
      (subst (λ (p : Option Parts). Merged (map view ts) (set (set (map view ts) low y) high (Link low)) low high (Ok p)) z
      (merged_low_var (map view ts) low high y sound order here (at_low ∙ v) at_high (ap alive e ∙ two)))

  pub merges_none : (c : Clash) → Err c ≡ compared x y → Apart (map view ts) low high
  merges_none c q =
      subst (Merged (map view ts) (set (map view ts) high (Link low)) low high) (sym q)
      (linked (λ v. let n : Err c ≡ compared Var y = subst (λ (z : Node). Err c ≡ compared z y) v q in cc))
