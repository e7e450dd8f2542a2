-- What unification does to the solutions of a graph: those are left that give two nodes one type.
use Rattle.std.specs.Prelude.{◌≡◌, ℕ, ◌<◌, cond, ◌==◌, Option, Some, None, Result, Ok, Err, List, length, ◌≢◌}
use Rattle.types.specs.Types.{Ty}
use Rattle.graph.specs.Graph.{Solves, Kept, Always, live}
use Rattle.graph.specs.declared.Node.{Node}
use Rattle.graph.specs.declared.Node.TheVariants.{Var, Base, Branch, Link}
use Rattle.graph.specs.declared.Clash.{Clash}
use Rattle.graph.specs.declared.Parts.{Parts}

-- the valuation gives a and b one type
abbrev pub Alike : ℕ → ℕ → (ℕ → Ty) → Type 0
Alike a b v = v a ≡ v b

-- no solution gives a and b one type
abbrev pub Apart : List Node → ℕ → ℕ → Type 0
Apart ns a b = (v : ℕ → Ty) → Solves v ns → v a ≢ v b

-- what is left of making a and b alike: to make l and m alike, and r and s
pub record Reduced (ns ms : List Node) (a b l m r s : ℕ) : Type 0 where
  pub kept : Kept ns ms (Alike a b) (λ v. Alike l m v × Alike r s v)
  pub falls : live ms < live ns
  pub first : (l < length ns) × (m < length ns)
  pub second : (r < length ns) × (s < length ns)

-- what is left of making two representatives alike, by their nodes: nothing, two pairs of parts, or nothing that can be done
abbrev pub compared : Node → Node → Result (Option Parts) Clash
compared Var y = Ok None
compared (Base p) Var = Ok None
compared (Base p) (Base q) = cond (p == q) (Ok None) (Err record {})
compared (Base p) (Branch k m s) = Err record {}
compared (Base p) (Link n) = Err record {}
compared (Branch j l r) Var = Ok None
compared (Branch j l r) (Base q) = Err record {}
compared (Branch j l r) (Branch k m s) = cond (j == k) (Ok (Some record { left = (l, m); right = (r, s) })) (Err record {})
compared (Branch j l r) (Link n) = Err record {}
compared (Link i) Var = Ok None
compared (Link i) (Base q) = Err record {}
compared (Link i) (Branch k m s) = Err record {}
compared (Link i) (Link n) = Err record {}

-- a merge that makes a and b alike, if the parts that it leaves are made alike
abbrev pub Merged : List Node → List Node → ℕ → ℕ → Result (Option Parts) Clash → Type 0
Merged ns ms a b (Ok None) = Kept ns ms (Alike a b) Always
Merged ns ms a b (Ok (Some p)) = Reduced ns ms a b p.left.0 p.left.1 p.right.0 p.right.1
Merged ns ms a b (Err e) = Apart ns a b

-- the solutions of ms are those of ns that give a and b one type; or there are none
abbrev pub Unified : List Node → List Node → ℕ → ℕ → Result Unit Clash → Type 0
Unified ns ms a b (Ok u) = Kept ns ms (Alike a b) Always
Unified ns ms a b (Err e) = Apart ns a b
