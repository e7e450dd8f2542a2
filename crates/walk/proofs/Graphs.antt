-- What the nodes of a graph read as, and the nodes that stand for their classes.
use Rattle.std.proofs.Common.{◌≡◌, ℕ, zero, suc, ◌<◌, List, [], ◌∷◌, map, length, get_or, sym, refl, ap, ◌∙◌, subst, ap₂, arith}
use Rattle.std.proofs.lemmas.List.{length-map}
use Rattle.types.specs.declared.TypeNode.{TypeNode}
use Rattle.types.specs.Types.{Ty, variable, base, branch, apply}
use Rattle.types.specs.Lists.{zero_node}
use Rattle.normal.specs.Laws.{Proper}
use Rattle.graph.specs.Graph.{view, Solves, Sound, alive}
use Rattle.graph.proofs.Writes.{says_at, inside_at}
use Rattle.graph.specs.declared.Node.{Node}
use Rattle.graph.specs.declared.Node.TheVariants.{Var, Base, Branch, Link}
use Rattle.walk.specs.Reads.{Reads, reads_variable, reads_base, reads_branch, reads_link, target, root, Kind, Flat}

pub nodes_at : (ts : List TypeNode) (i : ℕ) → get_or (map view ts) i Var ≡ view (get_or ts i zero_node)
nodes_at [] i = refl
nodes_at (t ∷ ts) zero = refl
nodes_at (t ∷ ts) (suc i) = nodes_at ts i

-- ---- reading

-- what a type is that node i reads as, by the node
abbrev pub Spelt : List Node → ℕ → Node → Ty → Type 0
Spelt ns i Var t = t ≡ variable i
Spelt ns i (Base c) t = t ≡ base c
Spelt ns i (Branch k l r) t = (a : Ty) × (b : Ty) × Reads ns l a × Reads ns r b × (t ≡ branch k a b)
Spelt ns i (Link j) t = Reads ns j t

spelt : (ns : List Node) {i : ℕ} {t : Ty} → Reads ns i t → Spelt ns i (get_or ns i Var) t
spelt ns {i} (reads_variable e) = subst (λ (x : Node). Spelt ns i x (variable i)) (sym e) refl
spelt ns {i} (reads_base {c = c} e) = subst (λ (x : Node). Spelt ns i x (base c)) (sym e) refl
spelt ns {i} (reads_branch {k = k} {a = a} {b = b} e p q) = subst (λ (x : Node). Spelt ns i x (branch k a b)) (sym e) (a, b, p, q, refl)
spelt ns {i} {t} (reads_link e p) = subst (λ (x : Node). Spelt ns i x t) (sym e) p

pub spelt_as : (ns : List Node) {i : ℕ} {t : Ty} (x : Node) → get_or ns i Var ≡ x → Reads ns i t → Spelt ns i x t
spelt_as ns {i} {t} x e p = subst (λ (y : Node). Spelt ns i y t) e (spelt ns p)

-- a node reads as one type
pub reads_one : (ns : List Node) {i : ℕ} {t u : Ty} → Reads ns i t → Reads ns i u → t ≡ u
reads_one ns (reads_variable e) q = sym (spelt_as ns Var e q)
reads_one ns (reads_base {c = c} e) q = sym (spelt_as ns (Base c) e q)
reads_one ns (reads_branch {k = k} {l = l} {r = r} e a b) q = let w = spelt_as ns (Branch k l r) e q in ap₂ (branch k) (reads_one ns a w.2) (reads_one ns b w.3) ∙ sym w.4
reads_one ns (reads_link {j = j} e p) q = reads_one ns p (spelt_as ns (Link j) e q)

-- Any solution gives a node the type that it reads as, with the solution put for the variables.
pub general : (ns : List Node) (v : ℕ → Ty) {i : ℕ} {t : Ty} → Sound ns → Solves v ns → i < length ns → Reads ns i t → apply v t ≡ v i
general ns v sound s h (reads_variable e) = refl
general ns v {i} sound s h (reads_base {c = c} e) = sym (says_at v ns i (Base c) s h e)
general ns v {i} sound s h (reads_branch {k = k} {l = l} {r = r} e p q) =
    let w = inside_at ns i (Branch k l r) sound h e in
    ap₂ (branch k) (general ns v sound s w.0 p) (general ns v sound s w.1 q) ∙ sym (says_at v ns i (Branch k l r) s h e)
general ns v {i} sound s h (reads_link {j = j} e p) =
    let w = inside_at ns i (Link j) sound h e in
    general ns v sound s (omega arith) p ∙ sym (says_at v ns i (Link j) s h e)

-- ---- roots

module _ (ns : List Node) (flat : Flat ns) where
  pub root_inside : (i : ℕ) → i < length ns → root ns i < length ns
  root_inside i h = go (get_or ns i Var) refl
    where
      go : (x : Node) → get_or ns i Var ≡ x → target i x < length ns
      go Var e = h
      go (Base c) e = h
      go (Branch k l r) e = h
      go (Link j) e = omega (arith, inside_at ns i (Link j) flat.sound h e)

  pub root_same : (v : ℕ → Ty) → Solves v ns → (i : ℕ) → i < length ns → v i ≡ v (root ns i)
  root_same v s i h = go (get_or ns i Var) refl
    where
      go : (x : Node) → get_or ns i Var ≡ x → v i ≡ v (target i x)
      go Var e = refl
      go (Base c) e = refl
      go (Branch k l r) e = refl
      go (Link j) e = says_at v ns i (Link j) s h e

  pub root_reads : {t : Ty} (i : ℕ) → Reads ns (root ns i) t → Reads ns i t
  root_reads {t} i p = go (get_or ns i Var) refl p
    where
      go : (x : Node) → get_or ns i Var ≡ x → Reads ns (target i x) t → Reads ns i t
      go Var e q = q
      go (Base c) e q = q
      go (Branch k l r) e q = q
      go (Link j) e q = reads_link e q

  pub reads_proper : {i : ℕ} {t : Ty} → Reads ns i t → Proper t
  reads_proper (reads_variable e) = tt
  reads_proper (reads_base e) = tt
  reads_proper {i} (reads_branch e p q) = (subst Kind e (flat.kinds i), reads_proper p, reads_proper q)
  reads_proper (reads_link e p) = reads_proper p

-- a node that is no link stands for itself
pub root_alive : (ns : List Node) (i : ℕ) → alive (get_or ns i Var) ≡ 1 → root ns i ≡ i
root_alive ns i = go (get_or ns i Var)
  where
    go : (x : Node) → alive x ≡ 1 → target i x ≡ i
    go Var e = refl
    go (Base c) e = refl
    go (Branch k l r) e = refl
    go (Link j) e = absurd (omega arith)

-- the node that stands for the class of `at` is in the graph, and is no link
pub root_within : (ts : List TypeNode) (at i : ℕ) → Flat (map view ts) → at < length ts → i ≡ root (map view ts) at → (i < length ts) × (alive (get_or (map view ts) i Var) ≡ 1)
root_within ts at i flat h e =
    let n = length-map ts view in
    let h' : at < length (map view ts) = omega arith in
    (omega (arith, root_inside (map view ts) flat at h'), ap (λ (j : ℕ). alive (get_or (map view ts) j Var)) e ∙ flat.straight at h')
