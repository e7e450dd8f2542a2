-- What the pass over a term's nodes leaves in a graph: its solutions and the typings of the term are the same thing.
use Rattle.std.specs.Prelude.{◌≡◌, ℕ, ◌+◌, ◌<◌, ◌≤◌, List, [], ◌++◌, map, reverse, length, drop, Some, None, Option, slice_index, slice_index_or}
use Rattle.types.specs.Types.{Ty, base, arrow}
use Rattle.types.specs.declared.TypeNode.{TypeNode}
use Rattle.term.specs.Terms.{Term, prefix}
use Rattle.term.specs.declared.TermNode.{TermNode}
use Rattle.graph.specs.Graph.{Solves, Sound, graph}
use Rattle.graph.specs.declared.Node.{Node}
use Rattle.copy.specs.Instances.{Lists, OfList}
use Rattle.copy.specs.Told.{Agree, Told, Never}
use Rattle.infer.specs.declared.Found.{Found}
use Rattle.infer.specs.declared.Scope.{Scope}
use Rattle.infer.specs.Scopes.{held}
use Rattle.term.specs.declared.Symbol.{Symbol}
use Rattle.term.specs.declared.Symbol.TheVariants.{Variable, Abstraction, Application, Primitive, Reference}
use Rattle.graph.specs.declared.Graph.{Graph}
use Rattle.graph.specs.Memory.{nodes}
use Rattle.infer.specs.Typing.{size, Typing, HasType}
use Rattle.infer.specs.Heads.{need}

-- the types of the binders in scope, whose graph nodes are xs: the innermost, which is the last of xs, comes first
abbrev pub types : (ℕ → Ty) → List ℕ → List Ty
types v xs = map v (reverse xs)

-- what valuations may give a node: the type of an arrow, of the result of a call, of a node without parts
abbrev pub OfArrow : ℕ → ℕ → (ℕ → Ty) → Ty → Type 0
OfArrow a b v τ = τ ≡ arrow (v a) (v b)

abbrev pub OfCall : ℕ → ℕ → (ℕ → Ty) → Ty → Type 0
OfCall f a v τ = v f ≡ arrow (v a) τ

abbrev pub OfLeaf : Lists → Lists → List ℕ → Symbol → (ℕ → Ty) → Ty → Type 0
OfLeaf E K xs (Variable n) v τ = (n < length (types v xs)) × (slice_index_or (types v xs) n (base 0) ≡ τ)
OfLeaf E K xs Abstraction v τ = ⊥
OfLeaf E K xs Application v τ = ⊥
OfLeaf E K xs (Primitive k) v τ = OfList (E k) τ
OfLeaf E K xs (Reference n) v τ = OfList (K n) τ

-- no type that E allows is left
pub record Refused (ns : List Node) (E : (ℕ → Ty) → Ty → Type 0) : Type 0 where
  pub never : Never ns E

abbrev pub Called : List Node → List Node → ℕ → ℕ → Option ℕ → Type 0
Called ns ms f a (Some i) = Told ns ms i (OfCall f a)
Called ns ms f a None = Refused ns (OfCall f a)

-- the nodes of the term stand from place i on
abbrev pub Stands : List TermNode → ℕ → Term → Type 0
Stands ts i t = (rest : List TermNode) × (drop i ts ≡ prefix t ++ rest)

-- w gives the graph nodes qs of the term nodes from i up to j the types T
abbrev pub Gives : (ℕ → Ty) → List ℕ → (ℕ → Ty) → ℕ → ℕ → Type 0
Gives w qs T i j = (p : ℕ) → i ≤ p → p < j → w (slice_index qs p) ≡ T p

-- ms grew from ns; qs has the graph nodes of the nodes of t, which stand from place i on, and what solutions give them
-- are exactly the typings of t, whatever the older nodes have
pub record Typed (E K : Lists) (ns ms : List Node) (xs qs : List ℕ) (i : ℕ) (t : Term) : Type 0 where
  pub sound : Sound ms
  pub longer : length ns ≤ length ms
  pub inside : (p : ℕ) → i ≤ p → p < i + size t → slice_index qs p < length ms
  pub back : (v : ℕ → Ty) → Solves v ms → Solves v ns × Typing E K (types v xs) t (λ p. v (slice_index qs p)) i
  pub onto : (v T : ℕ → Ty) → Solves v ns → Typing E K (types v xs) t T i → (w : ℕ → Ty) × Agree (length ns) w v × Solves w ms × Gives w qs T i (i + size t)

-- no solution of ns leaves a typing of t
abbrev pub Untyped : Lists → Lists → List Node → List ℕ → ℕ → Term → Type 0
Untyped E K ns xs i t = (v T : ℕ → Ty) → Solves v ns → Typing E K (types v xs) t T i → ⊥

-- what is found at place i: the binders and the older places stay, and if a term stands there, it ends where the pass
-- ended, and its typings are those of the graph
pub record Finds (E K : Lists) (ts : List TermNode) (i : ℕ) (s t : Scope) (ps qs : List ℕ) (g h : Graph) (f : Found) : Type 0 where
  pub forward : i < f.next
  pub within : f.next ≤ length ts
  pub room : h.used + need E K (drop f.next ts) ≡ g.used + need E K (drop i ts)
  pub scope : held t ≡ held s
  pub depth : t.depth ≡ s.depth
  pub older : (p : ℕ) → p < i → slice_index qs p ≡ slice_index ps p
  pub node : f.node ≡ slice_index qs i
  pub sound : Sound (nodes h)
  pub longer : g.used ≤ h.used
  pub inside : (p : ℕ) → i ≤ p → p < f.next → slice_index qs p < h.used
  pub typed : (u : Term) → Stands ts i u → (f.next ≡ i + size u) × Typed E K (nodes g) (nodes h) (held s) qs i u

-- a term that stands at place i has no typing
pub record Clashes (E K : Lists) (ts : List TermNode) (i : ℕ) (xs : List ℕ) (g : Graph) : Type 0 where
  pub untyped : (t : Term) → Stands ts i t → Untyped E K (nodes g) xs i t

abbrev pub Passed : Lists → Lists → List TermNode → ℕ → Scope → Scope → List ℕ → List ℕ → Graph → Graph → Option Found → Type 0
Passed E K ts i s t ps qs g h (Some f) = Finds E K ts i s t ps qs g h f
Passed E K ts i s t ps qs g h None = Clashes E K ts i (held s) g

-- the graph in the first n records is that of the term t, whose nodes have the graph nodes qs
pub record Built (E K : Lists) (t : Term) (qs : List ℕ) (ms : List Node) : Type 0 where
  -- a solution gives the nodes of t a typing, and the root a type of t
  pub typing : (v : ℕ → Ty) → Solves v ms → Typing E K [] t (λ p. v (slice_index qs p)) 0
  pub type : (v : ℕ → Ty) → Solves v ms → HasType E K [] t (v (slice_index qs 0))
  -- each typing of t comes from a solution, and so does each type
  pub solution : (T : ℕ → Ty) → Typing E K [] t T 0 → (w : ℕ → Ty) × Solves w ms × Gives w qs T 0 (size t)
  pub typable : (τ : Ty) → HasType E K [] t τ → (w : ℕ → Ty) × Solves w ms × (w (slice_index qs 0) ≡ τ)

-- n records are used, as many as the term needs; their graph is sound, and each term node has its node in it
pub record Inferred (E K : Lists) (ts : List TermNode) (qs : List ℕ) (ws : List TypeNode) (n : ℕ) : Type 0 where
  pub needed : n ≡ need E K ts
  pub sound : Sound (graph ws n)
  pub inside : (p : ℕ) → p < length ts → slice_index qs p < n
  pub built : (t : Term) → prefix t ≡ ts → Built E K t qs (graph ws n)

-- the term of these nodes has no typing, and no type
pub record Untypable (E K : Lists) (ts : List TermNode) : Type 0 where
  pub typing : (t : Term) → prefix t ≡ ts → (T : ℕ → Ty) → Typing E K [] t T 0 → ⊥
  pub type : (t : Term) → prefix t ≡ ts → (τ : Ty) → HasType E K [] t τ → ⊥

abbrev pub Answered : Lists → Lists → List TermNode → List ℕ → List TypeNode → Option ℕ → Type 0
Answered E K ts qs ws (Some n) = Inferred E K ts qs ws n
Answered E K ts qs ws None = Untypable E K ts
