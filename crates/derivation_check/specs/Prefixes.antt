-- Nodes in prefix order: where a subterm ends, and which abstraction a variable means.
use Rattle.std.specs.Prelude.{ℕ, zero, suc, ◌+◌, Bool, true, false, cond, ◌&&◌, List, [], ◌∷◌, drop, Some, None, Option, nat_lt, slice_index_or}
use Rattle.term.specs.Terms.{zero_node}
use Rattle.term.specs.Symbols.{symbol_of}
use Rattle.term.specs.declared.TermNode.{TermNode}
use Rattle.term.specs.declared.Symbol.{Symbol}
use Rattle.term.specs.declared.Symbol.TheVariants.{Variable, Abstraction, Application, Primitive, Reference}

-- how many parts a node has by what it says: an abstraction one, an application two
abbrev pub arity : Option Symbol → ℕ
arity None = 0
arity (Some (Variable n)) = 0
arity (Some Abstraction) = 1
arity (Some Application) = 2
arity (Some (Primitive n)) = 0
arity (Some (Reference n)) = 0

abbrev pub is_abstraction : Option Symbol → Bool
is_abstraction None = false
is_abstraction (Some (Variable n)) = false
is_abstraction (Some Abstraction) = true
is_abstraction (Some Application) = false
is_abstraction (Some (Primitive n)) = false
is_abstraction (Some (Reference n)) = false

-- how many nodes the first n terms of a list take
abbrev pub span : ℕ → List TermNode → ℕ
span zero ts = 0
span (suc n) [] = 0
span (suc n) (t ∷ ts) = suc (span (arity (symbol_of t) + n) ts)

-- the place after the term that begins at i; where nodes are missing, the place after all nodes
abbrev pub end : List TermNode → ℕ → ℕ
end ts i = i + span 1 (drop i ts)

-- the node b is an abstraction around the node i, which stands after it
abbrev pub opens : List TermNode → ℕ → ℕ → Bool
opens ts i b = is_abstraction (symbol_of (slice_index_or ts b zero_node)) && nat_lt i (end ts b)

-- of the abstractions around the node i that stand before b, counted from the innermost, the one with the number n
abbrev pub binder : List TermNode → ℕ → ℕ → ℕ → Option ℕ
binder ts i zero n = None
binder ts i (suc b) zero = cond (opens ts i b) (Some b) (binder ts i b zero)
binder ts i (suc b) (suc n) = cond (opens ts i b) (binder ts i b n) (binder ts i b (suc n))
