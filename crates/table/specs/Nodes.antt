-- Nodes copied from one memory into another.
use Rattle.std.specs.Prelude.{◌≡◌, ℕ, List, ◌++◌, length, take, drop}
use Rattle.std.proofs.Math.Seq.{paste}
use Rattle.table.specs.declared.entry.Span.{Span}

-- what a memory holds when nodes are written over its front, as many as it has room for
abbrev pub overlaid : {A : Type 0} → List A → List A → List A
overlaid nodes out = take (length out) nodes ++ drop (length nodes) out

-- nodes are written into a memory from a place on, and the span says where
pub record Written {A : Type 0} (nodes was now : List A) (start : ℕ) (span : Span) : Type 0 where
  pub written : now ≡ paste was start nodes (length nodes)
  pub stands : span ≡ record { start = start; length = length nodes }
