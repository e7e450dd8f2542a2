-- A list of type nodes copied into a graph, and its normal list.
use Rattle.std.specs.Prelude.{◌≡◌, ℕ, ◌-◌, ◌<◌, ◌≤◌, ◌⊎◌, List, ◌++◌, length, replicate, Ok, Err, Result, ◌≢◌, slice_index_or}
use Rattle.types.specs.declared.TypeNode.{TypeNode}
use Rattle.types.specs.Lists.{zero_node, Lawful, meaning}
use Rattle.graph.specs.Graph.{view}
use Rattle.graph.specs.declared.Node.{Node}
use Rattle.graph.specs.declared.Node.TheVariants.{Link}
use Rattle.normal.specs.Normal.{normal_of}
use Rattle.walk.specs.Table.{Table, bucket}
use Rattle.walk.specs.declared.Refused.{Refused}
use Rattle.walk.specs.declared.Refused.TheVariants.{Unlawful, ShortMemory, ShortNumbers}

-- x stands for the record at p: it is that record, the first of its kind, or a link to an equal one before it
abbrev pub Copy : List TypeNode → ℕ → Node → Type 0
Copy l p x =
    ((x ≡ view (slice_index_or l p zero_node)) × ((q : ℕ) → q < p → slice_index_or l q zero_node ≢ slice_index_or l p zero_node))
    ⊎ ((q : ℕ) × (q < p) × (slice_index_or l q zero_node ≡ slice_index_or l p zero_node) × (x ≡ Link q))

-- the first n places of the list are entered, by their records
pub record ByRecord (l : List TypeNode) (n : ℕ) (heads nexts : List ℕ) : Type 0 where
  pub some : 0 < length heads
  pub within : n ≤ length l
  pub chains : n ≤ length nexts
  pub few : n ≤ 65536
  pub table : Table (λ p. bucket (length heads) (slice_index_or l p zero_node)) n heads nexts

-- The memory holds the normal list of the type that the list means, n records, and zero nodes behind it.
pub record Normalized (l memory : List TypeNode) (n : ℕ) : Type 0 where
  pub lawful : Lawful l
  pub count : n ≡ length (normal_of (meaning l))
  pub list : memory ≡ normal_of (meaning l) ++ replicate (length memory - n) zero_node

-- the four memories of numbers are as long as the list
pub record Enough (l : List TypeNode) (a b d e : List ℕ) : Type 0 where
  pub first : length l ≤ length a
  pub second : length l ≤ length b
  pub third : length l ≤ length d
  pub fourth : length l ≤ length e

-- why a list is refused: it means no type, the memory is shorter than it, or a memory of numbers is
abbrev pub Reason : List TypeNode → List TypeNode → List ℕ → List ℕ → List ℕ → List ℕ → Refused → Type 0
Reason l memory a b d e Unlawful = Lawful l → ⊥
Reason l memory a b d e ShortMemory = Lawful l × (length memory < length l)
Reason l memory a b d e ShortNumbers = Lawful l × (length l ≤ length memory) × (Enough l a b d e → ⊥)

-- a refusal leaves the memory as it is
abbrev pub Normalizing : List TypeNode → List TypeNode → List TypeNode → List ℕ → List ℕ → List ℕ → List ℕ → Result ℕ Refused → Type 0
Normalizing l before memory a b d e (Ok n) = Normalized l memory n
Normalizing l before memory a b d e (Err r) = Reason l before a b d e r × (memory ≡ before)
