-- A computed test of a row: it passes exactly where the term is one closed term with references below the row, and the
-- type list is lawful.
use Rattle.std.specs.Prelude.{ℕ, suc, Bool, true, false, Option, Some, None, List, [], ◌∷◌, ◌==◌, nat_lt}
use Rattle.term.specs.Symbols.{symbol_of}
use Rattle.term.specs.declared.Symbol.{Symbol}
use Rattle.term.specs.declared.Symbol.TheVariants.{Variable, Abstraction, Application, Primitive, Reference}
use Rattle.term.specs.declared.TermNode.{TermNode}
use Rattle.types.proofs.Tested.{both, list_passes}
use Rattle.table.specs.Rows.{Row}

-- the tests of a node by what it says and its number, under d binders in row k; the last three say whether the nodes behind
-- it are right if this one is a leaf, an abstraction or an application
abbrev pub node_reads : Option Symbol → ℕ → ℕ → ℕ → Bool → Bool → Bool → Bool
node_reads (Some (Variable n)) number k d leaf one two = both (nat_lt n d) leaf
node_reads (Some Abstraction) number k d leaf one two = both (number == 0) one
node_reads (Some Application) number k d leaf one two = both (number == 0) two
node_reads (Some (Primitive n)) number k d leaf one two = leaf
node_reads (Some (Reference n)) number k d leaf one two = both (nat_lt n k) leaf
node_reads None number k d leaf one two = false

-- the nodes are those of as many terms as there are depths, one behind the other, each with so many binders around it
abbrev pub reads : ℕ → List ℕ → List TermNode → Bool
reads k [] [] = true
reads k [] (x ∷ xs) = false
reads k (d ∷ ds) [] = false
reads k (d ∷ ds) (x ∷ xs) = node_reads (symbol_of x) x.number k d (reads k ds xs) (reads k (suc d ∷ ds) xs) (reads k (d ∷ d ∷ ds) xs)

abbrev pub well_formed : ℕ → List TermNode → Bool
well_formed k nodes = reads k (0 ∷ []) nodes

abbrev pub row_passes : ℕ → Row → Bool
row_passes k r = both (well_formed k r.term) (list_passes r.list)
