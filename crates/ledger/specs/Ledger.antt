-- A ledger: the rows of filed formulas, and perhaps a candidate.
use Rattle.std.specs.Prelude.{ℕ, ◌+◌, List, [], ◌∷◌, ◌++◌, map, length, Some, None, Option, slice_index_or}
use Rattle.types.specs.declared.TypeNode.{TypeNode}
use Rattle.term.specs.Terms.{Term, prefix, reference}
use Rattle.catalogue.specs.Entries.{Entry, list_of}
use Rattle.copy.specs.Instances.{Lists}
use Rattle.theory.specs.Expansion.{expand}

-- a formula's term, its expansion, and the normal list of the expansion's principal type
pub record Row : Type 0 where
  pub term : Term
  pub expansion : Term
  pub list : List TypeNode

-- what stands where there is no row
abbrev pub no_row : Row
no_row = record { term = reference 0; expansion = reference 0; list = [] }

pub record Ledger : Type 0 where
  pub rows : List Row
  pub candidate : Option Row

-- a new ledger has no rows and no candidate
abbrev pub new_ledger : Ledger
new_ledger = record { rows = []; candidate = None }

abbrev pub expansions : List Row → List Term
expansions rows = map (λ (r : Row). r.expansion) rows

abbrev pub lists : List Row → List (List TypeNode)
lists rows = map (λ (r : Row). r.list) rows

-- the kept lists by number, as references ask for them
abbrev pub kept : List Row → Lists
kept rows n = slice_index_or (lists rows) n []

-- the lists of a catalogue by number, as primitives ask for them
abbrev pub entered : List Entry → Lists
entered es k = list_of es k

-- how many term nodes and how many type nodes the rows take
abbrev pub term_nodes : List Row → ℕ
term_nodes [] = 0
term_nodes (r ∷ rs) = length (prefix r.term) + term_nodes rs

abbrev pub type_nodes : List Row → ℕ
type_nodes [] = 0
type_nodes (r ∷ rs) = length r.list + type_nodes rs

-- the row of a formula over the rows so far, with a list
abbrev pub row_of : List Row → Term → List TypeNode → Row
row_of rows t l = record { term = t; expansion = expand (expansions rows) t; list = l }

abbrev pub held : Option Row → List Row
held None = []
held (Some r) = r ∷ []

-- all rows by number: those filed, and behind them the candidate
abbrev pub all_rows : Ledger → List Row
all_rows l = l.rows ++ held l.candidate

abbrev pub row_at : List Row → ℕ → Row
row_at rows n = slice_index_or rows n no_row
