-- Terms with what their references stand for.
use Rattle.std.specs.Prelude.{ℕ, List, slice_index_or}
use Rattle.term.specs.Terms.{Term, variable, abstraction, application, primitive, reference}

-- the expansion of the row n, where xs has those of all rows; a row that is not there stays a reference
abbrev pub row : List Term → ℕ → Term
row xs n = slice_index_or xs n (reference n)

-- each reference replaced by the expansion of its row; the rows are closed, so no variable moves
abbrev pub expand : List Term → Term → Term
expand xs (variable n) = variable n
expand xs (abstraction b) = abstraction (expand xs b)
expand xs (application f a) = application (expand xs f) (expand xs a)
expand xs (primitive k) = primitive k
expand xs (reference n) = row xs n
