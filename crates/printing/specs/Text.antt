-- The printed text of a type, as bytes.
use Rattle.std.specs.Prelude.{ℕ, ◌+◌, ◌/◌, ◌%◌, Bool, false, cond, List, [], ◌∷◌, ◌++◌, codes, decimal, ◌==◌, nat_lt, slice_index_or}
use Rattle.types.specs.Types.{Ty, variable, base, branch}

-- what has no text of its own
abbrev pub unknown : List ℕ
unknown = codes "?"

-- the bases' names, by code
abbrev pub base_names : List (List ℕ)
base_names = codes "hours" ∷ codes "rate" ∷ codes "gross" ∷ codes "net" ∷ codes "paid" ∷ codes "flag" ∷ []

-- a variable: one of the letters a to z in turn, and from 26 on how often all have been used before
abbrev pub letters : ℕ → List ℕ
letters v = (97 + v % 26) ∷ cond (nat_lt v 26) [] (decimal (v / 26))

abbrev pub in_brackets : List ℕ → List ℕ
in_brackets t = codes "(" ++ (t ++ codes ")")

-- the left part of an arrow stands in brackets if it is an arrow itself
abbrev pub left_part : Bool → List ℕ → List ℕ
left_part arrow t = cond arrow (in_brackets t) t

abbrev pub is_arrow : Ty → Bool
is_arrow (variable v) = false
is_arrow (base c) = false
is_arrow (branch k a b) = k == 2

-- a branch of a kind, from the texts of its parts, and whether the left one is an arrow; only arrows have a text of
-- their own
abbrev pub branch_text : ℕ → Bool → List ℕ → List ℕ → List ℕ
branch_text kind arrow a b = cond (kind == 2) (left_part arrow a ++ (codes " -> " ++ b)) unknown

abbrev pub text : Ty → List ℕ
text (variable v) = letters v
text (base c) = slice_index_or base_names c unknown
text (branch k a b) = branch_text k (is_arrow a) (text a) (text b)

-- a type's text as the left part of an arrow
abbrev pub left_text : Ty → List ℕ
left_text t = left_part (is_arrow t) (text t)
