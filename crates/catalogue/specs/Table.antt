-- The built-in catalogue: eight primitives of pay formulas.
use Rattle.std.specs.Prelude.{ℕ, List, [], ◌∷◌, codes}
use Rattle.types.specs.declared.TypeNode.{TypeNode}
use Rattle.types.specs.Lists.{node}
use Rattle.catalogue.specs.Names.{Name}
use Rattle.catalogue.specs.Entries.{Entry}

abbrev entry : Name → List TypeNode → Entry
entry name list = record { name = name; list = list }

abbrev variable : ℕ → TypeNode
variable n = node 0 n 0

abbrev arrow : ℕ → ℕ → TypeNode
arrow a b = node 2 a b

-- the bases
abbrev hours : TypeNode
hours = node 1 0 0

abbrev rate : TypeNode
rate = node 1 1 0

abbrev gross : TypeNode
gross = node 1 2 0

abbrev net : TypeNode
net = node 1 3 0

abbrev paid : TypeNode
paid = node 1 4 0

abbrev flag : TypeNode
flag = node 1 5 0

abbrev pub builtin : List Entry
builtin =
    entry (codes "gross_of") (hours ∷ rate ∷ gross ∷ arrow 1 2 ∷ arrow 0 3 ∷ [])
    ∷ entry (codes "add") (gross ∷ arrow 0 0 ∷ arrow 0 1 ∷ [])
    ∷ entry (codes "net_of") (gross ∷ net ∷ arrow 0 1 ∷ [])
    ∷ entry (codes "paid_of") (net ∷ paid ∷ arrow 0 1 ∷ [])
    ∷ entry (codes "over") (hours ∷ flag ∷ arrow 0 1 ∷ arrow 0 2 ∷ [])
    ∷ entry (codes "choose") (flag ∷ variable 0 ∷ arrow 1 1 ∷ arrow 1 2 ∷ arrow 0 3 ∷ [])
    ∷ entry (codes "std_hours") (hours ∷ [])
    ∷ entry (codes "base_rate") (rate ∷ [])
    ∷ []
