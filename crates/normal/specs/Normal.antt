-- The normal list of types: each distinct part once, in the order in which it is first complete.
use Rattle.std.specs.Prelude.{ℕ, suc, Bool, false, cond, ◌&&◌, ◌||◌, List, [], ◌∷◌, ◌++◌, map, ◌==◌}
use Rattle.types.specs.declared.TypeNode.{TypeNode}
use Rattle.types.specs.Types.{Ty, variable, base, branch}
use Rattle.types.specs.Lists.{node}

-- whether two types are one
abbrev pub same : Ty → Ty → Bool
same (variable i) (variable j) = i == j
same (variable i) (base d) = false
same (variable i) (branch k x y) = false
same (base c) (variable j) = false
same (base c) (base d) = c == d
same (base c) (branch k x y) = false
same (branch h a b) (variable j) = false
same (branch h a b) (base d) = false
same (branch h a b) (branch k x y) = h == k && (same a x && same b y)

-- whether t is among the types
abbrev pub has : List Ty → Ty → Bool
has [] t = false
has (p ∷ ps) t = same p t || has ps t

-- the place of the first t
abbrev pub place : List Ty → Ty → ℕ
place [] t = 0
place (p ∷ ps) t = cond (same p t) 0 (suc (place ps t))

-- each subtree, left before right and part before whole
abbrev pub postorder : Ty → List Ty
postorder (variable i) = variable i ∷ []
postorder (base c) = base c ∷ []
postorder (branch k a b) = postorder a ++ (postorder b ++ (branch k a b ∷ []))

-- those of several types, one after the other
abbrev pub postorders : List Ty → List Ty
postorders [] = []
postorders (t ∷ ts) = postorder t ++ postorders ts

-- t at the end, unless it is there
abbrev pub add : List Ty → Ty → List Ty
add ps t = cond (has ps t) ps (ps ++ (t ∷ []))

-- the first occurrences in ts, after ps
abbrev pub firsts : List Ty → List Ty → List Ty
firsts ps [] = ps
firsts ps (t ∷ ts) = firsts (add ps t) ts

-- the distinct parts of several types
abbrev pub parts : List Ty → List Ty
parts ts = firsts [] (postorders ts)

-- how many variables stand before the variable i
abbrev pub rank : List Ty → ℕ → ℕ
rank [] i = 0
rank (variable j ∷ ps) i = cond (j == i) 0 (suc (rank ps i))
rank (base c ∷ ps) i = rank ps i
rank (branch k a b ∷ ps) i = rank ps i

-- the record of t, by the places of its parts
abbrev pub record_of : List Ty → Ty → TypeNode
record_of ps (variable i) = node 0 (rank ps i) 0
record_of ps (base c) = node 1 c 0
record_of ps (branch k a b) = node k (place ps a) (place ps b)

abbrev pub records : List Ty → List TypeNode
records ps = map (record_of ps) ps

-- the normal list of several types, and that of one
abbrev pub normal : List Ty → List TypeNode
normal ts = records (parts ts)

abbrev pub normal_of : Ty → List TypeNode
normal_of t = normal (t ∷ [])
