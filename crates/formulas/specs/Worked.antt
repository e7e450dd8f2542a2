-- Formulas worked through: how many nodes each has, how many type records it needs, and its most general type or that it
-- has none.
use Rattle.std.specs.Prelude.{◌≡◌, List, [], ◌∷◌, ℕ, length, get_or}
use Rattle.refusal.specs.Saying.{saying}
use Rattle.refusal.specs.declared.Layer.TheVariants as layer
use Rattle.types.specs.declared.TypeNode.{TypeNode}
use Rattle.types.specs.Types.{Ty, base, arrow, variable as type_variable}
use Rattle.types.specs.Lists.{node}
use Rattle.term.specs.Terms.{Term, variable, abstraction, application, primitive, reference, prefix}
use Rattle.catalogue.specs.Entries.{list_of}
use Rattle.catalogue.specs.Table.{builtin}
use Rattle.normal.specs.Normal.{normal_of}
use Rattle.copy.specs.Instances.{Lists}
use Rattle.infer.specs.Heads.{need}
use Rattle.theory.specs.Principal.{MostGeneral, Typeless, none}
use Rattle.typer.specs.Questions.{Serves, Unserved}

-- the lists of the built-in catalogue
abbrev pub entries : Lists
entries k = list_of builtin k

-- t has T nodes and needs N type records, where K has the kept lists
pub record Measured (K : Lists) (t : Term) (T N : ℕ) : Type 0 where
  pub nodes : length (prefix t) ≡ T
  pub records : need entries K (prefix t) ≡ N

-- and τ is its most general type, with the normal list l
pub record Typed (K : Lists) (t : Term) (T N : ℕ) (τ : Ty) (l : List TypeNode) : Type 0 where
  pub measured : Measured K t T N
  pub general : MostGeneral entries K t τ
  pub list : normal_of τ ≡ l

-- or it has no type
pub record Untyped (K : Lists) (t : Term) (T N : ℕ) : Type 0 where
  pub measured : Measured K t T N
  pub typeless : Typeless entries K t

-- t can be worked on in memories of so many type records and so many numbers; with fewer numbers it is refused, and no
-- larger memory of type records helps
pub record Bounded (K : Lists) (t : Term) (types numbers fewer : ℕ) : Type 0 where
  pub serves : Serves (need entries K (prefix t)) (length (prefix t)) types numbers
  pub refused : Unserved (need entries K (prefix t)) (length (prefix t)) types fewer (saying 32 layer.Types 0)
  pub never : (more : ℕ) → Serves (need entries K (prefix t)) (length (prefix t)) more fewer → ⊥

-- type variables, and the bases by their codes
abbrev pub a : Ty
a = type_variable 0

abbrev pub b : Ty
b = type_variable 1

abbrev pub c : Ty
c = type_variable 2

abbrev pub hours : Ty
hours = base 0

abbrev pub rate : Ty
rate = base 1

abbrev pub paid : Ty
paid = base 4

abbrev pub flag : Ty
flag = base 5

-- \x.x
abbrev pub identity : Term
identity = abstraction (variable 0)

-- \f.\g.\x.f (g x)
abbrev pub composition : Term
composition = abstraction (abstraction (abstraction (application (variable 2) (application (variable 1) (variable 0)))))

-- \x.x x
abbrev pub self_application : Term
self_application = abstraction (application (variable 0) (variable 0))

-- (\i.i i) (\x.x)
abbrev pub self_applied_identity : Term
self_applied_identity = application self_application identity

-- #0 #0
abbrev pub reference_twice : Term
reference_twice = application (reference 0) (reference 0)

-- choose
abbrev pub choose : Term
choose = primitive 5

-- \h.\r.paid_of (net_of (gross_of h r))
abbrev pub pay : Term
pay = abstraction (abstraction (application (primitive 3) (application (primitive 2) (application (application (primitive 0) (variable 1)) (variable 0)))))

-- \h.\r.paid_of (gross_of h r)
abbrev pub pay_without_net : Term
pay_without_net = abstraction (abstraction (application (primitive 3) (application (application (primitive 0) (variable 1)) (variable 0))))

-- the list of a -> a
abbrev pub identity_list : List TypeNode
identity_list = node 0 0 0 ∷ node 2 0 0 ∷ []

-- the list of (a -> b) -> (c -> a) -> c -> b
abbrev pub composition_list : List TypeNode
composition_list = node 0 0 0 ∷ node 0 1 0 ∷ node 2 0 1 ∷ node 0 2 0 ∷ node 2 3 0 ∷ node 2 3 1 ∷ node 2 4 5 ∷ node 2 2 6 ∷ []

-- the list of flag -> a -> a -> a
abbrev pub choose_list : List TypeNode
choose_list = node 1 5 0 ∷ node 0 0 0 ∷ node 2 1 1 ∷ node 2 1 2 ∷ node 2 0 3 ∷ []

-- the list of hours -> rate -> paid
abbrev pub pay_list : List TypeNode
pay_list = node 1 0 0 ∷ node 1 1 0 ∷ node 1 4 0 ∷ node 2 1 2 ∷ node 2 0 3 ∷ []

-- one row is kept, that of \x.x
abbrev pub one_row : Lists
one_row n = get_or (identity_list ∷ []) n []

-- The formulas with their nodes, their needs and their types.
pub record WorkedFormulas : Type 0 where
  -- \x.x : a -> a
  pub of_identity : Typed none identity 2 2 (arrow a a) identity_list
  -- 32 numbers are enough for it, and 31 are not
  pub numbers_of_identity : Bounded none identity 2 32 31
  -- \f.\g.\x.f (g x) : (a -> b) -> (c -> a) -> c -> b
  pub of_composition : Typed none composition 8 10 (arrow (arrow a b) (arrow (arrow c a) (arrow c b))) composition_list
  -- \x.x x has no type: x would be a function of itself
  pub of_self_application : Untyped none self_application 4 4
  -- (\i.i i) (\x.x) has no type: a binder has one type wherever it is used
  pub of_self_applied_identity : Untyped none self_applied_identity 7 8
  -- #0 #0 : a -> a, where \x.x is kept: each reference has an instance of its own
  pub of_reference_twice : Typed one_row reference_twice 3 6 (arrow a a) identity_list
  -- choose : flag -> a -> a -> a
  pub of_choose : Typed none choose 1 5 (arrow flag (arrow a (arrow a a))) choose_list
  -- \h.\r.paid_of (net_of (gross_of h r)) : hours -> rate -> paid
  pub of_pay : Typed none pay 11 23 (arrow hours (arrow rate paid)) pay_list
  -- \h.\r.paid_of (gross_of h r) has no type: gross is not net
  pub of_pay_without_net : Untyped none pay_without_net 9 18
