-- What the typer answers of a term: its most general type, or that it has none.
use Rattle.std.specs.Prelude.{◌≡◌, ℕ, ◌-◌, ◌<◌, ◌≤◌, List, [], ◌++◌, length, replicate, slice_index_or}
use Rattle.refusal.specs.Saying.{saying}
use Rattle.refusal.specs.declared.Layer.TheVariants as layer
use Rattle.refusal.specs.declared.Refusal.{Refusal}
use Rattle.types.specs.declared.TypeNode.{TypeNode}
use Rattle.types.specs.Types.{Ty, variable, apply}
use Rattle.types.specs.Lists.{zero_node, Lawful}
use Rattle.term.specs.declared.TermNode.{TermNode}
use Rattle.term.specs.Terms.{Term, prefix}
use Rattle.copy.specs.Instances.{Lists}
use Rattle.infer.specs.Typing.{size, Typing}
use Rattle.infer.specs.Heads.{need}
use Rattle.theory.specs.Principal.{MostGeneral, Typeless}
use Rattle.normal.specs.Normal.{normal, normal_of}
use Rattle.typer.specs.Questions.{Serves, Unserved}

-- τ is a type of t, and every type of t is an instance of it
abbrev pub PrincipalType : Lists → Lists → Term → Ty → Type 0
PrincipalType E K t τ = MostGeneral E K t τ

-- T gives the nodes of t types by the typing steps, and every typing of t is an instance of it, by one substitution
pub record PrincipalTyping (E K : Lists) (t : Term) (T : ℕ → Ty) : Type 0 where
  pub typing : Typing E K [] t T 0
  pub general : (U : ℕ → Ty) → Typing E K [] t U 0 → (σ : ℕ → Ty) × ((p : ℕ) → p < size t → apply σ (T p) ≡ U p)

-- no term with these nodes has a type
abbrev pub NoTypes : Lists → Lists → List TermNode → Type 0
NoTypes E K ts = (t : Term) → prefix t ≡ ts → Typeless E K t

abbrev pub Cleared : List TypeNode → Type 0
Cleared memory = memory ≡ replicate (length memory) zero_node

abbrev pub Zeros : List ℕ → Type 0
Zeros numbers = numbers ≡ replicate (length numbers) 0

-- The type memory holds the normal list of the most general type of the term with these nodes, n records, and zero nodes
-- behind it; the number memory holds zeros.
pub record Typed (E K : Lists) (ts : List TermNode) (types : List TypeNode) (numbers : List ℕ) (n : ℕ) : Type 0 where
  pub type : Ty
  pub principal : (t : Term) → prefix t ≡ ts → PrincipalType E K t type
  pub lawful : (t : Term) → prefix t ≡ ts → Lawful (normal_of type)
  pub count : n ≡ length (normal_of type)
  pub within : n ≤ need E K ts
  pub holds : types ≡ normal_of type ++ replicate (length types - n) zero_node
  pub zeros : Zeros numbers

-- The first question that is answered with no. Those before the work leave the memories as they were; that the term has
-- no type (40) leaves zeros in both.
pub data Refuses (E K : Lists) (ts : List TermNode) (types types' : List TypeNode) (numbers numbers' : List ℕ) : Refusal → Type 0 where
  unserved : {r : Refusal} → Unserved (need E K ts) (length ts) (length types) (length numbers) r → types' ≡ types → numbers' ≡ numbers → Refuses E K ts types types' numbers numbers' r
  no_type : Serves (need E K ts) (length ts) (length types) (length numbers) → NoTypes E K ts → Cleared types' → Zeros numbers' → Refuses E K ts types types' numbers numbers' (saying 40 layer.Types 0)

-- The answers hang on the term and the lists alone: all most general types of a term have one normal list,
abbrev pub OneTypeList : Type 0
OneTypeList = (E K : Lists) (t : Term) (τ υ : Ty) → PrincipalType E K t τ → PrincipalType E K t υ → normal_of τ ≡ normal_of υ

-- and so have all most general typings.
abbrev pub OneTypingList : Type 0
OneTypingList =
    (E K : Lists) (t : Term) (us vs : List Ty) → length us ≡ size t → length vs ≡ size t
    → PrincipalTyping E K t (λ p. slice_index_or us p (variable 0)) → PrincipalTyping E K t (λ p. slice_index_or vs p (variable 0)) → normal us ≡ normal vs
