-- The typing step of each node of a list in prefix order, and that the steps of a term's nodes are its typings.
use Rattle.std.specs.Prelude.{◌≡◌, ℕ, ◌+◌, ◌<◌, List, [], length, Some, None, Option, slice_index_or}
use Rattle.types.specs.Types.{Ty, arrow}
use Rattle.term.specs.Terms.{Term, prefix, zero_node}
use Rattle.term.specs.Symbols.{symbol_of}
use Rattle.term.specs.declared.TermNode.{TermNode}
use Rattle.term.specs.declared.Symbol.{Symbol}
use Rattle.term.specs.declared.Symbol.TheVariants.{Variable, Abstraction, Application, Primitive, Reference}
use Rattle.copy.specs.Instances.{Lists, OfList}
use Rattle.infer.specs.Typing.{Typing}
use Rattle.derivation_check.specs.Prefixes.{end, binder}

-- the variable of number n at i has the type of its binder, from which the binder's abstraction has an arrow
pub record VariableStep (ts : List TermNode) (T : ℕ → Ty) (i n : ℕ) : Type 0 where
  pub abstraction : ℕ
  pub binds : binder ts i i n ≡ Some abstraction
  pub to : Ty
  pub typed : T abstraction ≡ arrow (T i) to

-- the abstraction at i has an arrow to the type of its body, the next node
pub record AbstractionStep (ts : List TermNode) (T : ℕ → Ty) (i : ℕ) : Type 0 where
  pub inside : i + 1 < length ts
  pub from : Ty
  pub typed : T i ≡ arrow from (T (i + 1))

-- the function of the application at i, the next node, has the arrow from the type of the argument, which begins where
-- the function ends, to the application's
pub record ApplicationStep (ts : List TermNode) (T : ℕ → Ty) (i : ℕ) : Type 0 where
  pub inside : end ts (i + 1) < length ts
  pub typed : T (i + 1) ≡ arrow (T (end ts (i + 1))) (T i)

-- what the node i, by what it says, asks of the types T of all nodes; a node that says nothing has no step
abbrev pub StepOf : Option Symbol → Lists → Lists → List TermNode → (ℕ → Ty) → ℕ → Type 0
StepOf None E K ts T i = ⊥
StepOf (Some (Variable n)) E K ts T i = VariableStep ts T i n
StepOf (Some Abstraction) E K ts T i = AbstractionStep ts T i
StepOf (Some Application) E K ts T i = ApplicationStep ts T i
StepOf (Some (Primitive n)) E K ts T i = OfList (E n) (T i)
StepOf (Some (Reference n)) E K ts T i = OfList (K n) (T i)

abbrev pub Step : Lists → Lists → List TermNode → (ℕ → Ty) → ℕ → Type 0
Step E K ts T i = StepOf (symbol_of (slice_index_or ts i zero_node)) E K ts T i

-- the first n nodes have their steps
abbrev pub Steps : Lists → Lists → List TermNode → (ℕ → Ty) → ℕ → Type 0
Steps E K ts T n = (i : ℕ) → i < n → Step E K ts T i

-- the nodes of a closed term have their steps exactly when their types are a typing of the term
abbrev pub StepsAreTypings : Type 0
StepsAreTypings =
    (E K : Lists) (t : Term) (T : ℕ → Ty) → (Steps E K (prefix t) T (length (prefix t)) → Typing E K [] t T 0) × (Typing E K [] t T 0 → Steps E K (prefix t) T (length (prefix t)))
