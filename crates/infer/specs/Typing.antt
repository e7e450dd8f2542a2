-- Typings of terms: a type for each term node, by one step for each kind of node.
use Rattle.std.specs.Prelude.{◌≡◌, ℕ, ◌+◌, ◌<◌, List, ◌∷◌, length, slice_index_or}
use Rattle.types.specs.Types.{Ty, base, arrow}
use Rattle.term.specs.Terms.{Term, variable, abstraction, application, primitive, reference, prefix}
use Rattle.copy.specs.Instances.{Lists, OfList}

-- how many nodes a term has
abbrev pub size : Term → ℕ
size t = length (prefix t)

-- T gives the nodes of t, which stand from place i on, types by the typing steps, where Γ has the types of the binders
-- around t, the innermost first: a variable has its binder's type; an abstraction has the arrow from its binder's type to
-- its body's; the function of an application has the arrow from the argument's type to the application's; a primitive
-- has an instance of its entry's type, and a reference one of the kept type
abbrev pub Typing : Lists → Lists → List Ty → Term → (ℕ → Ty) → ℕ → Type 0
Typing E K Γ (variable n) T i = (n < length Γ) × (slice_index_or Γ n (base 0) ≡ T i)
Typing E K Γ (abstraction b) T i = (α : Ty) × (T i ≡ arrow α (T (i + 1))) × Typing E K (α ∷ Γ) b T (i + 1)
Typing E K Γ (application f a) T i = (T (i + 1) ≡ arrow (T (i + 1 + size f)) (T i)) × Typing E K Γ f T (i + 1) × Typing E K Γ a T (i + 1 + size f)
Typing E K Γ (primitive k) T i = OfList (E k) (T i)
Typing E K Γ (reference n) T i = OfList (K n) (T i)

-- t has the type τ where the binders around it have the types Γ: the same steps, without the places
abbrev pub HasType : Lists → Lists → List Ty → Term → Ty → Type 0
HasType E K Γ (variable n) τ = (n < length Γ) × (slice_index_or Γ n (base 0) ≡ τ)
HasType E K Γ (abstraction b) τ = (α : Ty) × (β : Ty) × (τ ≡ arrow α β) × HasType E K (α ∷ Γ) b β
HasType E K Γ (application f a) τ = (α : Ty) × HasType E K Γ f (arrow α τ) × HasType E K Γ a α
HasType E K Γ (primitive k) τ = OfList (E k) τ
HasType E K Γ (reference n) τ = OfList (K n) τ
