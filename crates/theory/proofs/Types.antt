-- What types of terms depend on.
use Rattle.std.proofs.Common.{◌≡◌, ℕ, ◌<◌, List, ◌∷◌, ◌++◌, map, length, sym, refl, ap, ◌∙◌, subst, arith}
use Rattle.std.proofs.lemmas.List.{length-append, length-map, get_or_append_left, get_or-map}
use Rattle.types.specs.declared.TypeNode.{TypeNode}
use Rattle.types.specs.Types.{Ty, base, arrow, apply}
use Rattle.types.specs.Lists.{meaning}
use Rattle.term.specs.Terms.{Term, variable, abstraction, application, primitive, reference}
use Rattle.normal.proofs.Meaning.{apply_apply}
use Rattle.copy.specs.Instances.{Lists, OfList}
use Rattle.infer.specs.Typing.{HasType}
use Rattle.infer.proofs.Typings.{typing_gives, type_typing}
use Rattle.theory.specs.Closed.{Closed, Below}
use Rattle.theory.specs.Laws.{TypingsGiveTypes, TypedIsClosed, TypedIsWhole, TypesHaveInstances, OuterBindersIdle, LaterRowsIdle}

pub typings_give_types : TypingsGiveTypes
typings_give_types E K Γ t i = (λ T d. typing_gives E K t Γ T i d, λ τ d. type_typing E K t Γ τ i d)

pub typed_is_closed : TypedIsClosed
typed_is_closed E K Γ (variable n) τ d = d.0
typed_is_closed E K Γ (abstraction b) τ d = typed_is_closed E K (d.0 ∷ Γ) b d.1 d.3
typed_is_closed E K Γ (application f a) τ d = (typed_is_closed E K Γ f (arrow d.0 τ) d.1, typed_is_closed E K Γ a d.0 d.2)
typed_is_closed E K Γ (primitive k) τ d = tt
typed_is_closed E K Γ (reference n) τ d = tt

pub typed_is_whole : TypedIsWhole
typed_is_whole E Γ (variable n) τ d = tt
typed_is_whole E Γ (abstraction b) τ d = typed_is_whole E (d.0 ∷ Γ) b d.1 d.3
typed_is_whole E Γ (application f a) τ d = (typed_is_whole E Γ f (arrow d.0 τ) d.1, typed_is_whole E Γ a d.0 d.2)
typed_is_whole E Γ (primitive k) τ d = tt
typed_is_whole E Γ (reference n) τ d = let h = d.some in absurd (omega arith)

-- f and a substitution can change places around t
abbrev pub Over : (Ty → Ty) → Ty → Type 0
Over f t = (σ : ℕ → Ty) → f (apply σ t) ≡ apply (λ i. f (σ i)) t

pub of_list_over : (l : List TypeNode) (f : Ty → Ty) (τ : Ty) → Over f (meaning l) → OfList l τ → OfList l (f τ)
of_list_over l f τ over d = record { some = d.some; instance = ((λ i. f (d.instance.0 i)), sym (over d.instance.0) ∙ ap f d.instance.1) }

-- f keeps arrows, and instances of the lists' types
pub record Carries (E K : Lists) (f : Ty → Ty) : Type 0 where
  pub arrows : (a b : Ty) → f (arrow a b) ≡ arrow (f a) (f b)
  pub primitives : (k : ℕ) → 0 < length (E k) → Over f (meaning (E k))
  pub references : (n : ℕ) → 0 < length (K n) → Over f (meaning (K n))

module _ (E K : Lists) (f : Ty → Ty) (c : Carries E K f) where
  -- then it carries types of terms to types of terms
  pub carried : (t : Term) (Γ : List Ty) (τ : Ty) → HasType E K Γ t τ → HasType E K (map f Γ) t (f τ)
  carried (variable n) Γ τ d = (omega (arith, d.0, length-map Γ f), get_or-map f Γ n (base 0) (base 0) d.0 ∙ ap f d.1)
  carried (abstraction b) Γ τ d = (f d.0, f d.1, ap f d.2 ∙ c.arrows d.0 d.1, carried b (d.0 ∷ Γ) d.1 d.3)
  carried (application g a) Γ τ d =
      (f d.0, subst (HasType E K (map f Γ) g) (c.arrows d.0 τ) (carried g Γ (arrow d.0 τ) d.1), carried a Γ d.0 d.2)
  carried (primitive k) Γ τ d = of_list_over (E k) f τ (c.primitives k d.some) d
  carried (reference n) Γ τ d = of_list_over (K n) f τ (c.references n d.some) d

pub types_have_instances : TypesHaveInstances
types_have_instances E K Γ t τ σ d =
    carried E K (apply σ) record { arrows = λ a b. refl; primitives = λ k h ρ. apply_apply σ ρ (meaning (E k)); references = λ n h ρ. apply_apply σ ρ (meaning (K n)) } t Γ τ d

module _ (E K : Lists) (Δ Θ : List Ty) where
  binders_idle : (t : Term) (Γ : List Ty) (τ : Ty) → Closed (length Γ) t → HasType E K (Γ ++ Δ) t τ → HasType E K (Γ ++ Θ) t τ
  binders_idle (variable n) Γ τ c d = (omega (arith, length-append Γ Θ), get_or_append_left Γ Θ (base 0) n c ∙ sym (get_or_append_left Γ Δ (base 0) n c) ∙ d.1)
  binders_idle (abstraction b) Γ τ c d = (d.0, d.1, d.2, binders_idle b (d.0 ∷ Γ) d.1 c d.3)
  binders_idle (application f a) Γ τ c d = (d.0, binders_idle f Γ (arrow d.0 τ) c.0 d.1, binders_idle a Γ d.0 c.1 d.2)
  binders_idle (primitive k) Γ τ c d = d
  binders_idle (reference n) Γ τ c d = d

pub outer_binders_idle : OuterBindersIdle
outer_binders_idle E K Γ Δ Θ t τ = binders_idle E K Δ Θ t Γ τ

module _ (E K L : Lists) (k : ℕ) (alike : (n : ℕ) → n < k → K n ≡ L n) where
  rows_idle : (t : Term) (Γ : List Ty) (τ : Ty) → Below k t → HasType E K Γ t τ → HasType E L Γ t τ
  rows_idle (variable n) Γ τ b d = d
  rows_idle (abstraction x) Γ τ b d = (d.0, d.1, d.2, rows_idle x (d.0 ∷ Γ) d.1 b d.3)
  rows_idle (application f a) Γ τ b d = (d.0, rows_idle f Γ (arrow d.0 τ) b.0 d.1, rows_idle a Γ d.0 b.1 d.2)
  rows_idle (primitive p) Γ τ b d = d
  rows_idle (reference n) Γ τ b d = subst (λ (l : List TypeNode). OfList l τ) (alike n b) d

pub later_rows_idle : LaterRowsIdle
later_rows_idle E K L k Γ t τ alike = rows_idle E K L k alike t Γ τ
