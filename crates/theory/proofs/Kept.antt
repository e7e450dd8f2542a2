-- A formula typed by instances of kept types has exactly the types of its expansion.
use Rattle.std.proofs.Common.{◌≡◌, ℕ, ◌<◌, ◌≤◌, List, [], ◌∷◌, ◌++◌, length, sym, subst, ⊎_elim, arith}
use Rattle.std.specs.List.{AllByRecursion}
use Rattle.std.proofs.lemmas.List.{length-append, get_or_append_left, get_or_default, get_or_push}
use Rattle.std.proofs.ByRecursion.{All-from_get_or}
use Rattle.std.proofs.lemmas.Bool.{cases_lt}
use Rattle.types.specs.declared.TypeNode.{TypeNode}
use Rattle.types.specs.Types.{Ty, arrow}
use Rattle.types.specs.Lists.{Lawful, meaning}
use Rattle.term.specs.Terms.{Term, variable, abstraction, application, primitive, reference}
use Rattle.copy.specs.Instances.{Lists}
use Rattle.infer.specs.Typing.{HasType}
use Rattle.theory.specs.Closed.{Closed, Below}
use Rattle.theory.specs.Expansion.{row, expand}
use Rattle.theory.specs.Principal.{none, Principal, KeptRow, Kept}
use Rattle.theory.specs.Laws.{TypesOfRows, TypesOfExpansions, PrincipalOfExpansions, TypelessExpansions, KeptGrows, KeptShrinks}
use Rattle.theory.proofs.Types.{typed_is_closed, types_have_instances, outer_binders_idle}

-- closedness comes with the type
pub kept_row : (E : Lists) (x : Term) (l : List TypeNode) → Lawful l → Principal E x (meaning l) → KeptRow E x l
kept_row E x l lawful m = record { lawful = lawful; closed = typed_is_closed E none [] x (meaning l) m.has; principal = m }

pub types_of_rows : TypesOfRows
types_of_rows E x l k Γ τ = (
  λ o.
      outer_binders_idle E none [] [] Γ x τ k.closed
      (subst (HasType E none [] x) o.instance.1 (types_have_instances E none [] x (meaning l) o.instance.0 k.principal.has)),
  λ d. record { some = k.lawful.some; instance = k.principal.most τ (outer_binders_idle E none [] Γ [] x τ k.closed d) },
)

module _ (E : Lists) (xs : List Term) (K : Lists) (kept : Kept E xs K) where
  expanded : (t : Term) (Γ : List Ty) (τ : Ty) → Below (length xs) t → HasType E K Γ t τ → HasType E none Γ (expand xs t) τ
  expanded (variable n) Γ τ b d = d
  expanded (abstraction x) Γ τ b d = (d.0, d.1, d.2, expanded x (d.0 ∷ Γ) d.1 b d.3)
  expanded (application f a) Γ τ b d = (d.0, expanded f Γ (arrow d.0 τ) b.0 d.1, expanded a Γ d.0 b.1 d.2)
  expanded (primitive k) Γ τ b d = d
  expanded (reference n) Γ τ b d = (types_of_rows E (row xs n) (K n) (kept n b) Γ τ).0 d

  collapsed : (t : Term) (Γ : List Ty) (τ : Ty) → Below (length xs) t → HasType E none Γ (expand xs t) τ → HasType E K Γ t τ
  collapsed (variable n) Γ τ b d = d
  collapsed (abstraction x) Γ τ b d = (d.0, d.1, d.2, collapsed x (d.0 ∷ Γ) d.1 b d.3)
  collapsed (application f a) Γ τ b d = (d.0, collapsed f Γ (arrow d.0 τ) b.0 d.1, collapsed a Γ d.0 b.1 d.2)
  collapsed (primitive k) Γ τ b d = d
  collapsed (reference n) Γ τ b d = (types_of_rows E (row xs n) (K n) (kept n b) Γ τ).1 d

  pub kept_closed : AllByRecursion (Closed 0) xs
  kept_closed = All-from_get_or (Closed 0) xs (variable 0) (λ n h. subst (Closed 0) (get_or_default xs n (reference n) (variable 0) h) (kept n h).closed)

pub types_of_expansions : TypesOfExpansions
types_of_expansions E xs K kept Γ t τ b = (expanded E xs K kept t Γ τ b, collapsed E xs K kept t Γ τ b)

pub principal_of_expansions : PrincipalOfExpansions
principal_of_expansions E xs K kept t τ b = (
  λ m. record { has = expanded E xs K kept t [] τ b m.has; most = λ σ d. m.most σ (collapsed E xs K kept t [] σ b d) },
  λ m. record { has = collapsed E xs K kept t [] τ b m.has; most = λ σ d. m.most σ (expanded E xs K kept t [] σ b d) },
)

pub typeless_expansions : TypelessExpansions
typeless_expansions E xs K kept t b = (λ never d. never d.0 (collapsed E xs K kept t [] d.0 b d.1), λ never τ d. never (τ, expanded E xs K kept t [] τ b d))

module _ (E K L : Lists) (xs ys : List Term) (alike : (n : ℕ) → n < length xs → K n ≡ L n) where
  -- whether the later rows are there does not matter for the first
  row_grows : (n : ℕ) → n < length xs → KeptRow E (row xs n) (K n) → KeptRow E (row (xs ++ ys) n) (L n)
  row_grows n h k = subst (λ (y : Term). KeptRow E y (L n)) (sym (get_or_append_left xs ys (reference n) n h)) (subst (KeptRow E (row xs n)) (alike n h) k)

  row_shrinks : (n : ℕ) → n < length xs → KeptRow E (row (xs ++ ys) n) (K n) → KeptRow E (row xs n) (L n)
  row_shrinks n h k = subst (λ (y : Term). KeptRow E y (L n)) (get_or_append_left xs ys (reference n) n h) (subst (KeptRow E (row (xs ++ ys) n)) (alike n h) k)

pub kept_grows : KeptGrows
kept_grows E xs K L t kept alike b lawful m n h =
    let x : Term = expand xs t in
    let new = kept_row E x (L (length xs)) lawful ((principal_of_expansions E xs K kept t (meaning (L (length xs))) b).0 m) in
    ⊎_elim
    (λ (old : n < length xs). row_grows E K L xs (x ∷ []) alike n old (kept n old))
    (λ (past : length xs ≤ n).
    let e : length xs ≡ n = omega (arith, length-append xs (x ∷ [])) in
    subst (λ (y : Term). KeptRow E y (L n)) (sym (get_or_push xs x (reference n) n e)) (subst (λ (k : ℕ). KeptRow E x (L k)) e new))
    (cases_lt n (length xs))

pub kept_shrinks : KeptShrinks
kept_shrinks E xs ys K L kept alike n h = row_shrinks E K L xs ys alike n h (kept n (omega (arith, length-append xs ys)))
