-- Renamings keep the normal list.
use Rattle.std.proofs.Common.{◌≡◌, ℕ, suc, Bool, true, cond, ◌||◌, eqb, List, [], ◌∷◌, ◌++◌, map, sym, refl, ap, ◌∙◌, subst, ap₂, arith}
use Rattle.std.specs.List.{AllByRecursion}
use Rattle.std.proofs.lemmas.List.{map-append, map_push}
use Rattle.std.proofs.ByRecursion.{All-append, All-push}
use Rattle.std.proofs.lemmas.Bool.Decides.{same_from_decides}
use Rattle.types.specs.declared.TypeNode.{TypeNode}
use Rattle.types.specs.Types.{Ty, variable, base, branch, apply, Instance}
use Rattle.types.specs.Lists.{node}
use Rattle.normal.specs.Normal.{same, has, place, postorder, postorders, add, firsts, parts, rank, record_of, records, normal, normal_of}
use Rattle.normal.specs.Laws.{MutualRenames, OneListIffMutual, RenamingKeepsList, NormalAgain}
use Rattle.normal.proofs.Parts.{same_refl, same_true, add_old, add_new, by_add}
use Rattle.normal.proofs.Meaning.{variable_at, renumbered, one_built, means_type, one_list_instance}

-- the number of a variable
abbrev number_of : Ty → ℕ
number_of (variable j) = j
number_of (base c) = 0
number_of (branch k a b) = 0

-- ρ there and σ back
module _ (ρ σ : ℕ → Ty) where
  abbrev Back : Ty → Type 0
  Back t = apply σ (apply ρ t) ≡ t

  variable_from : (u : Ty) (i : ℕ) → apply σ u ≡ variable i → (j : ℕ) × (u ≡ variable j)
  variable_from (variable j) i e = (j, refl)
  variable_from (base c) i e = let z : ◌≡◌ {A = ℕ} 0 1 = cc in absurd (omega arith)
  variable_from (branch k a b) i e = let z : ◌≡◌ {A = ℕ} 0 1 = cc in absurd (omega arith)

  back_left : (k : ℕ) (x y : Ty) → Back (branch k x y) → Back x
  back_left k x y e = cc

  back_right : (k : ℕ) (x y : Ty) → Back (branch k x y) → Back y
  back_right k x y e = cc

  all_back : (t : Ty) → Back t → AllByRecursion Back (postorder t)
  all_back (variable i) b = (b, tt)
  all_back (base c) b = (b, tt)
  all_back (branch k x y) b = All-append Back (postorder x) (postorder y ++ (branch k x y ∷ [])) (all_back x (back_left k x y b)) (All-push Back (postorder y) (branch k x y) (all_back y (back_right k x y b)) b)

  post_back : (t : Ty) → Back t → postorder (apply ρ t) ≡ map (apply ρ) (postorder t)
  post_back (variable i) b = let v = variable_from (ρ i) i b in subst (λ (u : Ty). postorder u ≡ u ∷ []) (sym v.1) refl
  post_back (base c) b = refl
  post_back (branch k x y) b =
      let f = apply ρ in
      let t = branch k x y in
      ap₂ (λ (xs ys : List Ty). xs ++ (ys ++ (f t ∷ []))) (post_back x (back_left k x y b)) (post_back y (back_right k x y b))
      ∙ sym (map-append f (postorder x) (postorder y ++ (t ∷ [])) ∙ ap (λ (ys : List Ty). map f (postorder x) ++ ys) (map_push f (postorder y) t))

  same_back : (p t : Ty) → Back p → Back t → same (apply ρ p) (apply ρ t) ≡ same p t
  same_back p t bp bt =
      same_from_decides {P = p ≡ t} (same (apply ρ p) (apply ρ t)) (same p t)
      (λ e. sym bp ∙ ap (apply σ) (same_true (apply ρ p) (apply ρ t) e) ∙ bt, λ e. subst (λ (u : Ty). same (apply ρ p) (apply ρ u) ≡ true) e (same_refl (apply ρ p)))
      (same_true p t, λ e. subst (λ (u : Ty). same p u ≡ true) e (same_refl p))

  has_back : (ps : List Ty) (t : Ty) → AllByRecursion Back ps → Back t → has (map (apply ρ) ps) (apply ρ t) ≡ has ps t
  has_back [] t a b = refl
  has_back (p ∷ ps) t a b = ap₂ (λ (x y : Bool). x || y) (same_back p t a.0 b) (has_back ps t a.1 b)

  place_back : (ps : List Ty) (t : Ty) → AllByRecursion Back ps → Back t → place (map (apply ρ) ps) (apply ρ t) ≡ place ps t
  place_back [] t a b = refl
  place_back (p ∷ ps) t a b = ap₂ (λ (x : Bool) (n : ℕ). cond x 0 (suc n)) (same_back p t a.0 b) (place_back ps t a.1 b)

  rank_back : (ps : List Ty) (i j : ℕ) → AllByRecursion Back ps → Back (variable i) → ρ i ≡ variable j → rank (map (apply ρ) ps) j ≡ rank ps i
  rank_back [] i j a b e = refl
  rank_back (variable k ∷ ps) i j a b e =
      let v = variable_from (ρ k) k a.0 in
      let q : eqb v.0 j ≡ eqb k i = ap₂ same (sym v.1) (sym e) ∙ same_back (variable k) (variable i) a.0 b in
      subst (λ (u : Ty). rank (u ∷ map (apply ρ) ps) j ≡ cond (eqb k i) 0 (suc (rank ps i))) (sym v.1) (ap₂ (λ (x : Bool) (n : ℕ). cond x 0 (suc n)) q (rank_back ps i j a.1 b e))
  rank_back (base c ∷ ps) i j a b e = rank_back ps i j a.1 b e
  rank_back (branch k x y ∷ ps) i j a b e = rank_back ps i j a.1 b e

  record_back : (ps : List Ty) (t : Ty) → AllByRecursion Back ps → Back t → record_of (map (apply ρ) ps) (apply ρ t) ≡ record_of ps t
  record_back ps (variable i) a b =
      let v = variable_from (ρ i) i b in
      subst (λ (u : Ty). record_of (map (apply ρ) ps) u ≡ record_of ps (variable i)) (sym v.1) (ap (λ (n : ℕ). node 0 n 0) (rank_back ps i v.0 a b v.1))
  record_back ps (base c) a b = refl
  record_back ps (branch k x y) a b =
      ap₂ (node k) (place_back ps x a (back_left k x y b)) (place_back ps y a (back_right k x y b))

  nodes_back : (ps xs : List Ty) → AllByRecursion Back ps → AllByRecursion Back xs → map (record_of (map (apply ρ) ps)) (map (apply ρ) xs) ≡ map (record_of ps) xs
  nodes_back ps [] a b = refl
  nodes_back ps (x ∷ xs) a b = ap₂ (λ (y : TypeNode) (ys : List TypeNode). y ∷ ys) (record_back ps x a b.0) (nodes_back ps xs a b.1)

  add_back : (ps : List Ty) (x : Ty) → AllByRecursion Back ps → Back x → (add (map (apply ρ) ps) (apply ρ x) ≡ map (apply ρ) (add ps x)) × AllByRecursion Back (add ps x)
  add_back ps x a b =
      by_add (λ qs. (add (map (apply ρ) ps) (apply ρ x) ≡ map (apply ρ) qs) × AllByRecursion Back qs) ps x
      (λ m. (add_old (map (apply ρ) ps) (apply ρ x) (has_back ps x a b ∙ m), a))
      (λ m. (add_new (map (apply ρ) ps) (apply ρ x) (has_back ps x a b ∙ m) ∙ sym (map_push (apply ρ) ps x), All-push Back ps x a b))

  firsts_back : (xs ps : List Ty) → AllByRecursion Back ps → AllByRecursion Back xs → (firsts (map (apply ρ) ps) (map (apply ρ) xs) ≡ map (apply ρ) (firsts ps xs)) × AllByRecursion Back (firsts ps xs)
  firsts_back [] ps a b = (refl, a)
  firsts_back (x ∷ xs) ps a b =
      let p = add_back ps x a b.0 in
      let q = firsts_back xs (add ps x) p.1 b.1 in
      (ap (λ (l : List Ty). firsts l (map (apply ρ) xs)) p.0 ∙ q.0, q.1)

  lists_back : (ts : List Ty) → map (apply σ) (map (apply ρ) ts) ≡ ts → (postorders (map (apply ρ) ts) ≡ map (apply ρ) (postorders ts)) × AllByRecursion Back (postorders ts)
  lists_back [] e = (refl, tt)
  lists_back (t ∷ ts) e =
      let b : Back t = cc in
      let r : map (apply σ) (map (apply ρ) ts) ≡ ts = cc in
      let p = lists_back ts r in
      (ap₂ (λ (xs ys : List Ty). xs ++ ys) (post_back t b) p.0 ∙ sym (map-append (apply ρ) (postorder t) (postorders ts)), All-append Back (postorder t) (postorders ts) (all_back t b) p.1)

  pub renamed : (ts : List Ty) → map (apply σ) (map (apply ρ) ts) ≡ ts → normal (map (apply ρ) ts) ≡ normal ts
  renamed ts e =
      let l = lists_back ts e in
      let f = firsts_back (postorders ts) [] tt l.1 in
      ap (λ (xs : List Ty). records (firsts [] xs)) l.0 ∙ ap records f.0 ∙ nodes_back (parts ts) (parts ts) f.1 f.1

  -- what ρ puts for a variable of t is a variable
  pub back_renames : (t : Ty) → Back t → apply (λ i. variable (number_of (ρ i))) t ≡ apply ρ t
  back_renames (variable i) b = let v = variable_from (ρ i) i b in subst (λ (u : Ty). variable (number_of u) ≡ u) (sym v.1) refl
  back_renames (base c) b = refl
  back_renames (branch k x y) b = ap₂ (branch k) (back_renames x (back_left k x y b)) (back_renames y (back_right k x y b))

pub renaming_keeps_list : RenamingKeepsList
renaming_keeps_list ts us ρ σ e f = sym (renamed ρ σ ts (ap (map (apply σ)) e ∙ f)) ∙ ap normal e

pub mutual_keeps_list : (t u : Ty) → Instance t u → Instance u t → normal_of t ≡ normal_of u
mutual_keeps_list t u i j = renaming_keeps_list (t ∷ []) (u ∷ []) i.0 j.0 (ap (λ (x : Ty). x ∷ []) i.1) (ap (λ (x : Ty). x ∷ []) j.1)

pub mutual_renames : MutualRenames
mutual_renames t u i j = (
  λ n. number_of (i.0 n),
  λ n. number_of (j.0 n),
  back_renames i.0 j.0 t (ap (apply j.0) i.1 ∙ j.1) ∙ i.1,
  back_renames j.0 i.0 u (ap (apply i.0) j.1 ∙ i.1) ∙ j.1,
)

pub one_list_iff_mutual : OneListIffMutual
one_list_iff_mutual t u wt wu = (λ e. (one_list_instance t u wt wu e, one_list_instance u t wu wt (sym e)), λ i. mutual_keeps_list t u i.0 i.1)

pub normal_again : NormalAgain
normal_again t w =
    let ps = parts (t ∷ []) in
    let o = one_built t w in
    let there : Instance t (apply (λ i. variable (rank ps i)) t) = (λ i. variable (rank ps i), refl) in
    let back : Instance (apply (λ i. variable (rank ps i)) t) t = (variable_at ps, renumbered t o.0 o.1) in
    ap normal_of (means_type t w) ∙ sym (mutual_keeps_list t (apply (λ i. variable (rank ps i)) t) there back)
