-- The records of the parts, gathered in columns and written.
use Rattle.std.proofs.Common.{◌≡◌, ℕ, suc, ◌+◌, ◌-◌, ◌<◌, ◌≤◌, Bool, true, false, cond, ◌||◌, eqb, ◌≢◌, List, [], ◌∷◌, ◌++◌, length, get_or, take, set, sym, refl, ap, ◌∙◌, subst, ap₂, ⊎_elim, arith}
use Rattle.std.proofs.lemmas.List.{length-take-le, take_more, get_or-set_same, get_or-set_other}
use Rattle.std.proofs.lemmas.Bool.{both_ways, cases_eq, cond-false, ne_eqb}
use Rattle.types.specs.declared.TypeNode.{TypeNode}
use Rattle.types.specs.Types.{Ty, variable, base, branch}
use Rattle.types.specs.Lists.{node, zero_node}
use Rattle.normal.specs.Normal.{has, place, rank, record_of, records}
use Rattle.normal.specs.Built.{Ready, Built, variables}
use Rattle.normal.proofs.Parts.{has_at, place_own, ready, variables_le, variables_var, variables_whole}
use Rattle.normal.proofs.Meaning.{record_at}
use Rattle.graph.specs.declared.Node.{Node}
use Rattle.walk.specs.Work.{key_of, part, Origin}
use Rattle.walk.specs.Listing.{Columns, Narrow}

-- what holds of each element below p, with one more written there
pub below_set : {X : Type 0} (P : ℕ → X → Type 0) (d : X) (l : List X) (p : ℕ) (x : X) → p < length l → ((q : ℕ) → q < p → P q (get_or l q d)) → P p x → (q : ℕ) → q < p + 1 → P q (get_or (set l p x) q d)
below_set P d l p x h below here q lt =
    ⊎_elim
    (λ (e : q ≡ p). subst (λ (j : ℕ). P j (get_or (set l p x) j d)) (sym e) (subst (P p) (sym (get_or-set_same l p x d h)) here))
    (λ (ne : q ≢ p). subst (P q) (sym (get_or-set_other l p q x d ne)) (below q (omega arith)))
    (cases_eq q p)

-- ---- numbers of variables

rank_place : (ps : List Ty) (i : ℕ) → has ps (variable i) ≡ true → rank ps i ≡ variables (take (place ps (variable i)) ps)
rank_place [] i e = absurd (both_ways false refl e)
rank_place (variable j ∷ ps) i e = go (rank_place ps i) (eqb j i) e
  where
    go : (has ps (variable i) ≡ true → rank ps i ≡ variables (take (place ps (variable i)) ps)) → (b : Bool) → (b || has ps (variable i)) ≡ true → cond b 0 (suc (rank ps i)) ≡ variables (take (cond b 0 (suc (place ps (variable i)))) (variable j ∷ ps))
    go rest true m = refl
    go rest false m = ap suc (rest m)
rank_place (base c ∷ ps) i e = rank_place ps i e
rank_place (branch k a b ∷ ps) i e = rank_place ps i e

module _ (ps : List Ty) (b : Built ps) (p : ℕ) (h : p < length ps) where
  -- the record of the part at p, by its key and the variables before it
  pub row_is : node (key_of ps (part ps p)).kind (cond (eqb (key_of ps (part ps p)).kind 0) (variables (take p ps)) (key_of ps (part ps p)).left) (key_of ps (part ps p)).right ≡ get_or (records ps) p zero_node
  row_is = go (part ps p) refl ∙ sym (record_at ps p h)
    where
      go : (t : Ty) → part ps p ≡ t → node (key_of ps t).kind (cond (eqb (key_of ps t).kind 0) (variables (take p ps)) (key_of ps t).left) (key_of ps t).right ≡ record_of ps (part ps p)
      go (variable i) e =
          let m : has ps (variable i) ≡ true = subst (λ (u : Ty). has ps u ≡ true) e (has_at ps p (variable 0) h) in
          let q : place ps (variable i) ≡ p = ap (place ps) (sym e) ∙ place_own b p (variable 0) h in
          ap (λ (n : ℕ). node 0 n 0) (sym (rank_place ps i m ∙ ap (λ (j : ℕ). variables (take j ps)) q)) ∙ ap (record_of ps) (sym e)
      go (base c) e = ap (record_of ps) (sym e)
      go (branch k x y) e =
          let r : Ready ps (branch k x y) = subst (Ready ps) e (ready b (part ps p) (has_at ps p (variable 0) h)) in
          ap (λ (n : ℕ). node k n (place ps y)) (cond-false (eqb k 0) (variables (take p ps)) (place ps x) (ne_eqb k 0 (λ z. omega (arith, r.0)))) ∙ ap (record_of ps) (sym e)

  pub variables_more : variables (take (p + 1) ps) ≡ variables (take p ps) + cond (eqb (key_of ps (part ps p)).kind 0) 1 0
  variables_more = ap variables (take_more ps p (variable 0) h) ∙ go (part ps p) (ready b (part ps p) (has_at ps p (variable 0) h))
    where
      go : (t : Ty) → Ready ps t → variables (take p ps ++ (t ∷ [])) ≡ variables (take p ps) + cond (eqb (key_of ps t).kind 0) 1 0
      go (variable i) r = variables_var (take p ps) i
      go (base c) r = omega (arith, variables_whole (take p ps) (base c) tt)
      go (branch k x y) r = omega (arith, variables_whole (take p ps) (branch k x y) tt, cond-false {A = ℕ} (eqb k 0) 1 0 (ne_eqb k 0 (λ z. omega (arith, r.0))))

pub variables_take : (ps : List Ty) (p : ℕ) → p ≤ length ps → variables (take p ps) ≤ p
variables_take ps p h = omega (arith, variables_le (take p ps), length-take-le p ps h)

-- ---- columns

module _ (ks ls rs : List ℕ) (p : ℕ) (hk : p < length ks) (hl : p < length ls) (hr : p < length rs) (k l r : ℕ) where
  pub columns_more : (ps : List Ty) → node k l r ≡ get_or (records ps) p zero_node → Columns ps p ks ls rs → Columns ps (p + 1) (set ks p k) (set ls p l) (set rs p r)
  columns_more ps e c =
      record {
        row = λ q lt.
            ⊎_elim
            (λ (d : q ≡ p).
            subst (λ (j : ℕ). node (get_or (set ks p k) j 0) (get_or (set ls p l) j 0) (get_or (set rs p r) j 0) ≡ get_or (records ps) j zero_node) (sym d)
            (ap (λ (x : ℕ). node x (get_or (set ls p l) p 0) (get_or (set rs p r) p 0)) (get_or-set_same ks p k 0 hk) ∙ ap₂ (node k) (get_or-set_same ls p l 0 hl) (get_or-set_same rs p r 0 hr) ∙ e))
            (λ (ne : q ≢ p).
            ap (λ (x : ℕ). node x (get_or (set ls p l) q 0) (get_or (set rs p r) q 0)) (get_or-set_other ks p q k 0 ne) ∙ ap₂ (node (get_or ks q 0)) (get_or-set_other ls p q l 0 ne) (get_or-set_other rs p q r 0 ne) ∙ c.row q (omega arith))
            (cases_eq q p);
      }

  pub narrow_more : k < 256 → l < 65536 → r < 65536 → Narrow p ks ls rs → Narrow (p + 1) (set ks p k) (set ls p l) (set rs p r)
  narrow_more bk bl br n =
      record {
        kind = below_set (λ q x. x < 256) 0 ks p k hk n.kind bk;
        left = below_set (λ q x. x < 65536) 0 ls p l hl n.left bl;
        right = below_set (λ q x. x < 65536) 0 rs p r hr n.right br;
      }

-- the row at p, as it is worked out
pub row_worked : (ps : List Ty) → Built ps → (p : ℕ) → p < length ps → (key : TypeNode) (n v : ℕ) → key ≡ key_of ps (part ps p) → v ≡ variables (take p ps) → n ≡ cond (eqb key.kind 0) v key.left → node key.kind n key.right ≡ get_or (records ps) p zero_node
row_worked ps b p h key n v e f g =
    ap (λ (x : ℕ). node key.kind x key.right) (g ∙ ap (λ (x : ℕ). cond (eqb key.kind 0) x key.left) f)
    ∙ ap (λ (k : TypeNode). node k.kind (cond (eqb k.kind 0) (variables (take p ps)) k.left) k.right) e
    ∙ row_is ps b p h

pub variables_worked : (ps : List Ty) → Built ps → (p : ℕ) → p < length ps → (key : TypeNode) (v v' : ℕ) → key ≡ key_of ps (part ps p) → v ≡ variables (take p ps) → v' ≡ v + cond (eqb key.kind 0) 1 0 → v' ≡ variables (take (p + 1) ps)
variables_worked ps b p h key v v' e f g =
    g ∙ ap₂ (λ (x : ℕ) (k : TypeNode). x + cond (eqb k.kind 0) 1 0) f e ∙ sym (variables_more ps b p h)

pub number_narrow : (b : Bool) (n v l : ℕ) → n ≡ cond b v l → v < 65536 → l < 65536 → n < 65536
number_narrow true n v l e hv hl = omega arith
number_narrow false n v l e hv hl = omega arith

pub key_made : (ns : List Node) (ms : List ℕ) (ps : List Ty) (k i p : ℕ) (key : TypeNode) → Origin ns ms k p → i ≡ k → key ≡ key_of ps (part ps (get_or ms i 0 - 2)) → key ≡ key_of ps (part ps p)
key_made ns ms ps k i p key o e f =
    let q : get_or ms i 0 - 2 ≡ p = omega (arith, o.mark, ap (λ (j : ℕ). get_or ms j 0) e) in
    f ∙ ap (λ (j : ℕ). key_of ps (part ps j)) q
