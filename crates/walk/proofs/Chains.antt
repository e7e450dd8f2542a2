-- The chains of a table.
use Rattle.std.proofs.Common.{◌≡◌, ℕ, ◌+◌, ◌*◌, ◌<◌, ◌≢◌, List, length, get_or, set, sym, refl, ap, ◌∙◌, subst, ⊎_elim, mod-lt, arith}
use Rattle.std.proofs.lemmas.List.{length-set, get_or-set_same, get_or-set_other}
use Rattle.std.proofs.lemmas.Bool.{cases_eq}
use Rattle.types.specs.declared.TypeNode.{TypeNode}
use Rattle.types.specs.Lists.{zero_node}
use Rattle.walk.specs.Table.{Latest, Table, bucket}

-- only the numbers of the places below b count
latest_same : (f g : ℕ → ℕ) (b h x : ℕ) → ((p : ℕ) → p < b → f p ≡ g p) → Latest f b h x → Latest g b h x
latest_same f g b h x e l =
    record {
      low = l.low;
      here = λ q d. sym (e q (omega (arith, l.low))) ∙ l.here q d;
      between = λ k i j d. l.between k i j (e k j ∙ d);
    }

pub table_same : (f g : ℕ → ℕ) (n : ℕ) (hs xs : List ℕ) → ((p : ℕ) → p < n → f p ≡ g p) → Table f n hs xs → Table g n hs xs
table_same f g n hs xs e t =
    record {
      starts = λ h l. latest_same f g n h (get_or hs h 0) e (t.starts h l);
      goes = λ p l. subst (λ (h : ℕ). Latest g p h (get_or xs p 0)) (e p l) (latest_same f g p (f p) (get_or xs p 0) (λ q i. e q (omega arith)) (t.goes p l));
    }

pub table_none : (f : ℕ → ℕ) (hs xs : List ℕ) → ((k : ℕ) → k < length hs → get_or hs k 0 ≡ 0) → Table f 0 hs xs
table_none f hs xs z =
    record {
      starts = λ h l. record { low = omega (arith, z h l); here = λ q e. absurd (omega (arith, z h l)); between = λ k g lt e. omega arith };
      goes = λ p l. absurd (omega arith);
    }

-- the place n comes in, with the number h
pub table_push : (f : ℕ → ℕ) (n h : ℕ) (hs xs : List ℕ) → Table f n hs xs → n < length xs → f n ≡ h → h < length hs → Table f (n + 1) (set hs h (n + 1)) (set xs n (get_or hs h 0))
table_push f n h hs xs t room e lt =
    let hs' = set hs h (n + 1) in
    let xs' = set xs n (get_or hs h 0) in
    record {
      starts = λ j l.
          ⊎_elim
          (λ (q : j ≡ h).
          subst (λ (i : ℕ). Latest f (n + 1) i (get_or hs' i 0)) (sym q)
          (subst (Latest f (n + 1) h) (sym (get_or-set_same hs h (n + 1) 0 lt))
          (record { low = omega arith; here = λ p d. (let g : p ≡ n = omega arith in ap f g ∙ e); between = λ k g i d. omega arith })))
          (λ (ne : j ≢ h).
          subst (Latest f (n + 1) j) (sym (get_or-set_other hs h j (n + 1) 0 ne))
          (let o = t.starts j (omega (arith, length-set hs h (n + 1))) in
          record {
            low = omega (arith, o.low);
            here = o.here;
            between = λ k g i d. ⊎_elim (λ (q : k ≡ n). ne (sym d ∙ ap f q ∙ e)) (λ (m : k ≢ n). o.between k g (omega arith) d) (cases_eq k n);
          }))
          (cases_eq j h);
      goes = λ p l.
          ⊎_elim
          (λ (q : p ≡ n).
          subst (λ (i : ℕ). Latest f i (f i) (get_or xs' i 0)) (sym q)
          (subst (λ (i : ℕ). Latest f n i (get_or xs' n 0)) (sym e) (subst (Latest f n h) (sym (get_or-set_same xs n (get_or hs h 0) 0 room)) (t.starts h lt))))
          (λ (ne : p ≢ n). subst (Latest f p (f p)) (sym (get_or-set_other xs n p (get_or hs h 0) 0 ne)) (t.goes p (omega arith)))
          (cases_eq p n);
    }

-- the place n of a list comes in, by its record
pub table_entered : (l : List TypeNode) (m n : ℕ) (hs xs hs' xs' : List ℕ) → m ≡ length hs → 0 < m → n < length xs → Table (λ p. bucket m (get_or l p zero_node)) n hs xs → hs' ≡ set hs (bucket (length hs) (get_or l n zero_node)) (n + 1) → xs' ≡ set xs n (get_or hs (bucket (length hs) (get_or l n zero_node)) 0) → Table (λ p. bucket m (get_or l p zero_node)) (n + 1) hs' xs'
table_entered l m n hs xs hs' xs' e some room t eh ex =
    let x = get_or l n zero_node in
    let q : bucket (length hs) x ≡ bucket m x = ap (λ (k : ℕ). bucket k x) (sym e) in
    let lt : bucket m x < m = mod-lt (x.kind + x.left * 31 + x.right * 1021) some in
    let number : ℕ → ℕ = λ p. bucket m (get_or l p zero_node) in
    subst (λ (as' : List ℕ). Table number (n + 1) as' xs') (sym (eh ∙ ap (λ (k : ℕ). set hs k (n + 1)) q))
    (subst (λ (bs : List ℕ). Table number (n + 1) (set hs (bucket m x) (n + 1)) bs) (sym (ex ∙ ap (λ (k : ℕ). set xs n (get_or hs k 0)) q))
    (table_push number n (bucket m x) hs xs t room refl (omega arith)))
