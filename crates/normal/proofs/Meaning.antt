-- What a normal list says of its types.
use Rattle.std.proofs.Common.{◌≡◌, ℕ, zero, suc, ◌+◌, ◌-◌, ◌<◌, ◌≤◌, Bool, true, false, cond, ◌||◌, eqb, List, [], ◌∷◌, ◌++◌, map, length, get_or, take, sym, refl, ap, ◌∙◌, subst, ap₂, ⊎_elim, arith}
use Rattle.std.specs.List.{AllByRecursion}
use Rattle.std.proofs.lemmas.List.{append-nil, append_assoc, length_push, length-map, get_or-map, map-append, take_at}
use Rattle.std.proofs.ByRecursion.{All-weaker, All-append, All-push}
use Rattle.std.proofs.lemmas.Bool.{both_ways, cases_Bool, eqb-true}
use Rattle.types.specs.declared.TypeNode.{TypeNode}
use Rattle.types.specs.Types.{Ty, variable, base, branch, apply, Instance}
use Rattle.types.specs.Lists.{zero_node, LawfulNode, shape, reading, type_at, meaning}
use Rattle.normal.specs.Normal.{has, place, postorder, postorders, add, firsts, parts, rank, record_of, records, normal_of}
use Rattle.normal.specs.Built.{Built, none}
use Rattle.normal.specs.Laws.{Proper, Simple, Once, Lower, numbered, NormalOnce, NormalLawful, NormalMeans, NormalBegins, OneListRenames}
use Rattle.normal.proofs.Parts.{has_at, has_push, place_at, place_own, place_new, place_below, ready, known, record_one, record_left, firsts_append, firsts_branch, firsts_has, firsts_grows, add_new, by_add, visit_built, parts_built, map_same, rank_below, variables_le}
use Rattle.normal.proofs.Reading.{shape_branch}

-- ---- records

pub record_at : (ps : List Ty) (k : ℕ) → k < length ps → get_or (records ps) k zero_node ≡ record_of ps (get_or ps k (variable 0))
record_at ps k h = get_or-map (record_of ps) ps k (variable 0) zero_node h

pub record_place : (ps : List Ty) (t : Ty) → has ps t ≡ true → get_or (records ps) (place ps t) zero_node ≡ record_of ps t
record_place ps t m = let w = place_at ps t (variable 0) m in record_at ps (place ps t) w.0 ∙ ap (record_of ps) w.1

module _ {ps : List Ty} (b : Built ps) where
  record_lower : (t : Ty) → has ps t ≡ true → 2 ≤ (record_of ps t).kind → ((record_of ps t).left < place ps t) × ((record_of ps t).right < place ps t)
  record_lower (variable i) m e = absurd (omega arith)
  record_lower (base c) m e = absurd (omega arith)
  record_lower (branch k x y) m e = place_below b k x y m

  pub records_lower : Lower (records ps)
  records_lower k h e =
      let l : k < length ps = omega (arith, length-map ps (record_of ps)) in
      let r = record_at ps k l in
      let t = get_or ps k (variable 0) in
      let w = record_lower t (has_at ps k (variable 0) l) (subst (λ (x : TypeNode). 2 ≤ x.kind) r e) in
      let o = place_own b k (variable 0) l in
      (omega (arith, w.0, ap (λ (x : TypeNode). x.left) r), omega (arith, w.1, ap (λ (x : TypeNode). x.right) r))

  pub records_once : Once (records ps)
  records_once j k hj hk e =
      let lj : j < length ps = omega (arith, length-map ps (record_of ps)) in
      let lk : k < length ps = omega (arith, length-map ps (record_of ps)) in
      let tj = get_or ps j (variable 0) in
      let tk = get_or ps k (variable 0) in
      let q : tj ≡ tk = record_one ps tj tk (known b tj (has_at ps j (variable 0) lj)) (known b tk (has_at ps k (variable 0) lk)) (sym (record_at ps j lj) ∙ e ∙ record_at ps k lk) in
      sym (place_own b j (variable 0) lj) ∙ ap (place ps) q ∙ place_own b k (variable 0) lk

pub normal_once : NormalOnce
normal_once ts w = let b = parts_built ts w none in (records_once b, records_lower b)

-- ---- lawful lists

abbrev Modest : Ty → Type 0
Modest (variable i) = Unit {0}
Modest (base c) = c ≤ 5
Modest (branch k a b) = k ≡ 2

pub simple_proper : (t : Ty) → Simple t → Proper t
simple_proper (variable i) s = tt
simple_proper (base c) s = tt
simple_proper (branch k a b) s = (omega (arith, s.0), simple_proper a s.1, simple_proper b s.2)

-- what holds of each type of a list
abbrev Each : (Ty → Type 0) → List Ty → Type 0
Each P ps = (u : Ty) → has ps u ≡ true → P u

each_firsts : (P : Ty → Type 0) (xs ps : List Ty) → AllByRecursion P xs → Each P ps → Each P (firsts ps xs)
each_firsts P [] ps a e = e
each_firsts P (x ∷ xs) ps a e =
    each_firsts P xs (add ps x) a.1
    (by_add (Each P) ps x (λ h. e) (λ h u k. ⊎_elim (λ (o : has ps u ≡ true). e u o) (λ (q : x ≡ u). subst P q a.0) (has_push ps x u k)))

each_none : (P : Ty → Type 0) → Each P []
each_none P u e = absurd (both_ways false refl e)

modest_postorder : (t : Ty) → Simple t → AllByRecursion Modest (postorder t)
modest_postorder (variable i) s = (tt, tt)
modest_postorder (base c) s = (s, tt)
modest_postorder (branch k x y) s = All-append Modest (postorder x) (postorder y ++ (branch k x y ∷ [])) (modest_postorder x s.1) (All-push Modest (postorder y) (branch k x y) (modest_postorder y s.2) s.0)

modest_postorders : (ts : List Ty) → AllByRecursion Simple ts → AllByRecursion Modest (postorders ts)
modest_postorders [] s = tt
modest_postorders (t ∷ ts) s = All-append Modest (postorder t) (postorders ts) (modest_postorder t s.0) (modest_postorders ts s.1)

lawful_record : {ps : List Ty} → Built ps → length ps ≤ 4096 → (t : Ty) → has ps t ≡ true → Modest t → LawfulNode (place ps t) (record_of ps t)
lawful_record {ps} b few (variable i) m s =
    record { kinds = omega arith; leaf = λ h. refl; number = λ h. omega (arith, rank_below ps i m, variables_le ps); code = λ h. absurd (omega arith); lower = λ h. absurd (omega arith) }
lawful_record b few (base c) m s = record { kinds = omega arith; leaf = λ h. refl; number = λ h. absurd (omega arith); code = λ h. s; lower = λ h. absurd (omega arith) }
lawful_record b few (branch k x y) m s =
    record { kinds = omega arith; leaf = λ h. absurd (omega arith); number = λ h. absurd (omega arith); code = λ h. absurd (omega arith); lower = λ h. place_below b k x y m }

some_parts : (ts : List Ty) → AllByRecursion Proper ts → 0 < length ts → 0 < length (parts ts)
some_parts [] w h = absurd (omega arith)
some_parts (t ∷ ts) w h =
    let v = visit_built t w.0 none in
    let m = subst (λ (l : List Ty). has l t ≡ true) (sym (firsts_append [] (postorder t) (postorders ts))) (firsts_has (firsts [] (postorder t)) (postorders ts) t v.1) in
    omega (arith, (place_at (parts (t ∷ ts)) t t m).0)

pub normal_lawful : NormalLawful
normal_lawful ts s some few =
    let ps = parts ts in
    let w = All-weaker Simple Proper simple_proper ts s in
    let b = parts_built ts w none in
    let n = length-map ps (record_of ps) in
    record {
      some = omega (arith, some_parts ts w some);
      few = few;
      each = λ p h.
          (let l : p < length ps = omega arith in
          let t = get_or ps p (variable 0) in
          let m = has_at ps p (variable 0) l in
          subst (LawfulNode p) (sym (record_at ps p l)) (subst (λ (k : ℕ). LawfulNode k (record_of ps t)) (place_own b p (variable 0) l) (lawful_record b (omega arith) t m (each_firsts Modest (postorders ts) [] (modest_postorders ts s) (each_none Modest) t m))));
    }

-- ---- meanings

-- a type of the list is read at its place, with its variables numbered
pub read_numbered : (t : Ty) {ps : List Ty} (d : ℕ) → Built ps → has ps t ≡ true → place ps t < d → reading d (records ps) (place ps t) ≡ apply (λ i. variable (rank ps i)) t
read_numbered t zero b m h = absurd (omega arith)
read_numbered (variable i) {ps} (suc d) b m h = ap (λ (x : TypeNode). shape x.kind x.left (reading d (records ps) x.left) (reading d (records ps) x.right)) (record_place ps (variable i) m)
read_numbered (base c) {ps} (suc d) b m h = ap (λ (x : TypeNode). shape x.kind x.left (reading d (records ps) x.left) (reading d (records ps) x.right)) (record_place ps (base c) m)
read_numbered (branch k x y) {ps} (suc d) b m h =
    let r = ready b (branch k x y) m in
    let l = place_below b k x y m in
    ap (λ (z : TypeNode). shape z.kind z.left (reading d (records ps) z.left) (reading d (records ps) z.right)) (record_place ps (branch k x y) m)
    ∙ shape_branch k _ _ _ r.0
    ∙ ap₂ (branch k) (read_numbered x d b r.1 (omega (arith, l.0))) (read_numbered y d b r.2 (omega (arith, l.1)))

-- ---- a type is the last of its parts

abbrev size : Ty → ℕ
size (variable i) = 1
size (base c) = 1
size (branch k a b) = 1 + (size a + size b)

size_some : (t : Ty) → 0 < size t
size_some (variable i) = omega arith
size_some (base c) = omega arith
size_some (branch k a b) = omega arith

small_postorder : (n : ℕ) (t : Ty) → size t ≤ n → AllByRecursion (λ u. size u ≤ n) (postorder t)
small_postorder n (variable i) h = (h, tt)
small_postorder n (base c) h = (h, tt)
small_postorder n (branch k x y) h =
    All-append (λ u. size u ≤ n) (postorder x) (postorder y ++ (branch k x y ∷ [])) (small_postorder n x (omega arith)) (All-push (λ u. size u ≤ n) (postorder y) (branch k x y) (small_postorder n y (omega arith)) h)

last_part : (t : Ty) → place (firsts [] (postorder t)) t + 1 ≡ length (firsts [] (postorder t))
last_part (variable i) = ap (λ (n : ℕ). n + 1) (place_new [] (variable i) refl)
last_part (base c) = ap (λ (n : ℕ). n + 1) (place_new [] (base c) refl)
last_part (branch k x y) =
    let t = branch k x y in
    let n = size x + size y in
    let Small : Ty → Type 0 = λ u. size u ≤ n in
    let qs = firsts [] (postorder x) in
    let rs = firsts qs (postorder y) in
    let small = each_firsts Small (postorder y) qs (small_postorder n y (omega arith)) (each_firsts Small (postorder x) [] (small_postorder n x (omega arith)) (each_none Small)) in
    let f : has rs t ≡ false = ⊎_elim (λ (m : has rs t ≡ true). absurd (omega (arith, small t m))) (λ (m : has rs t ≡ false). m) (cases_Bool (has rs t)) in
    let e : firsts [] (postorder t) ≡ rs ++ (t ∷ []) = firsts_branch [] k x y ∙ add_new rs t f in
    subst (λ (l : List Ty). place l t + 1 ≡ length l) (sym e) (omega (arith, place_new rs t f, length_push rs t))

one_type : (t : Ty) → parts (t ∷ []) ≡ firsts [] (postorder t)
one_type t = ap (firsts []) (append-nil (postorder t))

pub one_built : (t : Ty) → Proper t → Built (parts (t ∷ [])) × (has (parts (t ∷ [])) t ≡ true)
one_built t w = subst (λ (ps : List Ty). Built ps × (has ps t ≡ true)) (sym (one_type t)) (visit_built t w none)

pub last_place : (t : Ty) → place (parts (t ∷ [])) t ≡ length (normal_of t) - 1
last_place t =
    let ps = parts (t ∷ []) in
    let e : place ps t + 1 ≡ length ps = subst (λ (l : List Ty). place l t + 1 ≡ length l) (sym (one_type t)) (last_part t) in
    omega (arith, length-map ps (record_of ps))

pub means_type : (t : Ty) → Proper t → meaning (normal_of t) ≡ numbered (t ∷ []) t
means_type t w =
    let b = one_built t w in
    let ps = parts (t ∷ []) in
    ap (type_at (records ps)) (sym (last_place t)) ∙ read_numbered t (suc (place ps t)) b.0 b.1 (omega arith)

pub parts_have : (ts ps : List Ty) → AllByRecursion Proper ts → Built ps → (k : ℕ) → k < length ts → has (firsts ps (postorders ts)) (get_or ts k (variable 0)) ≡ true
parts_have [] ps w b k h = absurd (omega arith)
parts_have (t ∷ ts) ps w b zero h =
    let v = visit_built t w.0 b in
    subst (λ (l : List Ty). has l t ≡ true) (sym (firsts_append ps (postorder t) (postorders ts))) (firsts_has (firsts ps (postorder t)) (postorders ts) t v.1)
parts_have (t ∷ ts) ps w b (suc k) h =
    let v = visit_built t w.0 b in
    subst (λ (l : List Ty). has l (get_or ts k (variable 0)) ≡ true) (sym (firsts_append ps (postorder t) (postorders ts))) (parts_have ts (firsts ps (postorder t)) w.1 v.0 k (omega arith))

pub normal_means : NormalMeans
normal_means = (
  means_type,
  λ ts k w h. read_numbered (get_or ts k (variable 0)) (suc (place (parts ts) (get_or ts k (variable 0)))) (parts_built ts w none) (parts_have ts [] w none k h) (omega arith),
)

-- ---- what stands stays

pub records_left : (ps zs : List Ty) → Built ps → take (length ps) (records (ps ++ zs)) ≡ records ps
records_left ps zs b =
    ap (take (length ps)) (map-append (record_of (ps ++ zs)) ps zs ∙ ap (λ (l : List TypeNode). l ++ map (record_of (ps ++ zs)) zs) (map_same (record_of (ps ++ zs)) (record_of ps) ps (λ x m. record_left ps zs x (known b x m))))
    ∙ take_at (records ps) (map (record_of (ps ++ zs)) zs) (length ps) (length-map ps (record_of ps))

pub records_grow : (ps xs : List Ty) → Built ps → take (length ps) (records (firsts ps xs)) ≡ records ps
records_grow ps xs b = let g = firsts_grows ps xs in ap (λ (l : List Ty). take (length ps) (records l)) g.1 ∙ records_left ps g.0 b

pub postorders_append : (ts us : List Ty) → postorders (ts ++ us) ≡ postorders ts ++ postorders us
postorders_append [] us = refl
postorders_append (t ∷ ts) us = ap (λ (l : List Ty). postorder t ++ l) (postorders_append ts us) ∙ sym (append_assoc (postorder t) (postorders ts) (postorders us))

pub parts_append : (ts us : List Ty) → parts (ts ++ us) ≡ firsts (parts ts) (postorders us)
parts_append ts us = ap (firsts []) (postorders_append ts us) ∙ firsts_append [] (postorders ts) (postorders us)

pub normal_begins : NormalBegins
normal_begins ts us w =
    let ps = parts ts in
    ap₂ (λ (n : ℕ) (l : List Ty). take n (records l)) (length-map ps (record_of ps)) (parts_append ts us) ∙ records_grow ps (postorders us) (parts_built ts w none)

-- ---- the variables' names, back again

-- the variable with the number n
abbrev pub variable_at : List Ty → ℕ → Ty
variable_at [] n = variable n
variable_at (variable j ∷ ps) zero = variable j
variable_at (variable j ∷ ps) (suc n) = variable_at ps n
variable_at (base c ∷ ps) n = variable_at ps n
variable_at (branch k a b ∷ ps) n = variable_at ps n

variable_back : (ps : List Ty) (i : ℕ) → has ps (variable i) ≡ true → variable_at ps (rank ps i) ≡ variable i
variable_back [] i m = absurd (both_ways false refl m)
variable_back (variable j ∷ ps) i m = go (variable_back ps i) (eqb j i) refl m
  where
    go : (has ps (variable i) ≡ true → variable_at ps (rank ps i) ≡ variable i) → (b : Bool) → eqb j i ≡ b → (b || has ps (variable i)) ≡ true → variable_at (variable j ∷ ps) (cond b 0 (suc (rank ps i))) ≡ variable i
    go rest true q n = ap variable (eqb-true j i q)
    go rest false q n = rest n
variable_back (base c ∷ ps) i m = variable_back ps i m
variable_back (branch k a b ∷ ps) i m = variable_back ps i m

pub renumbered : (t : Ty) {ps : List Ty} → Built ps → has ps t ≡ true → apply (variable_at ps) (apply (λ i. variable (rank ps i)) t) ≡ t
renumbered (variable i) {ps} b m = variable_back ps i m
renumbered (base c) b m = refl
renumbered (branch k x y) b m = let r = ready b (branch k x y) m in ap₂ (branch k) (renumbered x b r.1) (renumbered y b r.2)

pub apply_apply : (σ ρ : ℕ → Ty) (t : Ty) → apply σ (apply ρ t) ≡ apply (λ i. apply σ (ρ i)) t
apply_apply σ ρ (variable i) = refl
apply_apply σ ρ (base c) = refl
apply_apply σ ρ (branch k a b) = ap₂ (branch k) (apply_apply σ ρ a) (apply_apply σ ρ b)

-- types with one normal list are renamings of each other
pub one_list_instance : (t u : Ty) → Proper t → Proper u → normal_of t ≡ normal_of u → Instance t u
one_list_instance t u wt wu e =
    let ps = parts (t ∷ []) in
    let qs = parts (u ∷ []) in
    let q : numbered (t ∷ []) t ≡ numbered (u ∷ []) u = sym (means_type t wt) ∙ ap meaning e ∙ means_type u wu in
    let o = one_built u wu in
    (λ i. variable_at qs (rank ps i), sym (apply_apply (variable_at qs) (λ i. variable (rank ps i)) t) ∙ ap (apply (variable_at qs)) q ∙ renumbered u o.0 o.1)

pub one_list_renames : OneListRenames
one_list_renames ts us wt wu len e places =
    let ps = parts ts in
    let qs = parts us in
    let bq = parts_built us wu none in (
      λ i. variable_at qs (rank ps i),
      λ k h.
          let t = get_or ts k (variable 0) in
          let u = get_or us k (variable 0) in
          let hu = parts_have us [] wu none k (omega arith) in
          let q : numbered ts t ≡ numbered us u = sym (normal_means.1 ts k wt h) ∙ ap₂ type_at e (places k h) ∙ normal_means.1 us k wu (omega arith) in
          sym (apply_apply (variable_at qs) (λ i. variable (rank ps i)) t) ∙ ap (apply (variable_at qs)) q ∙ renumbered u bq hu,
    )
