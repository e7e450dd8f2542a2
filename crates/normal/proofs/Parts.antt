-- Lists of distinct types, each after its parts, and their records.
use Rattle.std.proofs.Common.{◌≡◌, ℕ, zero, suc, ◌+◌, ◌<◌, ◌≤◌, Bool, true, false, cond, ◌&&◌, ◌||◌, eqb, ◌⊎◌, List, [], ◌∷◌, ◌++◌, map, length, get_or, sym, refl, ap, ◌∙◌, subst, ap₂, inl, inr, ⊎_elim, arith}
use Rattle.std.specs.List.{AllByRecursion}
use Rattle.std.proofs.lemmas.List.{append-nil, append_assoc, length_push, get_or_append_left, get_or_push, map_push}
use Rattle.std.proofs.lemmas.Bool.{both_ways, eqb-true, eq-eqb, and_parts, and_from, or_cases, or_left, or_right, or_parts, cases_Bool, cond-true, cond-false, cases_lt}
use Rattle.types.specs.declared.TypeNode.{TypeNode}
use Rattle.types.specs.Types.{Ty, variable, base, branch}
use Rattle.types.specs.Lists.{node}
use Rattle.normal.specs.Normal.{same, has, place, postorder, postorders, add, firsts, rank, record_of, records}
use Rattle.normal.specs.Laws.{Proper}
use Rattle.normal.specs.Built.{Ready, Built, none, more, variables}

pub same_refl : (t : Ty) → same t t ≡ true
same_refl (variable i) = eq-eqb i i refl
same_refl (base c) = eq-eqb c c refl
same_refl (branch k a b) = and_from (eqb k k) (same a a && same b b) (eq-eqb k k refl) (and_from (same a a) (same b b) (same_refl a) (same_refl b))

pub same_true : (t u : Ty) → same t u ≡ true → t ≡ u
same_true (variable i) (variable j) e = ap variable (eqb-true i j e)
same_true (variable i) (base d) e = absurd (both_ways false refl e)
same_true (variable i) (branch k x y) e = absurd (both_ways false refl e)
same_true (base c) (variable j) e = absurd (both_ways false refl e)
same_true (base c) (base d) e = ap base (eqb-true c d e)
same_true (base c) (branch k x y) e = absurd (both_ways false refl e)
same_true (branch k a b) (variable j) e = absurd (both_ways false refl e)
same_true (branch k a b) (base d) e = absurd (both_ways false refl e)
same_true (branch h a b) (branch k x y) e =
    let p = and_parts (eqb h k) (same a x && same b y) e in
    let q = and_parts (same a x) (same b y) p.1 in
    ap (λ (j : ℕ). branch j a b) (eqb-true h k p.0) ∙ ap₂ (branch k) (same_true a x q.0) (same_true b y q.1)

-- ---- members

pub has_left : (ps qs : List Ty) (t : Ty) → has ps t ≡ true → has (ps ++ qs) t ≡ true
has_left [] qs t e = absurd (both_ways false refl e)
has_left (p ∷ ps) qs t e =
    ⊎_elim
    (λ (h : same p t ≡ true). or_left (same p t) (has (ps ++ qs) t) h)
    (λ (h : has ps t ≡ true). or_right (same p t) (has (ps ++ qs) t) (has_left ps qs t h))
    (or_cases (same p t) (has ps t) e)

pub has_last : (ps : List Ty) (t : Ty) → has (ps ++ (t ∷ [])) t ≡ true
has_last [] t = or_left (same t t) false (same_refl t)
has_last (p ∷ ps) t = or_right (same p t) (has (ps ++ (t ∷ [])) t) (has_last ps t)

pub has_push : (ps : List Ty) (u t : Ty) → has (ps ++ (u ∷ [])) t ≡ true → (has ps t ≡ true) ⊎ (u ≡ t)
has_push [] u t e = ⊎_elim (λ (h : same u t ≡ true). inr (same_true u t h)) (λ (h : false ≡ true). inl h) (or_cases (same u t) false e)
has_push (p ∷ ps) u t e =
    ⊎_elim
    (λ (h : same p t ≡ true). inl (or_left (same p t) (has ps t) h))
    (λ (h : has (ps ++ (u ∷ [])) t ≡ true). ⊎_elim (λ (k : has ps t ≡ true). inl (or_right (same p t) (has ps t) k)) (λ (k : u ≡ t). inr k) (has_push ps u t h))
    (or_cases (same p t) (has (ps ++ (u ∷ [])) t) e)

pub has_at : (ps : List Ty) (k : ℕ) (d : Ty) → k < length ps → has ps (get_or ps k d) ≡ true
has_at [] k d h = absurd (omega arith)
has_at (p ∷ ps) zero d h = or_left (same p p) (has ps p) (same_refl p)
has_at (p ∷ ps) (suc k) d h = or_right (same p (get_or ps k d)) (has ps (get_or ps k d)) (has_at ps k d (omega arith))

-- ---- places

pub place_at : (ps : List Ty) (t d : Ty) → has ps t ≡ true → (place ps t < length ps) × (get_or ps (place ps t) d ≡ t)
place_at [] t d e = absurd (both_ways false refl e)
place_at (p ∷ ps) t d e = go (place_at ps t d) (same p t) refl e
  where
    go : (has ps t ≡ true → (place ps t < length ps) × (get_or ps (place ps t) d ≡ t)) → (b : Bool) → same p t ≡ b → (b || has ps t) ≡ true → (cond b 0 (suc (place ps t)) < suc (length ps)) × (get_or (p ∷ ps) (cond b 0 (suc (place ps t))) d ≡ t)
    go rest true q m = (omega arith, same_true p t q)
    go rest false q m = let h = rest m in (omega (arith, h.0), h.1)

pub place_left : (ps qs : List Ty) (t : Ty) → has ps t ≡ true → place (ps ++ qs) t ≡ place ps t
place_left [] qs t e = absurd (both_ways false refl e)
place_left (p ∷ ps) qs t e = go (place_left ps qs t) (same p t) e
  where
    go : (has ps t ≡ true → place (ps ++ qs) t ≡ place ps t) → (b : Bool) → (b || has ps t) ≡ true → cond b 0 (suc (place (ps ++ qs) t)) ≡ cond b 0 (suc (place ps t))
    go rest true m = refl
    go rest false m = ap suc (rest m)

pub place_new : (ps : List Ty) (t : Ty) → has ps t ≡ false → place (ps ++ (t ∷ [])) t ≡ length ps
place_new [] t e = cond-true (same t t) 0 1 (same_refl t)
place_new (p ∷ ps) t e = let h = or_parts (same p t) (has ps t) e in cond-false (same p t) 0 (suc (place (ps ++ (t ∷ [])) t)) h.0 ∙ ap suc (place_new ps t h.1)

pub place_one : (ps : List Ty) (t u : Ty) → has ps t ≡ true → has ps u ≡ true → place ps t ≡ place ps u → t ≡ u
place_one ps t u m n e = sym (place_at ps t t m).1 ∙ ap (λ k. get_or ps k t) e ∙ (place_at ps u t n).1

-- ---- variables

pub rank_left : (ps qs : List Ty) (i : ℕ) → has ps (variable i) ≡ true → rank (ps ++ qs) i ≡ rank ps i
rank_left [] qs i e = absurd (both_ways false refl e)
rank_left (variable j ∷ ps) qs i e = go (rank_left ps qs i) (eqb j i) e
  where
    go : (has ps (variable i) ≡ true → rank (ps ++ qs) i ≡ rank ps i) → (b : Bool) → (b || has ps (variable i)) ≡ true → cond b 0 (suc (rank (ps ++ qs) i)) ≡ cond b 0 (suc (rank ps i))
    go rest true m = refl
    go rest false m = ap suc (rest m)
rank_left (base c ∷ ps) qs i e = rank_left ps qs i e
rank_left (branch k a b ∷ ps) qs i e = rank_left ps qs i e

pub rank_new : (ps : List Ty) (i : ℕ) → has ps (variable i) ≡ false → rank (ps ++ (variable i ∷ [])) i ≡ variables ps
rank_new [] i e = cond-true (eqb i i) 0 1 (eq-eqb i i refl)
rank_new (variable j ∷ ps) i e = let h = or_parts (eqb j i) (has ps (variable i)) e in cond-false (eqb j i) 0 (suc (rank (ps ++ (variable i ∷ [])) i)) h.0 ∙ ap suc (rank_new ps i h.1)
rank_new (base c ∷ ps) i e = rank_new ps i e
rank_new (branch k a b ∷ ps) i e = rank_new ps i e

pub rank_one : (ps : List Ty) (i j : ℕ) → has ps (variable i) ≡ true → has ps (variable j) ≡ true → rank ps i ≡ rank ps j → i ≡ j
rank_one [] i j m n e = absurd (both_ways false refl m)
rank_one (variable k ∷ ps) i j m n e = go (rank_one ps i j) (eqb k i) (eqb k j) refl refl m n e
  where
    go : (has ps (variable i) ≡ true → has ps (variable j) ≡ true → rank ps i ≡ rank ps j → i ≡ j) → (b c : Bool) → eqb k i ≡ b → eqb k j ≡ c → (b || has ps (variable i)) ≡ true → (c || has ps (variable j)) ≡ true → cond b 0 (suc (rank ps i)) ≡ cond c 0 (suc (rank ps j)) → i ≡ j
    go rest true true p q m n e = sym (eqb-true k i p) ∙ eqb-true k j q
    go rest true false p q m n e = absurd (omega arith)
    go rest false true p q m n e = absurd (omega arith)
    go rest false false p q m n e = rest m n (omega arith)
rank_one (base c ∷ ps) i j m n e = rank_one ps i j m n e
rank_one (branch k a b ∷ ps) i j m n e = rank_one ps i j m n e

pub rank_below : (ps : List Ty) (i : ℕ) → has ps (variable i) ≡ true → rank ps i < variables ps
rank_below [] i e = absurd (both_ways false refl e)
rank_below (variable j ∷ ps) i e = go (rank_below ps i) (eqb j i) e
  where
    go : (has ps (variable i) ≡ true → rank ps i < variables ps) → (b : Bool) → (b || has ps (variable i)) ≡ true → cond b 0 (suc (rank ps i)) < suc (variables ps)
    go rest true m = omega arith
    go rest false m = omega (arith, rest m)
rank_below (base c ∷ ps) i e = rank_below ps i e
rank_below (branch k a b ∷ ps) i e = rank_below ps i e

pub variables_le : (ps : List Ty) → variables ps ≤ length ps
variables_le [] = omega arith
variables_le (variable i ∷ ps) = omega (arith, variables_le ps)
variables_le (base c ∷ ps) = omega (arith, variables_le ps)
variables_le (branch k a b ∷ ps) = omega (arith, variables_le ps)

pub variables_var : (ps : List Ty) (i : ℕ) → variables (ps ++ (variable i ∷ [])) ≡ variables ps + 1
variables_var [] i = refl
variables_var (variable j ∷ ps) i = omega (arith, variables_var ps i)
variables_var (base c ∷ ps) i = variables_var ps i
variables_var (branch k a b ∷ ps) i = variables_var ps i

abbrev pub Whole : Ty → Type 0
Whole (variable i) = ⊥
Whole (base c) = Unit {0}
Whole (branch k a b) = Unit {0}

pub variables_whole : (ps : List Ty) (t : Ty) → Whole t → variables (ps ++ (t ∷ [])) ≡ variables ps
variables_whole [] (variable i) w = absurd w
variables_whole [] (base c) w = refl
variables_whole [] (branch k a b) w = refl
variables_whole (variable j ∷ ps) t w = ap suc (variables_whole ps t w)
variables_whole (base c ∷ ps) t w = variables_whole ps t w
variables_whole (branch k a b ∷ ps) t w = variables_whole ps t w

-- ---- built lists

ready_left : (ps qs : List Ty) (t : Ty) → Ready ps t → Ready (ps ++ qs) t
ready_left ps qs (variable i) r = tt
ready_left ps qs (base c) r = tt
ready_left ps qs (branch k a b) r = (r.0, has_left ps qs a r.1, has_left ps qs b r.2)

pub ready : {ps : List Ty} → Built ps → (t : Ty) → has ps t ≡ true → Ready ps t
ready none t e = absurd (both_ways false refl e)
ready (more {ps} u b fresh r) t e =
    ready_left ps (u ∷ []) t (⊎_elim (λ (m : has ps t ≡ true). ready b t m) (λ (q : u ≡ t). subst (Ready ps) q r) (has_push ps u t e))

-- what the record of t says is known: its number or the places of its parts
abbrev pub Known : List Ty → Ty → Type 0
Known ps (variable i) = has ps (variable i) ≡ true
Known ps (base c) = Unit {0}
Known ps (branch k a b) = (2 ≤ k) × (has ps a ≡ true) × (has ps b ≡ true)

pub known : {ps : List Ty} → Built ps → (t : Ty) → has ps t ≡ true → Known ps t
known b (variable i) e = e
known b (base c) e = tt
known b (branch k x y) e = ready b (branch k x y) e

pub record_left : (ps qs : List Ty) (t : Ty) → Known ps t → record_of (ps ++ qs) t ≡ record_of ps t
record_left ps qs (variable i) k = ap (λ (n : ℕ). node 0 n 0) (rank_left ps qs i k)
record_left ps qs (base c) k = refl
record_left ps qs (branch h a b) k = ap₂ (node h) (place_left ps qs a k.1) (place_left ps qs b k.2)

abbrev kind_of : TypeNode → ℕ
kind_of n = n.kind

abbrev left_of : TypeNode → ℕ
left_of n = n.left

abbrev right_of : TypeNode → ℕ
right_of n = n.right

pub record_one : (ps : List Ty) (t u : Ty) → Known ps t → Known ps u → record_of ps t ≡ record_of ps u → t ≡ u
record_one ps (variable i) (variable j) k l e = ap variable (rank_one ps i j k l (ap left_of e))
record_one ps (variable i) (base d) k l e = absurd (omega (arith, ap kind_of e))
record_one ps (variable i) (branch h x y) k l e = absurd (omega (arith, ap kind_of e, l.0))
record_one ps (base c) (variable j) k l e = absurd (omega (arith, ap kind_of e))
record_one ps (base c) (base d) k l e = ap base (ap left_of e)
record_one ps (base c) (branch h x y) k l e = absurd (omega (arith, ap kind_of e, l.0))
record_one ps (branch h a b) (variable j) k l e = absurd (omega (arith, ap kind_of e, k.0))
record_one ps (branch h a b) (base d) k l e = absurd (omega (arith, ap kind_of e, k.0))
record_one ps (branch h a b) (branch j x y) k l e =
    ap (λ (i : ℕ). branch i a b) (ap kind_of e) ∙ ap₂ (branch j) (place_one ps a x k.1 l.1 (ap left_of e)) (place_one ps b y k.2 l.2 (ap right_of e))

pub map_same : (f g : Ty → TypeNode) (xs : List Ty) → ((x : Ty) → has xs x ≡ true → f x ≡ g x) → map f xs ≡ map g xs
map_same f g [] h = refl
map_same f g (x ∷ xs) h =
    ap₂ (λ (y : TypeNode) (ys : List TypeNode). y ∷ ys) (h x (or_left (same x x) (has xs x) (same_refl x))) (map_same f g xs (λ y m. h y (or_right (same x y) (has xs y) m)))

pub records_push : {ps : List Ty} → Built ps → (t : Ty) → records (ps ++ (t ∷ [])) ≡ records ps ++ (record_of (ps ++ (t ∷ [])) t ∷ [])
records_push {ps} b t =
    map_push (record_of (ps ++ (t ∷ []))) ps t ∙ ap (λ (rs : List TypeNode). rs ++ (record_of (ps ++ (t ∷ [])) t ∷ [])) (map_same (record_of (ps ++ (t ∷ []))) (record_of ps) ps (λ x m. record_left ps (t ∷ []) x (known b x m)))

-- each type stands once
pub place_own : {ps : List Ty} → Built ps → (k : ℕ) (d : Ty) → k < length ps → place ps (get_or ps k d) ≡ k
place_own none k d h = absurd (omega arith)
place_own (more {ps} t b fresh r) k d h =
    ⊎_elim
    (λ (l : k < length ps). rw (get_or_append_left ps (t ∷ []) d k l) (place_left ps (t ∷ []) (get_or ps k d) (has_at ps k d l) ∙ place_own b k d l))
    (λ (g : length ps ≤ k). let e : length ps ≡ k = omega (arith, length_push ps t) in rw (get_or_push ps t d k e) (place_new ps t fresh ∙ e))
    (cases_lt k (length ps))

pub place_below : {ps : List Ty} → Built ps → (h : ℕ) (x y : Ty) → has ps (branch h x y) ≡ true → (place ps x < place ps (branch h x y)) × (place ps y < place ps (branch h x y))
place_below none h x y e = absurd (both_ways false refl e)
place_below (more {ps} t b fresh r) h x y e =
    let u = branch h x y in
    ⊎_elim
    (λ (m : has ps u ≡ true).
    let k = ready b u m in
    let i = place_below b h x y m in
    let p = place_left ps (t ∷ []) u m in
    let q = place_left ps (t ∷ []) x k.1 in
    let s = place_left ps (t ∷ []) y k.2 in
    (omega arith, omega arith))
    (λ (q : t ≡ u).
    let k : Ready ps u = subst (Ready ps) q r in
    let n : place (ps ++ (t ∷ [])) u ≡ length ps = subst (λ (w : Ty). place (ps ++ (t ∷ [])) w ≡ length ps) q (place_new ps t fresh) in
    let p = place_left ps (t ∷ []) x k.1 in
    let s = place_left ps (t ∷ []) y k.2 in
    let g = (place_at ps x x k.1).0 in
    let l = (place_at ps y y k.2).0 in
    (omega arith, omega arith))
    (has_push ps t u e)

-- ---- what adding keeps

pub firsts_append : (ps xs ys : List Ty) → firsts ps (xs ++ ys) ≡ firsts (firsts ps xs) ys
firsts_append ps [] ys = refl
firsts_append ps (x ∷ xs) ys = firsts_append (add ps x) xs ys

-- the walk: the left part, the right part, the whole
pub firsts_branch : (ps : List Ty) (k : ℕ) (a b : Ty) → firsts ps (postorder (branch k a b)) ≡ add (firsts (firsts ps (postorder a)) (postorder b)) (branch k a b)
firsts_branch ps k a b = firsts_append ps (postorder a) (postorder b ++ (branch k a b ∷ [])) ∙ firsts_append (firsts ps (postorder a)) (postorder b) (branch k a b ∷ [])

pub add_old : (ps : List Ty) (t : Ty) → has ps t ≡ true → add ps t ≡ ps
add_old ps t m = cond-true (has ps t) ps (ps ++ (t ∷ [])) m

pub add_new : (ps : List Ty) (t : Ty) → has ps t ≡ false → add ps t ≡ ps ++ (t ∷ [])
add_new ps t m = cond-false (has ps t) ps (ps ++ (t ∷ [])) m

-- a property of add, by its two cases
pub by_add : (P : List Ty → Type 0) (ps : List Ty) (t : Ty) → (has ps t ≡ true → P ps) → (has ps t ≡ false → P (ps ++ (t ∷ []))) → P (add ps t)
by_add P ps t old new =
    ⊎_elim (λ (m : has ps t ≡ true). subst P (sym (add_old ps t m)) (old m)) (λ (m : has ps t ≡ false). subst P (sym (add_new ps t m)) (new m)) (cases_Bool (has ps t))

pub add_built : {ps : List Ty} → Built ps → (t : Ty) → Ready ps t → Built (add ps t)
add_built {ps} b t r = by_add Built ps t (λ m. b) (λ m. more t b m r)

pub add_has : (ps : List Ty) (t : Ty) → has (add ps t) t ≡ true
add_has ps t = by_add (λ qs. has qs t ≡ true) ps t (λ m. m) (λ m. has_last ps t)

pub add_grows : (ps : List Ty) (t : Ty) → (zs : List Ty) × (add ps t ≡ ps ++ zs)
add_grows ps t = by_add (λ qs. (zs : List Ty) × (qs ≡ ps ++ zs)) ps t (λ m. ([], sym (append-nil ps))) (λ m. (t ∷ [], refl))

pub firsts_grows : (ps xs : List Ty) → (zs : List Ty) × (firsts ps xs ≡ ps ++ zs)
firsts_grows ps [] = ([], sym (append-nil ps))
firsts_grows ps (x ∷ xs) =
    let p = add_grows ps x in
    let q = firsts_grows (add ps x) xs in
    (p.0 ++ q.0, q.1 ∙ ap (λ (l : List Ty). l ++ q.0) p.1 ∙ append_assoc ps p.0 q.0)

pub firsts_has : (ps xs : List Ty) (t : Ty) → has ps t ≡ true → has (firsts ps xs) t ≡ true
firsts_has ps xs t m = let g = firsts_grows ps xs in subst (λ (l : List Ty). has l t ≡ true) (sym g.1) (has_left ps g.0 t m)

pub firsts_place : (ps xs : List Ty) (t : Ty) → has ps t ≡ true → place (firsts ps xs) t ≡ place ps t
firsts_place ps xs t m = let g = firsts_grows ps xs in ap (λ (l : List Ty). place l t) g.1 ∙ place_left ps g.0 t m

pub visit_built : (t : Ty) {ps : List Ty} → Proper t → Built ps → Built (firsts ps (postorder t)) × (has (firsts ps (postorder t)) t ≡ true)
visit_built (variable i) {ps} w b = (add_built b (variable i) tt, add_has ps (variable i))
visit_built (base c) {ps} w b = (add_built b (base c) tt, add_has ps (base c))
visit_built (branch k x y) {ps} w b =
    let p = visit_built x w.1 b in
    let q = visit_built y w.2 p.0 in
    let qs = firsts (firsts ps (postorder x)) (postorder y) in
    let e = sym (firsts_branch ps k x y) in
    (subst Built e (add_built q.0 (branch k x y) (w.0, firsts_has (firsts ps (postorder x)) (postorder y) x p.1, q.1)), subst (λ (l : List Ty). has l (branch k x y) ≡ true) e (add_has qs (branch k x y)))

-- a tree that is among the parts changes nothing
pub visit_again : {ps : List Ty} → Built ps → (t : Ty) → has ps t ≡ true → firsts ps (postorder t) ≡ ps
visit_again {ps} b (variable i) m = add_old ps (variable i) m
visit_again {ps} b (base c) m = add_old ps (base c) m
visit_again {ps} b (branch k x y) m =
    let t = branch k x y in
    let r = ready b t m in
    let p = visit_again b x r.1 in
    let q = visit_again b y r.2 in
    firsts_branch ps k x y ∙ ap (λ (l : List Ty). add (firsts l (postorder y)) t) p ∙ ap (λ (l : List Ty). add l t) q ∙ add_old ps t m

pub parts_built : (ts : List Ty) {ps : List Ty} → AllByRecursion Proper ts → Built ps → Built (firsts ps (postorders ts))
parts_built [] a b = b
parts_built (t ∷ ts) {ps} a b = subst Built (sym (firsts_append ps (postorder t) (postorders ts))) (parts_built ts a.1 (visit_built t a.0 b).0)
