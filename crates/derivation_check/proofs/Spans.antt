-- Where the subterms of nodes in prefix order end, and which abstractions are around a node.
use Rattle.std.proofs.Common.{◌≡◌, ℕ, zero, suc, ◌+◌, ◌-◌, ◌<◌, ◌≤◌, Bool, true, false, cond, ◌≢◌, ◌⊎◌, List, [], ◌∷◌, length, get_or, take, drop, set, Some, None, Option, add-zero, sym, refl, ap, ◌∙◌, subst, ap₂, inl, inr, ⊎_elim, arith}
use Rattle.std.proofs.lemmas.List.{take_all, drop_all, drop_more, length-drop, length-set, get_or-set_same, get_or-set_other}
use Rattle.std.proofs.lemmas.Bool.{cases_eq}
use Rattle.term.specs.Terms.{zero_node}
use Rattle.term.specs.Symbols.{symbol_of}
use Rattle.term.specs.declared.TermNode.{TermNode}
use Rattle.term.specs.declared.Symbol.{Symbol}
use Rattle.term.specs.declared.Symbol.TheVariants.{Variable, Abstraction, Application, Primitive, Reference}
use Rattle.derivation_check.specs.Prefixes.{arity, span, end, opens, binder}

pub span_nil : (n : ℕ) → span n [] ≡ 0
span_nil zero = refl
span_nil (suc n) = refl

pub span_fits : (n : ℕ) (ts : List TermNode) → span n ts ≤ length ts
span_fits zero ts = omega arith
span_fits (suc n) [] = omega arith
span_fits (suc n) (t ∷ ts) = let h = span_fits (arity (symbol_of t) + n) ts in omega (arith, h)

-- m terms and n terms
pub span_add : (ts : List TermNode) (m n : ℕ) → span (m + n) ts ≡ span m ts + span n (drop (span m ts) ts)
span_add [] m n = span_nil (m + n) ∙ sym (ap₂ ◌+◌ (span_nil m) (ap (λ (xs : List TermNode). span n xs) (drop_all (span m []) [] (omega arith)) ∙ span_nil n))
span_add (t ∷ ts) zero n =
    let e : 0 + n ≡ n = omega arith in
    let z : span n (t ∷ ts) ≡ 0 + span n (t ∷ ts) = omega arith in
    ap (λ (k : ℕ). span k (t ∷ ts)) e ∙ z
span_add (t ∷ ts) (suc m) n =
    let e : arity (symbol_of t) + (m + n) ≡ (arity (symbol_of t) + m) + n = omega arith in
    let f : suc m + n ≡ suc (m + n) = omega arith in
    let g = ap (λ (k : ℕ). span k ts) e ∙ span_add ts (arity (symbol_of t) + m) n in
    ap (λ (k : ℕ). span k (t ∷ ts)) f ∙ omega (arith, g)

-- one term more
pub span_more : (ts : List TermNode) (n : ℕ) → end ts (span n ts) ≡ span (n + 1) ts
span_more ts n = sym (span_add ts n 1)

pub span_at : (ts : List TermNode) (i n : ℕ) → i < length ts → span (suc n) (drop i ts) ≡ suc (span (arity (symbol_of (get_or ts i zero_node)) + n) (drop (i + 1) ts))
span_at ts i n h = ap (span (suc n)) (drop_more ts i zero_node h)

arity_few : (s : Option Symbol) → arity s ≤ 2
arity_few None = omega arith
arity_few (Some (Variable n)) = omega arith
arity_few (Some Abstraction) = omega arith
arity_few (Some Application) = omega arith
arity_few (Some (Primitive n)) = omega arith
arity_few (Some (Reference n)) = omega arith

-- n terms are still to come after the first j nodes of a walk
pub record Walked (ts : List TermNode) (j n : ℕ) : Type 0 where
  pub few : n ≤ j + 1
  pub rest : j + span n (drop j ts) ≡ span 1 ts

module _ (ts : List TermNode) (j n : ℕ) (w : Walked ts j n) where
  pub walked_more : (m k : ℕ) → j < length ts → m + 1 ≡ n → arity (symbol_of (get_or ts j zero_node)) ≡ k → Walked ts (j + 1) (m + k)
  walked_more m k h e a =
      let few : k ≤ 2 = subst (λ (x : ℕ). x ≤ 2) a (arity_few (symbol_of (get_or ts j zero_node))) in
      let n-is : n ≡ suc m = omega arith in
      let order : arity (symbol_of (get_or ts j zero_node)) + m ≡ m + k = omega (arith, a) in
      let s = ap (λ (x : ℕ). span x (drop j ts)) n-is ∙ span_at ts j m h ∙ ap (λ (x : ℕ). suc (span x (drop (j + 1) ts))) order in
      record { few = omega (arith, w.few); rest = omega (arith, s, w.rest) }

  pub walked_all : (n ≡ 0) ⊎ (length ts ≤ j) → j ≡ span 1 ts
  walked_all (inl z) = let s = ap (λ (x : ℕ). span x (drop j ts)) z in omega (arith, s, w.rest)
  walked_all (inr h) = let s = ap (span n) (drop_all j ts h) ∙ span_nil n in omega (arith, s, w.rest)

-- the sizes are noted from i on
pub record Noted (ts : List TermNode) (ss : List ℕ) (i : ℕ) : Type 0 where
  pub short : length ss ≤ length ts
  pub inside : i ≤ length ss
  pub each : (k : ℕ) → i ≤ k → k < length ss → get_or ss k 0 ≡ span 1 (drop k ts)

pub noted_more : (ts : List TermNode) (ss : List ℕ) (i j p r : ℕ) → 0 < i → i - 1 ≡ j → Noted ts ss i → p ≡ arity (symbol_of (get_or ts j zero_node)) → r ≡ span p (take (length ts - (j + 1)) (drop (j + 1) ts)) → Noted ts (set ss j (1 + r)) j
noted_more ts ss i j p r some below noted parts is =
    let h : j < length ts = omega (arith, noted.short, noted.inside) in
    let rest : take (length ts - (j + 1)) (drop (j + 1) ts) ≡ drop (j + 1) ts = take_all (length ts - (j + 1)) (drop (j + 1) ts) (omega (arith, length-drop (j + 1) ts)) in
    let size : r ≡ span (arity (symbol_of (get_or ts j zero_node))) (drop (j + 1) ts) = is ∙ ap₂ span parts rest in
    let whole : 1 + r ≡ span 1 (drop j ts) = omega (arith, size, span_at ts j 0 h, ap (λ (x : ℕ). span x (drop (j + 1) ts)) (add-zero (arity (symbol_of (get_or ts j zero_node))))) in
    let long = length-set ss j (1 + r) in
    record {
      short = omega (arith, noted.short, long);
      inside = omega (arith, noted.inside, long);
      each = λ k a b.
          ⊎_elim
          (λ (z : k ≡ j). subst (λ (x : ℕ). get_or (set ss j (1 + r)) x 0 ≡ span 1 (drop x ts)) (sym z) (get_or-set_same ss j (1 + r) 0 (omega (arith, noted.inside)) ∙ whole))
          (λ (n : k ≢ j). get_or-set_other ss j k (1 + r) 0 n ∙ noted.each k (omega arith) (omega (arith, long)))
          (cases_eq k j);
    }

module _ (ts : List TermNode) (i : ℕ) where
  pub binder_below : (b n c : ℕ) → binder ts i b n ≡ Some c → c < b
  binder_below zero n c e = cc
  binder_below (suc b) zero c e = go (binder_below b zero c) (opens ts i b) e
    where
      go : (binder ts i b zero ≡ Some c → c < b) → (t : Bool) → cond t (Some b) (binder ts i b zero) ≡ Some c → c < suc b
      go rest true f = let q : b ≡ c = cc in omega arith
      go rest false f = omega (arith, rest f)
  binder_below (suc b) (suc n) c e = go (binder_below b n c) (binder_below b (suc n) c) (opens ts i b) e
    where
      go : (binder ts i b n ≡ Some c → c < b) → (binder ts i b (suc n) ≡ Some c → c < b) → (t : Bool) → cond t (binder ts i b n) (binder ts i b (suc n)) ≡ Some c → c < suc b
      go here rest true f = omega (arith, here f)
      go here rest false f = omega (arith, rest f)

-- the binder of a variable has a place, where every node has one
pub binder_inside : (ts : List TermNode) (ps : List ℕ) (i n b : ℕ) (o : Option ℕ) → o ≡ binder ts i i n → o ≡ Some b → i < length ts → length ps ≡ length ts → b < length ps
binder_inside ts ps i n b o is found h count =
    let below = binder_below ts i i n b (sym is ∙ found) in
    omega (arith, below)
