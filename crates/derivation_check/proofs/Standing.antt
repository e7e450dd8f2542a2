-- Where the nodes of a term stand in a list in prefix order, and which abstractions are around them.
use Rattle.std.proofs.Common.{◌≡◌, ℕ, zero, suc, ◌+◌, ◌-◌, ◌<◌, ◌≤◌, Bool, true, false, cond, ◌&&◌, ltb, ◌≢◌, List, [], ◌∷◌, ◌++◌, length, get_or, drop, Some, Option, sym, refl, ap, ◌∙◌, subst, ap₂, ⊎_elim, arith, length-append}
use Rattle.std.specs.List.{slice_get}
use Rattle.std.proofs.lemmas.Bool.Decides.{nat_tests}
use Rattle.std.proofs.lemmas.List.{drop_at, append_assoc, drop_more, drop-drop, length-drop}
use Rattle.std.proofs.lemmas.Bool.{cases_eq, lt-ltb, le-ltb, and_left, and_right, and_from}
use Rattle.term.specs.Terms.{Term, variable, abstraction, application, primitive, reference, prefix, zero_node}
use Rattle.term.specs.Symbols.{symbol_of}
use Rattle.term.specs.declared.TermNode.{TermNode}
use Rattle.derivation_check.specs.Prefixes.{arity, is_abstraction, span, end, opens, binder}
use Rattle.derivation_check.proofs.Spans.{span_add}

pub some_nodes : (u : Term) → 0 < length (prefix u)
some_nodes (variable n) = omega arith
some_nodes (abstraction b) = omega arith
some_nodes (application f x) = omega arith
some_nodes (primitive k) = omega arith
some_nodes (reference n) = omega arith

-- a leaf takes one node
one_node : (n : ℕ) (rest : List TermNode) → suc (span (0 + n) rest) ≡ 1 + span n rest
one_node n rest =
    let e : 0 + n ≡ n = omega arith in
    let f = ap (λ (m : ℕ). span m rest) e in
    omega (arith, f)

-- a term takes as many nodes as it has
span_prefix : (u : Term) (n : ℕ) (rest : List TermNode) → span (suc n) (prefix u ++ rest) ≡ length (prefix u) + span n rest
span_prefix (variable k) n rest = one_node n rest
span_prefix (primitive k) n rest = one_node n rest
span_prefix (reference k) n rest = one_node n rest
span_prefix (abstraction b) n rest =
    let e : 1 + n ≡ suc n = omega arith in
    let f = ap (λ (m : ℕ). span m (prefix b ++ rest)) e ∙ span_prefix b n rest in
    omega (arith, f)
span_prefix (application a b) n rest =
    let e : 2 + n ≡ suc (suc n) = omega arith in
    let f = ap₂ span e (append_assoc (prefix a) (prefix b) rest) ∙ span_prefix a (suc n) (prefix b ++ rest) in
    let g = span_prefix b n rest in
    omega (arith, f, g, length-append (prefix a) (prefix b))

-- what begins inside ends inside
nest : (xs : List TermNode) (n i : ℕ) → i < span n xs → i + span 1 (drop i xs) ≤ span n xs
nest [] zero i h = absurd (omega arith)
nest [] (suc n) i h = absurd (omega arith)
nest (x ∷ xs) zero i h = absurd (omega arith)
nest (x ∷ xs) (suc n) zero h =
    let e : 1 + n ≡ suc n = omega arith in
    let f = span_add (x ∷ xs) 1 n in
    let g = ap (λ (m : ℕ). span m (x ∷ xs)) e in
    omega (arith, f, g)
nest (x ∷ xs) (suc n) (suc i) h =
    let r = nest xs (arity (symbol_of x) + n) i (omega (arith, h)) in
    omega (arith, r)

same_ltb : (a b c : ℕ) → (a < c → b < c) → (b < c → a < c) → ltb a c ≡ ltb b c
same_ltb a b c f g = grind (arith, nat_tests, f, g)

-- the node x is at i, and xs are behind it
pub record Here (ts : List TermNode) (i : ℕ) (x : TermNode) (xs : List TermNode) : Type 0 where
  pub inside : i < length ts
  pub is : get_or ts i zero_node ≡ x
  pub behind : drop (i + 1) ts ≡ xs

module _ (ts : List TermNode) where
  -- the nodes of u stand at i, and rest is behind them
  abbrev pub At : Term → ℕ → List TermNode → Type 0
  At u i rest = drop i ts ≡ prefix u ++ rest

  -- the abstractions around i are at bs, the innermost first
  abbrev pub Scope : ℕ → List ℕ → Type 0
  Scope i bs = (n : ℕ) → binder ts i i n ≡ slice_get bs n

  pub here : (i : ℕ) (x : TermNode) (xs : List TermNode) → drop i ts ≡ x ∷ xs → Here ts i x xs
  here i x xs e =
      let f = ap (λ (ys : List TermNode). length ys) e in
      let h : i < length ts = omega (arith, f, length-drop i ts) in
      let d = sym (drop_more ts i zero_node h) ∙ e in
      record { inside = h; is = cc; behind = cc }

  pub at_inside : (u : Term) (i : ℕ) (rest : List TermNode) → At u i rest → i < length ts
  at_inside u i rest e =
      let f = ap (λ (ys : List TermNode). length ys) e in
      omega (arith, f, length-drop i ts, length-append (prefix u) rest, some_nodes u)

  pub end_term : (u : Term) (i : ℕ) (rest : List TermNode) → At u i rest → end ts i ≡ i + length (prefix u)
  end_term u i rest e =
      let f = ap (span 1) e ∙ span_prefix u 0 rest in
      omega (arith, f)

  nest_end : (b i : ℕ) → b ≤ i → i < end ts b → end ts i ≤ end ts b
  nest_end b i h l =
      let r = nest (drop b ts) 1 (i - b) (omega (arith, l, h)) in
      let e : b + (i - b) ≡ i = omega arith in
      let d = ap (span 1) (drop-drop (i - b) b ts ∙ ap (λ (k : ℕ). drop k ts) e) in
      omega (arith, r, d, h)

  same_binder : (i j c n : ℕ) → ((b : ℕ) → b < c → opens ts i b ≡ opens ts j b) → binder ts i c n ≡ binder ts j c n
  same_binder i j zero n f = refl
  same_binder i j (suc c) zero f = ap₂ (λ (t : Bool) (o : Option ℕ). cond t (Some c) o) (f c (omega arith)) (same_binder i j c zero (λ b h. f b (omega arith)))
  same_binder i j (suc c) (suc n) f =
      ap (λ (t : Bool). cond t (binder ts i c n) (binder ts i c (suc n))) (f c (omega arith))
      ∙ ap₂ (cond (opens ts j c)) (same_binder i j c n (λ b h. f b (omega arith))) (same_binder i j c (suc n) (λ b h. f b (omega arith)))

  -- an abstraction before i is around j exactly when it is around i, where j stands in the term at i
  around : (i j : ℕ) → i ≤ j → j < end ts i → (b : ℕ) → b < i → opens ts j b ≡ opens ts i b
  around i j h l b lt =
      ap (λ (t : Bool). is_abstraction (symbol_of (get_or ts b zero_node)) && t)
      (same_ltb j i (end ts b) (λ x. omega (arith, x, h)) (λ x. let r = nest_end b i (omega arith) x in omega (arith, r, l)))

  -- abstractions that are not around j are passed over
  pass_over : (j i c n : ℕ) → ((b : ℕ) → i ≤ b → b < i + c → opens ts j b ≡ false) → binder ts j (i + c) n ≡ binder ts j i n
  pass_over j i zero n f = let e : i + 0 ≡ i = omega arith in ap (λ (k : ℕ). binder ts j k n) e
  pass_over j i (suc c) n f =
      let e : i + suc c ≡ suc (i + c) = omega arith in
      ap (λ (k : ℕ). binder ts j k n) e ∙ skip n (f (i + c) (omega arith) (omega arith)) ∙ pass_over j i c n (λ b h l. f b h (omega arith))
    where
      skip : (n : ℕ) → opens ts j (i + c) ≡ false → binder ts j (suc (i + c)) n ≡ binder ts j (i + c) n
      skip zero o = ap (λ (t : Bool). cond t (Some (i + c)) (binder ts j (i + c) zero)) o
      skip (suc m) o = ap (λ (t : Bool). cond t (binder ts j (i + c) m) (binder ts j (i + c) (suc m))) o

  scope_same : (i c : ℕ) (bs : List ℕ) → i + c < end ts i → ((b : ℕ) → i ≤ b → b < i + c → opens ts (i + c) b ≡ false) → Scope i bs → Scope (i + c) bs
  scope_same i c bs l f s n = pass_over (i + c) i c n f ∙ same_binder (i + c) i i n (around i (i + c) (omega arith) l) ∙ s n

  pub scope_more : (i : ℕ) (bs : List ℕ) → i + 1 < end ts i → is_abstraction (symbol_of (get_or ts i zero_node)) ≡ true → Scope i bs → Scope (i + 1) (i ∷ bs)
  scope_more i bs l k s n = ap (λ (j : ℕ). binder ts (i + 1) j n) e ∙ go n
    where
      e : i + 1 ≡ suc i
      e = omega arith

      o : opens ts (i + 1) i ≡ true
      o = and_from (is_abstraction (symbol_of (get_or ts i zero_node))) (ltb (i + 1) (end ts i)) k (lt-ltb (i + 1) (end ts i) l)

      go : (n : ℕ) → binder ts (i + 1) (suc i) n ≡ slice_get (i ∷ bs) n
      go zero = ap (λ (t : Bool). cond t (Some i) (binder ts (i + 1) i zero)) o
      go (suc m) = ap (λ (t : Bool). cond t (binder ts (i + 1) i m) (binder ts (i + 1) i (suc m))) o ∙ same_binder (i + 1) i i m (around i (i + 1) (omega arith) l) ∙ s m

  not_abstraction : (j b : ℕ) → is_abstraction (symbol_of (get_or ts b zero_node)) ≡ false → opens ts j b ≡ false
  not_abstraction j b = and_left (is_abstraction (symbol_of (get_or ts b zero_node))) (ltb j (end ts b))

  ended : (j b : ℕ) → end ts b ≤ j → opens ts j b ≡ false
  ended j b h = and_right (is_abstraction (symbol_of (get_or ts b zero_node))) (ltb j (end ts b)) (le-ltb j (end ts b) h)

-- where the parts of an application at i stand, with the same abstractions around them
pub record Parts (ts : List TermNode) (f x : Term) (i : ℕ) (rest : List TermNode) (bs : List ℕ) : Type 0 where
  pub function : At ts f (i + 1) (prefix x ++ rest)
  pub function_scope : Scope ts (i + 1) bs
  pub argument : At ts x (i + 1 + length (prefix f)) rest
  pub argument_scope : Scope ts (i + 1 + length (prefix f)) bs
  pub between : i + 1 + length (prefix f) ≡ end ts (i + 1)

pub parts_of : (ts : List TermNode) (f x : Term) (i : ℕ) (rest : List TermNode) (bs : List ℕ) → At ts (application f x) i rest → Scope ts i bs → Parts ts f x i rest bs
parts_of ts f x i rest bs at sc =
    let h = here ts i _ _ at in
    let kind = ap (λ (y : TermNode). is_abstraction (symbol_of y)) h.is in
    let size = length-append (prefix f) (prefix x) in
    let whole = end_term ts (application f x) i rest at in
    let atf : At ts f (i + 1) (prefix x ++ rest) = h.behind ∙ append_assoc (prefix f) (prefix x) rest in
    let mid = end_term ts f (i + 1) (prefix x ++ rest) atf in
    let c = 1 + length (prefix f) in
    let place : i + c ≡ i + 1 + length (prefix f) = omega arith in
    let far : At ts x (i + 1 + length (prefix f)) rest = sym (drop-drop (length (prefix f)) (i + 1) ts) ∙ ap (drop (length (prefix f))) atf ∙ drop_at (prefix f) (prefix x ++ rest) (length (prefix f)) refl in
    let lf : i + 1 < end ts i = omega (arith, whole, size, some_nodes f) in
    let lx : i + c < end ts i = omega (arith, whole, size, some_nodes x) in
    let scx : Scope ts (i + c) bs = scope_same ts i c bs lx
    (λ b a d.
    ⊎_elim
    (λ (q : b ≡ i). subst (λ (y : ℕ). opens ts (i + c) y ≡ false) (sym q) (not_abstraction ts (i + c) i kind))
    (λ (q : b ≢ i). ended ts (i + c) b (let r = nest_end ts (i + 1) b (omega arith) (omega (arith, mid)) in omega (arith, r, mid)))
    (cases_eq b i)) sc in
    record {
      function = atf;
      function_scope = scope_same ts i 1 bs lf (λ b a d. (let q : i ≡ b = omega arith in subst (λ (y : ℕ). opens ts (i + 1) y ≡ false) q (not_abstraction ts (i + 1) i kind))) sc;
      argument = far;
      argument_scope = subst (λ (y : ℕ). Scope ts y bs) place scx;
      between = sym mid;
    }
