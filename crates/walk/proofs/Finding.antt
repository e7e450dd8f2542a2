-- The search for a key among the parts listed so far.
use Rattle.std.proofs.Common.{◌≡◌, ℕ, ◌+◌, ◌-◌, ◌<◌, ◌≤◌, ◌≢◌, List, length, get_or, sym, ap, ◌∙◌, subst, ap₂, ⊎_elim, arith}
use Rattle.std.proofs.Common.{Option, Some, None, Bool, true, false, [], ◌∷◌, IfSome, MatchOption, refl}
use Rattle.std.specs.Fn.{CalledAt}
use Rattle.std.specs.Iterator.{Yields, CallableAtEachTurn, FindsItem}
use Rattle.std.specs.List.{FoldsTo}
use denote.Param.Members.{Mut}
use denote.Ref.{Bor}
use Rattle.std.proofs.lemmas.Bool.{cases_lt, cases_eq}
use Rattle.types.specs.declared.TypeNode.{TypeNode}
use Rattle.types.specs.Lists.{node}
use Rattle.walk.specs.declared.places.Chain.{Chain}
use Rattle.walk.specs.Table.{Table, bucket, Falls, Goes}

-- of the first n places, those from at on are searched for x, and the next is at - 1
pub record Seek (key : ℕ → TypeNode) (m n : ℕ) (x : TypeNode) (at : ℕ) : Type 0 where
  pub low : at ≤ n
  pub here : (q : ℕ) → at ≡ q + 1 → bucket m (key q) ≡ bucket m x
  pub passed : (k : ℕ) → at ≤ k → k < n → key k ≡ x → ⊥

module _ (key : ℕ → TypeNode) (n : ℕ) (heads nexts : List ℕ) (x : TypeNode) (t : Table (λ p. bucket (length heads) (key p)) n heads nexts) where
  pub seek_start : (h : ℕ) → h ≡ bucket (length heads) x → h < length heads → Seek key (length heads) n x (get_or heads h 0)
  seek_start h e lt =
      let l = t.starts h lt in
      record { low = l.low; here = λ q d. l.here q d ∙ e; passed = λ k g i d. l.between k g i (ap (bucket (length heads)) d ∙ sym e) }

  pub seek_next : (at : ℕ) → 0 < at → Seek key (length heads) n x at → (key (at - 1) ≡ x → ⊥) → Seek key (length heads) n x (get_or nexts (at - 1) 0)
  seek_next at some k not =
      let p = at - 1 in
      let l = t.goes p (omega (arith, k.low)) in
      let e = k.here p (omega arith) in
      record {
        low = omega (arith, l.low, k.low);
        here = λ q d. l.here q d ∙ e;
        passed = λ j g i d.
            ⊎_elim
            (λ (lt : j < p). l.between j g lt (ap (bucket (length heads)) d ∙ sym e))
            (λ (ge : p ≤ j).
            ⊎_elim
            (λ (q : j ≡ p). not (subst (λ (i : ℕ). key i ≡ x) q d))
            (λ (ne : j ≢ p). k.passed j (omega arith) i d)
            (cases_eq j p))
            (cases_lt j p);
      }

-- ---- a chain, run by a call of `find`

abbrev pub steps : Chain → Option ℕ → Chain → Type 0
steps s r t = Goes s.nexts.now s.at r t.nexts.now t.at

falls_next : (xs : List ℕ) (p : ℕ) → Falls xs (p + 1) → Falls xs (get_or xs p 0)
falls_next xs p f =
    let d = f.down p (omega arith) in
    record { few = omega (arith, f.few); within = omega (arith, f.within); down = λ q l. f.down q (omega arith) }

-- the chain of a number leads down
pub chain_falls : (number : ℕ → ℕ) (n : ℕ) (heads nexts : List ℕ) → Table number n heads nexts → n ≤ length nexts → n ≤ 65536 → (h : ℕ) → h < length heads → (s : Chain) → s.nexts.now ≡ nexts → s.at ≡ get_or heads h 0 → Falls s.nexts.now s.at
chain_falls number n heads nexts t room few h lt s e d =
    let low = (t.starts h lt).low in
    subst (λ (l : List ℕ). Falls l s.at) (sym e) (record { few = omega (arith, d); within = omega (arith, d); down = λ p l. (t.goes p (omega (arith, d))).low })

-- what is left of a chain is below where it began
chain_within : (xs : List ℕ) (s t : Chain) → Falls s.nexts.now s.at → Yields steps s xs t → t.at ≤ s.at
chain_within [] s t f y = omega (arith, ap (λ (k : Chain). k.at) y)
chain_within (x ∷ xs) s t f y =
    let e = y.1 in
    let g : Falls s.nexts.now (get_or s.nexts.now x 0) = falls_next s.nexts.now x (subst (Falls s.nexts.now) e.1.0 f) in
    let h : Falls y.0.nexts.now y.0.at = subst (λ (l : List ℕ). Falls l y.0.at) (sym e.0) (subst (Falls s.nexts.now) (sym e.1.1) g) in
    omega (arith, chain_within xs y.0 t h y.2, e.1.0, e.1.1, f.down x (omega (arith, e.1.0)))

unmoved : {P : Type 0} (R : P → ℕ → P → Type 0) (p : P) → ((x : ℕ) (q : P) → R p x q → q ≡ p) → (xs : List ℕ) (q : P) → FoldsTo R p xs q → q ≡ p
unmoved R p stays [] q c = sym c
unmoved R p stays (x ∷ xs) q c = unmoved R p stays xs q (subst (λ k. FoldsTo R k xs q) (stays x c.0 c.1) c.2)

-- what is called at the places of a chain is called below where it began
pub serves_chain : {P : Type 0} {R : P → ℕ → P → Type 0} {Q : P → ℕ → Type 0} {s : Chain} {p : P}
    → Falls s.nexts.now s.at → ((x : ℕ) (q : P) → R p x q → q ≡ p) → ((x : ℕ) → x < s.at → Q p x) → CallableAtEachTurn steps R Q s p
serves_chain {P} {R} {Q} {s} {p} f stays h =
    record {
      at = λ xs t q x u y c e. subst (λ k. Q k x) (sym (unmoved R p stays xs q c)) (h x (omega (arith, chain_within xs s t f y, e.1.0)));
    }

module _ (key : ℕ → TypeNode) (n : ℕ) (heads nexts : List ℕ) (x : TypeNode) (t : Table (λ p. bucket (length heads) (key p)) n heads nexts) where
  module _ {F : Type 0} (g : Mut F (Bor ℕ × Unit {0}) Bool) (f : F) (miss : (p : ℕ) (q : F) → p < n → CalledAt g f p false q → (q ≡ f) × (key p ≢ x)) where
    passes : (xs : List ℕ) (s u : Chain) (f' : F) → s.nexts.now ≡ nexts → Seek key (length heads) n x s.at → Yields steps s xs u → FoldsTo (λ p y q. CalledAt g p y false q) f xs f' → Seek key (length heads) n x u.at × (f' ≡ f)
    passes [] s u f' e k y c = (subst (λ (z : Chain). Seek key (length heads) n x z.at) y k, sym c)
    passes (p ∷ xs) s u f' e k y c =
        let d = y.1 in
        let v = miss p c.0 (omega (arith, k.low, d.1.0)) c.1 in
        let a : s.at - 1 ≡ p = omega (arith, d.1.0) in
        let b = seek_next key n heads nexts x t s.at (omega (arith, d.1.0)) k (λ i. v.1 (ap key (sym a) ∙ i)) in
        let z : get_or nexts (s.at - 1) 0 ≡ y.0.at = ap (get_or nexts (s.at - 1)) refl ∙ ap (λ (i : ℕ). get_or nexts i 0) a ∙ ap (λ (l : List ℕ). get_or l p 0) (sym e) ∙ sym d.1.1 in
        passes xs y.0 u f' (d.0 ∙ e) (subst (Seek key (length heads) n x) z b) y.2 (subst (λ k. FoldsTo (λ p y q. CalledAt g p y false q) k xs f') v.0 c.2)

    -- `find` gives a place with the key x, or there is none
    pub found_in_chain :
        ((p : ℕ) (q : F) → p < n → CalledAt g f p true q → key p ≡ x) → (s u : Chain) (r : Option ℕ) → s.nexts.now ≡ nexts → Seek key (length heads) n x s.at → FindsItem steps g s f r u
        → MatchOption r ((k : ℕ) → k < n → key k ≢ x) (λ p. (p < n) × (key p ≡ x))
    found_in_chain hit s u r e k d = by r d.2.2 d.4
      where
        v : Seek key (length heads) n x d.2.0.at × (d.1 ≡ f)
        v = passes d.0 s d.2.0 d.1 e k d.2.1 d.3

        by : (o : Option ℕ) → steps d.2.0 o u → IfSome o (λ y. (h : F) × CalledAt g d.1 y true h) → MatchOption o ((k : ℕ) → k < n → key k ≢ x) (λ p. (p < n) × (key p ≡ x))
        by None st l = λ j i. v.0.passed j (omega (arith, st.1)) i
        by (Some p) st l =
            let lt : p < n = omega (arith, v.0.low, st.1.0) in
            (lt, hit p l.0 lt (subst (λ z. CalledAt g z p true l.0) v.1 l.1))

pub same_node : (x y : TypeNode) → x.kind ≡ y.kind → x.left ≡ y.left → x.right ≡ y.right → x ≡ y
same_node x y e f g = ap (λ (k : ℕ). node k x.left x.right) e ∙ ap₂ (node y.kind) f g
