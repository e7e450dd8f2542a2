-- The innermost binder that bears a name, looked for outwards.
use Rattle.std.proofs.Common.{◌≡◌, ℕ, suc, zero, ◌+◌, ◌<◌, ◌≤◌, List, [], ◌∷◌, get_or, true, false, refl, subst, arith}
use Prim.Native.Nat.{min}
use Rattle.catalogue.specs.Names.{Name, Same}
use Rattle.formula.specs.Names.{Bound}

-- a test that answered no
pub false_no : {P : Type 0} → (P → false ≡ true) → P → ⊥
false_no f p = let e = f p in let z : ◌≡◌ {A = ℕ} 0 1 = cc in omega arith

-- none bears a name where there is no binder, nor where the innermost doesn't bear it and none around it does
pub none_around : (w : Name) (i : ℕ) → Bound [] w i → ⊥
none_around w i b = omega (arith, b.within)

pub none_within : (rest : List Name) (v w : Name) → (Same v w → ⊥) → ((j : ℕ) → Bound rest w j → ⊥) → (i : ℕ) → Bound (v ∷ rest) w i → ⊥
none_within rest v w n m zero b = n b.bears
none_within rest v w n m (suc j) b = m j (record { within = omega (arith, b.within); bears = b.bears; innermost = λ k h s. b.innermost (suc k) (omega arith) s })

-- the innermost bears it
pub first_bears : (rest : List Name) (v w : Name) → Same v w → Bound (v ∷ rest) w 0
first_bears rest v w s = record { within = omega arith; bears = s; innermost = λ j h. absurd (omega arith) }

-- one around it does
pub bears_around : (rest : List Name) (v w : Name) (i : ℕ) → (Same v w → ⊥) → Bound rest w i → Bound (v ∷ rest) w (suc i)
bears_around rest v w i n b = record { within = omega (arith, b.within); bears = b.bears; innermost = earlier }
  where
    earlier : (j : ℕ) → j < suc i → Same (get_or (v ∷ rest) j []) w → ⊥
    earlier zero h s = n s
    earlier (suc j) h s = b.innermost j (omega arith) s

-- The binders that were passed on the way out from the innermost don't bear the name w, and k counts them as far as a u16
-- does: what is found among the rest is found among all.
pub record Passed (all rest : List Name) (w : Name) (k : ℕ) : Type 0 where
  pub passed : ℕ
  pub number : k ≡ min passed 65535
  pub around : (i : ℕ) → Bound rest w i → Bound all w (passed + i)
  pub none : ((i : ℕ) → Bound rest w i → ⊥) → (i : ℕ) → Bound all w i → ⊥

pub passed_none : (all : List Name) (w : Name) → Passed all all w 0
passed_none all w = record { passed = 0; number = refl; around = λ i b. let same : i ≡ 0 + i = omega arith in subst (Bound all w) same b; none = λ f. f }

pub passed_one : (all rest : List Name) (v w : Name) (k m : ℕ) → (Same v w → ⊥) → Passed all (v ∷ rest) w k → m ≡ min (k + 1) 65535 → Passed all rest w m
passed_one all rest v w k m n p e =
    record {
      passed = p.passed + 1;
      number = omega (arith, p.number);
      around = λ i b. let next : p.passed + suc i ≡ p.passed + 1 + i = omega arith in subst (Bound all w) next (p.around (suc i) (bears_around rest v w i n b));
      none = λ f. p.none (none_within rest v w n f);
    }

pub found_here : (all rest : List Name) (v w : Name) (k : ℕ) → Same v w → Passed all (v ∷ rest) w k → (i : ℕ) × Bound all w i × (i ≤ 65535 → k ≡ i)
found_here all rest v w k s p = (p.passed + 0, p.around 0 (first_bears rest v w s), λ h. omega (arith, p.number))

pub found_nowhere : (all : List Name) (w : Name) (k : ℕ) → Passed all [] w k → (i : ℕ) → Bound all w i → ⊥
found_nowhere all w k p = p.none (none_around w)

pub passed_two : (all rest : List Name) (v u w : Name) (k m : ℕ) → (Same v w → ⊥) → (Same u w → ⊥) → Passed all (v ∷ (u ∷ rest)) w k → m ≡ min (k + 2) 65535 → Passed all rest w m
passed_two all rest v u w k m n o p e =
    passed_one all rest u w (min (k + 1) 65535) m o (passed_one all (u ∷ rest) v w k (min (k + 1) 65535) n p refl) (omega (arith, p.number))
