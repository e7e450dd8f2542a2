-- A computed test of a list of type nodes, for constant tables: a list that passes it is lawful.
use Rattle.std.proofs.Common.{ℕ, zero, suc, ◌+◌, ◌<◌, ◌≤◌, Bool, true, false, ◌&&◌, ◌||◌, T, eqb, ltb, leb, List, [], ◌∷◌, length, get_or, sym, ◌∙◌, subst, le_of_suc-le-suc, not-suc-le-zero, add-zero, add-suc, suc-add, zero-add, arith}
use Rattle.std.proofs.lemmas.Bool.Decides.{nat_tests}
use Rattle.types.specs.declared.TypeNode.{TypeNode}
use Rattle.types.specs.Lists.{Lawful, LawfulNode, zero_node}

-- both tests pass
abbrev pub both : Bool → Bool → Bool
both true b = b
both false b = false

pub both_left : (a b : Bool) → T (both a b) → T a
both_left true b t = tt
both_left false b t = t

pub both_right : (a b : Bool) → T (both a b) → T b
both_right true b t = t
both_right false b t = absurd t

-- a test passed at each place of a list, counted from i
abbrev pub every : {A : Type 0} → (ℕ → A → Bool) → ℕ → List A → Bool
every f i [] = true
every f i (x ∷ xs) = both (f i x) (every f (suc i) xs)

module _ {A : Type 0} (f : ℕ → A → Bool) (d : A) where
  from : (xs : List A) (i : ℕ) → T (every f i xs) → (k : ℕ) → k < length xs → T (f (i + k) (get_or xs k d))
  from [] i t k h = absurd (not-suc-le-zero h)
  from (x ∷ xs) i t zero h = subst (λ m. T (f m x)) (sym (add-zero i)) (both_left (f i x) (every f (suc i) xs) t)
  from (x ∷ xs) i t (suc k) h =
      subst (λ m. T (f m (get_or xs k d))) (suc-add i k ∙ sym (add-suc i k))
      (from xs (suc i) (both_right (f i x) (every f (suc i) xs) t) k (le_of_suc-le-suc h))

  pub at_each : (xs : List A) → T (every f 0 xs) → (k : ℕ) → k < length xs → T (f k (get_or xs k d))
  at_each xs t k h = subst (λ m. T (f m (get_or xs k d))) (zero-add k) (from xs 0 t k h)

abbrev passes : ℕ → ℕ → ℕ → ℕ → Bool
passes place kind left right =
    (eqb kind 0 && (leb left 4095 && eqb right 0)) || ((eqb kind 1 && (leb left 5 && eqb right 0)) || (eqb kind 2 && (ltb left place && ltb right place)))

-- the node may stand at the place
abbrev pub node_passes : ℕ → TypeNode → Bool
node_passes place n = passes place n.kind n.left n.right

abbrev pub list_passes : List TypeNode → Bool
list_passes l = both (ltb 0 (length l)) (both (leb (length l) 4096) (every node_passes 0 l))

node_lawful : (place : ℕ) (n : TypeNode) → T (node_passes place n) → LawfulNode place n
node_lawful place n t =
    record {
      kinds = grind (arith, nat_tests);
      leaf = λ h. grind (arith, nat_tests);
      number = λ h. grind (arith, nat_tests);
      code = λ h. grind (arith, nat_tests);
      lower = λ h. (grind (arith, nat_tests), grind (arith, nat_tests));
    }

below : (a b : ℕ) → T (ltb a b) → a < b
below a b t = grind (arith, nat_tests)

within : (a b : ℕ) → T (leb a b) → a ≤ b
within a b t = grind (arith, nat_tests)

pub passed_lawful : (l : List TypeNode) → T (list_passes l) → Lawful l
passed_lawful l t =
    let rest = both_right (ltb 0 (length l)) (both (leb (length l) 4096) (every node_passes 0 l)) t in
    record {
      some = below 0 (length l) (both_left (ltb 0 (length l)) (both (leb (length l) 4096) (every node_passes 0 l)) t);
      few = within (length l) 4096 (both_left (leb (length l) 4096) (every node_passes 0 l) rest);
      each = λ p h. node_lawful p (get_or l p zero_node) (at_each node_passes zero_node l (both_right (leb (length l) 4096) (every node_passes 0 l) rest) p h);
    }
