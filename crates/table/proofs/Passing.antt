-- The test of a row passes exactly where the row may be kept.
use Rattle.std.proofs.Common.{◌≡◌, ℕ, zero, suc, ◌+◌, ◌<◌, Bool, true, T, ltb, leb, List, [], ◌∷◌, length, get_or, sym, refl, subst, arith}
use Rattle.std.proofs.lemmas.Bool.{lt-ltb, le-leb}
use Rattle.std.proofs.lemmas.Bool.Decides.{nat_tests}
use Rattle.types.specs.Lists.{Lawful, LawfulNode, zero_node}
use Rattle.types.specs.Lists.{node as type_node}
use Rattle.types.specs.declared.TypeNode.{TypeNode}
use Rattle.types.proofs.Tested.{every, node_passes, list_passes, passed_lawful}
use Rattle.table.specs.Rows.{Row, Proper}
use Rattle.table.specs.WellFormed.{well_formed, row_passes}
use Rattle.table.proofs.Terms.{both_parts, both_from, well_formed_formula, formula_well_formed}

pub passed : (b : Bool) → b ≡ true → T b
passed b e = subst T (sym e) tt

module _ {A : Type 0} (f : ℕ → A → Bool) (d : A) where
  every_from : (xs : List A) (i : ℕ) → ((k : ℕ) → k < length xs → f (i + k) (get_or xs k d) ≡ true) → every f i xs ≡ true
  every_from [] i h = refl
  every_from (x ∷ xs) i h =
      let here : i + 0 ≡ i = omega arith in
      both_from (f i x) (every f (suc i) xs) (subst (λ (m : ℕ). f m x ≡ true) here (h 0 (omega arith)))
      (every_from xs (suc i) (λ k lt. (let there : i + suc k ≡ suc i + k = omega arith in subst (λ (m : ℕ). f m (get_or xs k d) ≡ true) there (h (suc k) (omega arith)))))

node_pass : (place kind left right : ℕ) → LawfulNode place (type_node kind left right) → node_passes place (type_node kind left right) ≡ true
node_pass place zero left right l = let p = l.number refl in let q = l.leaf (omega arith) in grind (arith, nat_tests)
node_pass place (suc zero) left right l = let p = l.code refl in let q = l.leaf (omega arith) in grind (arith, nat_tests)
node_pass place (suc (suc zero)) left right l = let p = (l.lower (omega arith)).0 in let q = (l.lower (omega arith)).1 in grind (arith, nat_tests)
node_pass place (suc (suc (suc k))) left right l = let p = l.kinds in absurd (omega arith)

list_pass : (l : List TypeNode) → Lawful l → list_passes l ≡ true
list_pass l h =
    let each : every node_passes 0 l ≡ true =
    every_from node_passes zero_node l 0
    (λ k lt.
    (let x : TypeNode = get_or l k zero_node in
    let e : k ≡ 0 + k = omega arith in
    subst (λ (m : ℕ). node_passes m x ≡ true) e (node_pass k x.kind x.left x.right (h.each k lt)))) in
    both_from (ltb 0 (length l)) _ (lt-ltb 0 (length l) h.some) (both_from (leb (length l) 4096) _ (le-leb (length l) 4096 h.few) each)

pub row_proper : (k : ℕ) (r : Row) → row_passes k r ≡ true → Proper k r
row_proper k r e =
    let p = both_parts (well_formed k r.term) (list_passes r.list) e in
    record { formula = well_formed_formula k r.term p.0; lawful = passed_lawful r.list (passed (list_passes r.list) p.1) }

pub proper_row : (k : ℕ) (r : Row) → Proper k r → row_passes k r ≡ true
proper_row k r p = both_from (well_formed k r.term) (list_passes r.list) (formula_well_formed k r.term p.formula) (list_pass r.list p.lawful)
