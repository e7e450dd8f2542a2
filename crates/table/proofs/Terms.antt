-- The test of a term's nodes passes exactly at the code of one closed term with low references.
use Rattle.std.proofs.Common.{◌≡◌, ℕ, zero, suc, Bool, true, false, eqb, ltb, List, [], ◌∷◌, ◌++◌, sym, refl, ap, ◌∙◌, subst}
use Rattle.std.proofs.lemmas.List.{append-nil, append_assoc}
use Rattle.std.proofs.lemmas.Bool.{false≢true, ltb-true, eqb-true, lt-ltb}
use Rattle.term.specs.Terms.{Term, variable, abstraction, application, primitive, reference, node, prefix}
use Rattle.term.specs.Symbols.{of_kind}
use Rattle.term.specs.declared.TermNode.{TermNode}
use Rattle.types.proofs.Tested.{both}
use Rattle.theory.specs.Closed.{Closed, Below}
use Rattle.table.specs.Rows.{Formula}
use Rattle.table.specs.WellFormed.{node_reads, reads, well_formed}

pub both_parts : (a b : Bool) → both a b ≡ true → (a ≡ true) × (b ≡ true)
both_parts true b e = (refl, e)
both_parts false b e = absurd (false≢true e)

pub both_from : (a b : Bool) → a ≡ true → b ≡ true → both a b ≡ true
both_from true b p q = q
both_from false b p q = p

-- the nodes of some terms, one behind the other
abbrev prefixes : List Term → List TermNode
prefixes [] = []
prefixes (t ∷ ts) = prefix t ++ prefixes ts

-- as many terms as depths, each closed at its depth
abbrev Stand : ℕ → List ℕ → List Term → Type 0
Stand k [] [] = Unit {0}
Stand k [] (t ∷ ts) = ⊥
Stand k (d ∷ ds) [] = ⊥
Stand k (d ∷ ds) (t ∷ ts) = Closed d t × Below k t × Stand k ds ts

record Forest (k : ℕ) (ds : List ℕ) (xs : List TermNode) : Type 0 where
  trees : List Term
  code : prefixes trees ≡ xs
  stand : Stand k ds trees

module _ (k d : ℕ) (ds : List ℕ) (xs : List TermNode) where
  leaf_first : (t : Term) → Closed d t → Below k t → Forest k ds xs → Forest k (d ∷ ds) (prefix t ++ xs)
  leaf_first t c b f = record { trees = t ∷ f.trees; code = ap (λ ys. prefix t ++ ys) f.code; stand = (c, b, f.stand) }

  abstraction_first : (ts : List Term) → prefixes ts ≡ xs → Stand k (suc d ∷ ds) ts → Forest k (d ∷ ds) (node 1 0 ∷ xs)
  abstraction_first [] e s = absurd s
  abstraction_first (b ∷ ts) e s = record { trees = abstraction b ∷ ts; code = ap (λ ys. node 1 0 ∷ ys) e; stand = s }

  application_first : (ts : List Term) → prefixes ts ≡ xs → Stand k (d ∷ d ∷ ds) ts → Forest k (d ∷ ds) (node 2 0 ∷ xs)
  application_first [] e s = absurd s
  application_first (f ∷ []) e s = absurd s.2
  application_first (f ∷ a ∷ ts) e s =
      record {
        trees = application f a ∷ ts;
        code = ap (λ ys. node 2 0 ∷ ys) (append_assoc (prefix f) (prefix a) (prefixes ts) ∙ e);
        stand = ((s.0, s.2.0), (s.1, s.2.1), s.2.2);
      }

  module _ (leaf one two : Bool) (at_leaf : leaf ≡ true → Forest k ds xs) (at_one : one ≡ true → Forest k (suc d ∷ ds) xs) (at_two : two ≡ true → Forest k (d ∷ d ∷ ds) xs) where
    node_first : (kind n : ℕ) → node_reads (of_kind kind n) n k d leaf one two ≡ true → Forest k (d ∷ ds) (node kind n ∷ xs)
    node_first zero n e = let p = both_parts (ltb n d) leaf e in leaf_first (variable n) (ltb-true n d p.0) tt (at_leaf p.1)
    node_first (suc zero) n e =
        let p = both_parts (eqb n 0) one e in
        let f = at_one p.1 in
        subst (λ (m : ℕ). Forest k (d ∷ ds) (node 1 m ∷ xs)) (sym (eqb-true n 0 p.0)) (abstraction_first f.trees f.code f.stand)
    node_first (suc (suc zero)) n e =
        let p = both_parts (eqb n 0) two e in
        let f = at_two p.1 in
        subst (λ (m : ℕ). Forest k (d ∷ ds) (node 2 m ∷ xs)) (sym (eqb-true n 0 p.0)) (application_first f.trees f.code f.stand)
    node_first (suc (suc (suc zero))) n e = leaf_first (primitive n) tt tt (at_leaf e)
    node_first (suc (suc (suc (suc zero)))) n e = let p = both_parts (ltb n k) leaf e in leaf_first (reference n) tt (ltb-true n k p.0) (at_leaf p.1)
    node_first (suc (suc (suc (suc (suc m))))) n e = absurd (false≢true e)

forest : (k : ℕ) (ds : List ℕ) (xs : List TermNode) → reads k ds xs ≡ true → Forest k ds xs
forest k [] [] e = record { trees = []; code = refl; stand = tt }
forest k [] (x ∷ xs) e = absurd (false≢true e)
forest k (d ∷ ds) [] e = absurd (false≢true e)
forest k (d ∷ ds) (x ∷ xs) e =
    node_first k d ds xs (reads k ds xs) (reads k (suc d ∷ ds) xs) (reads k (d ∷ d ∷ ds) xs) (forest k ds xs) (forest k (suc d ∷ ds) xs) (forest k (d ∷ d ∷ ds) xs) x.kind x.number e

single : (k : ℕ) (xs : List TermNode) (ts : List Term) → prefixes ts ≡ xs → Stand k (0 ∷ []) ts → Formula k xs
single k xs [] e s = absurd s
single k xs (t ∷ []) e s = record { tree = t; code = sym (append-nil (prefix t)) ∙ e; closed = s.0; below = s.1 }
single k xs (t ∷ u ∷ ts) e s = absurd s.2

pub well_formed_formula : (k : ℕ) (xs : List TermNode) → well_formed k xs ≡ true → Formula k xs
well_formed_formula k xs e = let f = forest k (0 ∷ []) xs e in single k xs f.trees f.code f.stand

code_reads : (t : Term) (k d : ℕ) (ds : List ℕ) (ys : List TermNode) → Closed d t → Below k t → reads k ds ys ≡ true → reads k (d ∷ ds) (prefix t ++ ys) ≡ true
code_reads (variable n) k d ds ys c b r = both_from (ltb n d) (reads k ds ys) (lt-ltb n d c) r
code_reads (abstraction t) k d ds ys c b r = code_reads t k (suc d) ds ys c b r
code_reads (application f a) k d ds ys c b r =
    subst (λ (zs : List TermNode). reads k (d ∷ d ∷ ds) zs ≡ true) (sym (append_assoc (prefix f) (prefix a) ys))
    (code_reads f k d (d ∷ ds) (prefix a ++ ys) c.0 b.0 (code_reads a k d ds ys c.1 b.1 r))
code_reads (primitive n) k d ds ys c b r = r
code_reads (reference n) k d ds ys c b r = both_from (ltb n k) (reads k ds ys) (lt-ltb n k b) r

pub formula_well_formed : (k : ℕ) (xs : List TermNode) → Formula k xs → well_formed k xs ≡ true
formula_well_formed k xs f =
    subst (λ (zs : List TermNode). well_formed k zs ≡ true) (append-nil (prefix f.tree) ∙ f.code)
    (code_reads f.tree k 0 [] [] f.closed f.below refl)
