-- The graph that inference built, and its most general solution: the types of the term's nodes.
use Rattle.std.proofs.Common.{◌≡◌, ℕ, ◌-◌, ◌<◌, ◌≤◌, List, [], ◌++◌, map, length, get_or, take, replicate, sym, ap, ◌∙◌, subst, ap₂, arith}
use Rattle.std.specs.List.{AllByRecursion}
use Rattle.std.proofs.lemmas.List.{length-map, length-append, length-take-le, get_or-map, get_or-take, take-map}
use Rattle.std.proofs.ByRecursion.{All-from_get_or}
use Rattle.types.specs.declared.TypeNode.{TypeNode}
use Rattle.types.specs.Types.{Ty, variable, apply}
use Rattle.types.specs.Lists.{zero_node}
use Rattle.term.specs.declared.TermNode.{TermNode}
use Rattle.term.specs.Terms.{Term, prefix}
use Rattle.copy.specs.Instances.{Lists}
use Rattle.graph.specs.Graph.{graph}
use Rattle.graph.proofs.Memory.{graph_length}
use Rattle.infer.specs.Typing.{size}
use Rattle.infer.specs.Heads.{need}
use Rattle.infer.specs.Passes.{Inferred}
use Rattle.infer.proofs.Typings.{some_node, typing_same}
use Rattle.normal.specs.Normal.{place, parts, normal, record_of}
use Rattle.normal.specs.Laws.{Proper}
use Rattle.normal.specs.Built.{none}
use Rattle.normal.proofs.Parts.{place_at}
use Rattle.normal.proofs.Meaning.{parts_have}
use Rattle.walk.specs.Listing.{Listed}
use Rattle.typer.specs.Answers.{PrincipalTyping, NoTypes}
use Rattle.typer.specs.Nodes.{of, NodesListed}

-- no term has no nodes
pub no_nodes : (E K : Lists) (ts : List TermNode) → length ts ≡ 0 → NoTypes E K ts
no_nodes E K ts h t e τ d = let s = some_node t in let q = ap length e in absurd (omega arith)

module _ (E K : Lists) (ts : List TermNode) (ps : List ℕ) (ws : List TypeNode) (n : ℕ) (fits : n ≤ length ws) (long : length ps ≡ length ts) (i : Inferred E K ts ps ws n) where
  module _ (k : ℕ) (few : k ≤ length ts) (qs : List ℕ) (memory : List TypeNode) (m : ℕ) (l : Listed (graph ws n) (take k ps) qs memory m) where
    types : List Ty
    types = map l.found.types ps

    inside : (p : ℕ) → p < length ts → get_or ps p 0 < length (graph ws n)
    inside p h = let q = i.inside p h in let g = graph_length ws n fits in omega arith

    type_at_node : (p : ℕ) → p < length ts → of types p ≡ l.found.types (get_or ps p 0)
    unfolding types
    type_at_node p h = get_or-map l.found.types ps p 0 (variable 0) (omega arith)

    principal : (t : Term) → prefix t ≡ ts → PrincipalTyping E K t (of types)
    principal t e =
        let b = i.built t e in
        let z : size t ≡ length ts = ap length e in
        record {
          typing = typing_same E K t [] (λ p. l.found.types (get_or ps p 0)) (of types) 0 (λ p _ h. sym (type_at_node p (omega arith))) (b.typing l.found.types l.found.general.solves);
          general = λ U d.
              let w = b.solution U d in
              (w.0, λ p h. let hp : p < length ts = omega arith in ap (apply w.0) (type_at_node p hp) ∙ l.found.general.general w.0 w.1 (get_or ps p 0) (inside p hp) ∙ w.2 p (omega arith) h);
        }

    proper : AllByRecursion Proper types
    unfolding types
    proper =
        All-from_get_or Proper types (variable 0)
        (λ p h. let hp : p < length ts = omega (arith, length-map ps l.found.types) in subst Proper (sym (type_at_node p hp)) (l.found.proper (get_or ps p 0) (inside p hp)))

    front : map l.found.types (take k ps) ≡ take k types
    unfolding types
    front = sym (take-map l.found.types k ps)

    places : (p : ℕ) → p < k → get_or qs p 0 ≡ place (parts (take k types)) (of types p)
    places p h =
        let lt = length-take-le k ps (omega arith) in
        l.found.places p (omega arith)
        ∙ ap₂ (λ (us : List Ty) (q : ℕ). place (parts us) (l.found.types q)) front (get_or-take k ps p 0 h)
        ∙ ap (place (parts (take k types))) (sym (type_at_node p (omega arith)))

    counted : m ≡ length (normal (take k types))
    counted = l.count ∙ ap (λ (us : List Ty). length (normal us)) front

    pub within : m ≤ length memory
    within = omega (arith, ap length l.list, length-append (normal (map l.found.types (take k ps))) (replicate (length memory - m) zero_node), l.count)

    front_proper : AllByRecursion Proper (take k types)
    unfolding types
    front_proper =
        let lt : length (take k types) ≡ k = length-take-le k types (omega (arith, length-map ps l.found.types)) in
        All-from_get_or Proper (take k types) (variable 0)
        (λ p h. let hp : p < length ts = omega arith in
        subst Proper (sym (get_or-take k types p (variable 0) (omega arith) ∙ type_at_node p hp)) (l.found.proper (get_or ps p 0) (inside p hp)))

    pub places_below : (p : ℕ) → p < k → get_or qs p 0 < m
    unfolding types
    places_below p h =
        let lt : length (take k types) ≡ k = length-take-le k types (omega (arith, length-map ps l.found.types)) in
        let here = parts_have (take k types) [] front_proper none p (omega arith) in
        let b = place_at (parts (take k types)) (get_or (take k types) p (variable 0)) (variable 0) here in
        let e : place (parts (take k types)) (get_or (take k types) p (variable 0)) ≡ get_or qs p 0 = ap (place (parts (take k types))) (get_or-take k types p (variable 0) h) ∙ sym (places p h) in
        omega (arith, b.0, e, counted, length-map (parts (take k types)) (record_of (parts (take k types))))

    pub nodes_listed : 0 < length ts → length memory ≡ need E K ts → (rs : List ℕ) → length rs ≡ k → ((p : ℕ) → p < k → get_or rs p 0 ≡ get_or qs p 0) → NodesListed E K ts rs memory m
    unfolding types
    nodes_listed some full rs lr same =
        record {
          types = types;
          long = length-map ps l.found.types ∙ long;
          some = some;
          proper = proper;
          principal = principal;
          count = subst (λ (j : ℕ). m ≡ length (normal (take j types))) (sym lr) counted;
          within = omega (arith, within);
          holds = l.list ∙ ap (λ (us : List Ty). normal us ++ replicate (length memory - m) zero_node) (subst (λ (j : ℕ). map l.found.types (take k ps) ≡ take j types) (sym lr) front);
          places = λ p h. same p (omega arith) ∙ subst (λ (j : ℕ). get_or qs p 0 ≡ place (parts (take j types)) (of types p)) (sym lr) (places p (omega arith));
        }
