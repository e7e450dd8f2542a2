-- The pass over a whole closed term.
use Rattle.std.proofs.Common.{◌≡◌, ℕ, ◌≢◌, eqb, List, [], length, get_or, sym, ap, ◌∙◌, append-nil, ⊎_elim, arith}
use Rattle.std.proofs.lemmas.List.{drop_all}
use Rattle.std.proofs.lemmas.Bool.{cases_eq, eq-eqb, ne_eqb}
use Rattle.std.specs.Bool.{then_some}
use Rattle.types.specs.Types.{Ty, base}
use Rattle.types.specs.declared.TypeNode.{TypeNode}
use Rattle.term.specs.Terms.{Term, prefix}
use Rattle.term.specs.declared.TermNode.{TermNode}
use Rattle.graph.specs.Graph.{Solves}
use Rattle.graph.specs.declared.Node.{Node}
use Rattle.copy.specs.Instances.{Lists}
use Rattle.infer.specs.declared.Found.{Found}
use Rattle.infer.specs.declared.Scope.{Scope}
use Rattle.infer.specs.Scopes.{held}
use Rattle.graph.specs.declared.Graph.{Graph}
use Rattle.graph.specs.Memory.{nodes}
use Rattle.infer.specs.Typing.{size, Typing}
use Rattle.infer.specs.Heads.{need}
use Rattle.infer.specs.Passes.{Stands, Gives, Typed, Finds, Clashes, Built, Inferred, Untypable, Answered}
use Rattle.infer.proofs.Typings.{some_node, typing_gives, type_typing}

stands : (ts : List TermNode) (t : Term) → prefix t ≡ ts → Stands ts 0 t
stands ts t e = ([], sym e ∙ sym (append-nil (prefix t)))

-- any valuation solves the graph without nodes
nothing_asked : Solves (λ k. base 0) []
nothing_asked i h = absurd (omega arith)

module _ (E K : Lists) where
  built : (t : Term) (qs : List ℕ) (ms : List Node) → Typed E K [] ms [] qs 0 t → Built E K t qs ms
  built t qs ms b =
      let solved : (T : ℕ → Ty) → Typing E K [] t T 0 → (w : ℕ → Ty) × Solves w ms × Gives w qs T 0 (size t) =
      (λ T d. let o = b.onto (λ k. base 0) T nothing_asked d in (o.0, o.2, λ p h k. o.3 p h (omega arith))) in
      record {
        typing = λ v s. (b.back v s).1;
        type = λ v s. typing_gives E K t [] (λ p. v (get_or qs p 0)) 0 (b.back v s).1;
        solution = solved;
        typable = λ τ d.
            (let T = type_typing E K t [] τ 0 d in
            let w = solved T.0 T.1 in
            let one = some_node t in
            (w.0, w.1, w.2 0 (omega arith) (omega arith) ∙ T.2));
      }

  refuse : (ts : List TermNode) → ((t : Term) → prefix t ≡ ts → (T : ℕ → Ty) → Typing E K [] t T 0 → ⊥) → Untypable E K ts
  refuse ts none = record { typing = none; type = λ t e τ d. (let T = type_typing E K t [] τ 0 d in none t e T.0 T.1) }

  pub untypable : (ts : List TermNode) (xs : List ℕ) (g : Graph) → xs ≡ [] → nodes g ≡ [] → Clashes E K ts 0 xs g → Untypable E K ts
  untypable ts xs g ex eg c = refuse ts (λ t e T d. (rw (ex, eg) at (c.untyped t (stands ts t e))) (λ k. base 0) T nothing_asked d)

  -- the pass over the whole begins with the graph without nodes, and no binder
  module _ (ts : List TermNode) (s : Scope) (es : held s ≡ []) (g : Graph) (eg : nodes g ≡ []) (eu : g.used ≡ 0) where
    inferred : (t : Scope) (ps qs : List ℕ) (h : Graph) (f : Found) → Finds E K ts 0 s t ps qs g h f → f.next ≡ length ts → Inferred E K ts qs h.memory.now h.used
    inferred t ps qs h f F e =
        record {
          needed = omega (arith, F.room, ap (need E K) (drop_all f.next ts (omega arith)));
          sound = F.sound;
          inside = λ p h. F.inside p (omega arith) (omega arith);
          built = λ u q. built u qs (nodes h) (rw (es, eg) at (F.typed u (stands ts u q)).1);
        }

    -- what stands behind the term makes the nodes no term's
    no_term : (t : Scope) (ps qs : List ℕ) (h : Graph) (f : Found) → Finds E K ts 0 s t ps qs g h f → f.next ≢ length ts → Untypable E K ts
    no_term t ps qs h f F ne = refuse ts (λ u e T d. let z = (F.typed u (stands ts u e)).0 in ne (omega (arith, ap length e)))

    -- the answer, where the memory is given back
    pub answered : (t : Scope) (ps qs : List ℕ) (h : Graph) (f : Found) (ms : List TypeNode) → ms ≡ h.memory.now → Finds E K ts 0 s t ps qs g h f → Answered E K ts qs ms (then_some (eqb f.next (length ts)) h.used)
    answered t ps qs h f ms em F =
        ⊎_elim
        (λ (e : f.next ≡ length ts). rw (eq-eqb f.next (length ts) e, em) (inferred t ps qs h f F e))
        (λ (n : f.next ≢ length ts). rw (ne_eqb f.next (length ts) n) (no_term t ps qs h f F n))
        (cases_eq f.next (length ts))
