-- Which term stands at a place, by the node there.
use Rattle.std.proofs.Common.{◌≡◌, ℕ, ◌+◌, ◌<◌, Option, Some, None, List, ◌∷◌, ◌++◌, length, get_or, drop, sym, refl, ap, ◌∙◌, subst, append_assoc, arith}
use Rattle.std.proofs.lemmas.List.{drop_more, drop-drop, drop_at, length-drop}
use Rattle.term.specs.Terms.{Term, variable, abstraction, application, primitive, reference, prefix, zero_node}
use Rattle.term.specs.declared.TermNode.{TermNode}
use Rattle.term.specs.Symbols.{symbol_of}
use Rattle.copy.specs.Instances.{Lists}
use Rattle.term.specs.declared.Symbol.{Symbol}
use Rattle.term.specs.declared.Symbol.TheVariants.{Variable, Abstraction, Application, Primitive, Reference}
use Rattle.infer.specs.Typing.{size}
use Rattle.infer.specs.Heads.{head_of, head_need, need}
use Rattle.infer.specs.Passes.{Stands}

-- the node at place i says s
abbrev pub Starts : List TermNode → ℕ → Option Symbol → Type 0
Starts ts i s = (i < length ts) × (s ≡ head_of (get_or ts i zero_node))

pub starts_some : (ts : List TermNode) (i : ℕ) (n : TermNode) (r s : Symbol) → (i < length ts) × ((d : TermNode) → n ≡ get_or ts i d) → Some r ≡ symbol_of n → r ≡ s → Starts ts i (Some s)
starts_some ts i n r s h e q = (h.0, ap Some (sym q) ∙ e ∙ ap symbol_of (h.1 zero_node))

pub starts_none : (ts : List TermNode) (i : ℕ) (n : TermNode) → (i < length ts) × ((d : TermNode) → n ≡ get_or ts i d) → None ≡ symbol_of n → Starts ts i None
starts_none ts i n h e = (h.0, e ∙ ap symbol_of (h.1 zero_node))

pub need_at : (E K : Lists) (ts : List TermNode) (i : ℕ) (s : Option Symbol) → Starts ts i s → need E K (drop i ts) ≡ head_need E K s + need E K (drop (i + 1) ts)
need_at E K ts i s h = ap (need E K) (drop_more ts i zero_node h.0) ∙ ap (λ (r : Option Symbol). head_need E K r + need E K (drop (i + 1) ts)) (sym h.1)

-- what the node at place i says of the term that stands there
abbrev pub Opens : List TermNode → ℕ → Term → Option Symbol → Type 0
Opens ts i t None = ⊥
Opens ts i t (Some (Variable k)) = t ≡ variable k
Opens ts i t (Some Abstraction) = (b : Term) × (t ≡ abstraction b) × Stands ts (i + 1) b
Opens ts i t (Some Application) = (f : Term) × (x : Term) × (t ≡ application f x) × Stands ts (i + 1) f × Stands ts (i + 1 + size f) x
Opens ts i t (Some (Primitive k)) = t ≡ primitive k
Opens ts i t (Some (Reference k)) = t ≡ reference k

drop_front : (ts : List TermNode) (i : ℕ) (n : TermNode) (ns : List TermNode) → drop i ts ≡ n ∷ ns → (i < length ts) × (get_or ts i zero_node ≡ n) × (drop (i + 1) ts ≡ ns)
drop_front ts i n ns e =
    let h : i < length ts = omega (arith, ap length e, length-drop i ts) in
    let m = sym (drop_more ts i zero_node h) ∙ e in
    (h, cc, cc)

module _ (ts : List TermNode) (i : ℕ) where
  opened : (t : Term) → Stands ts i t → Opens ts i t (head_of (get_or ts i zero_node))
  opened (variable k) s = subst (λ (n : TermNode). Opens ts i (variable k) (head_of n)) (sym (drop_front ts i _ _ s.1).1) refl
  opened (abstraction b) s =
      let d = drop_front ts i _ _ s.1 in
      subst (λ (n : TermNode). Opens ts i (abstraction b) (head_of n)) (sym d.1) (b, refl, (s.0, d.2))
  opened (application f x) s =
      let d = drop_front ts i _ _ s.1 in
      let e : drop (i + 1) ts ≡ prefix f ++ (prefix x ++ s.0) = d.2 ∙ append_assoc (prefix f) (prefix x) s.0 in
      let g : drop (i + 1 + size f) ts ≡ prefix x ++ s.0 = sym (drop-drop (size f) (i + 1) ts) ∙ ap (drop (size f)) e ∙ drop_at (prefix f) (prefix x ++ s.0) (size f) refl in
      subst (λ (n : TermNode). Opens ts i (application f x) (head_of n)) (sym d.1) (f, x, refl, (prefix x ++ s.0, e), (s.0, g))
  opened (primitive k) s = subst (λ (n : TermNode). Opens ts i (primitive k) (head_of n)) (sym (drop_front ts i _ _ s.1).1) refl
  opened (reference k) s = subst (λ (n : TermNode). Opens ts i (reference k) (head_of n)) (sym (drop_front ts i _ _ s.1).1) refl

  pub opens : (t : Term) (h : Option Symbol) → h ≡ head_of (get_or ts i zero_node) → Stands ts i t → Opens ts i t h
  opens t h e s = subst (Opens ts i t) (sym e) (opened t s)

  pub stands_within : (t : Term) → Stands ts i t → i < length ts
  stands_within (variable k) s = (drop_front ts i _ _ s.1).0
  stands_within (abstraction b) s = (drop_front ts i _ _ s.1).0
  stands_within (application f x) s = (drop_front ts i _ _ s.1).0
  stands_within (primitive k) s = (drop_front ts i _ _ s.1).0
  stands_within (reference k) s = (drop_front ts i _ _ s.1).0
