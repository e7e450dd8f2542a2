-- A node is done: its type is found among the parts, or put behind them.
use Rattle.std.proofs.Common.{◌≡◌, ℕ, ◌+◌, ◌*◌, ◌<◌, ◌≤◌, true, false, ◌≢◌, List, [], ◌∷◌, ◌++◌, length, get_or, set, sym, refl, ap, ◌∙◌, subst, ⊎_elim, mod-lt, arith}
use Rattle.std.proofs.lemmas.List.{length-set, length_push, get_or-set_same, get_or-set_other, get_or_append_left, get_or_push}
use Rattle.std.proofs.lemmas.Bool.{cases_eq, cases_Bool}
use Rattle.types.specs.declared.TypeNode.{TypeNode}
use Rattle.types.specs.Types.{Ty, variable}
use Rattle.normal.specs.Normal.{has, place, add}
use Rattle.normal.specs.Built.{Ready, Built, more}
use Rattle.normal.proofs.Parts.{has_at, place_at, place_own, place_new, ready, add_old, add_new}
use Rattle.graph.specs.Graph.{alive}
use Rattle.graph.specs.declared.Node.{Node}
use Rattle.graph.specs.declared.Node.TheVariants.{Var}
use Rattle.walk.specs.Reads.{Reads, root}
use Rattle.walk.specs.Table.{Table, bucket}
use Rattle.walk.specs.Work.{Work, work, key_of, part, Marked, Origin, State, Complete, Closed}
use Rattle.walk.proofs.Chains.{table_same, table_push}
use Rattle.walk.proofs.Keys.{key_one, key_left}

-- what is done stays done
pub done_still : (ms : List ℕ) (i x j : ℕ) → 2 ≤ x → i < length ms → 2 ≤ get_or ms j 0 → 2 ≤ get_or (set ms i x) j 0
done_still ms i x j big h d =
    ⊎_elim
    (λ (q : j ≡ i). omega (arith, ap (λ (k : ℕ). get_or (set ms i x) k 0) q ∙ get_or-set_same ms i x 0 h))
    (λ (ne : j ≢ i). omega (arith, get_or-set_other ms i j x 0 ne))
    (cases_eq j i)

module _ (ns : List Node) (ms : List ℕ) (i : ℕ) (h : i < length ms) (opened : get_or ms i 0 ≡ 1) where
  complete_still : (x k : ℕ) → 2 ≤ x → Complete ns ms k → Complete ns (set ms i x) k
  complete_still x k big c j l r e = let w = c j l r e in (done_still ms i x (root ns l) big h w.0, done_still ms i x (root ns r) big h w.1)

  pub marked_set : (ps : List Ty) (p : ℕ) → p < length ps → Reads ns i (part ps p) → Complete ns ms i → Marked ns ms ps → Marked ns (set ms i (p + 2)) ps
  marked_set ps p l reads complete m =
      let at : get_or (set ms i (p + 2)) i 0 ≡ p + 2 = get_or-set_same ms i (p + 2) 0 h in
      record {
        built = m.built;
        read = λ k x in_graph d.
            ⊎_elim
            (λ (q : k ≡ i).
            let y : p ≡ x = omega (arith, sym (ap (λ (j : ℕ). get_or (set ms i (p + 2)) j 0) q ∙ at) ∙ d) in
            (omega arith, subst (λ (j : ℕ). Reads ns j (part ps x)) (sym q) (subst (λ (j : ℕ). Reads ns i (part ps j)) y reads)))
            (λ (ne : k ≢ i). m.read k x in_graph (sym (get_or-set_other ms i k (p + 2) 0 ne) ∙ d))
            (cases_eq k i);
        complete = λ k x in_graph d.
            ⊎_elim
            (λ (q : k ≡ i). subst (Complete ns (set ms i (p + 2))) (sym q) (complete_still (p + 2) i (omega arith) complete))
            (λ (ne : k ≢ i). complete_still (p + 2) k (omega arith) (m.complete k x in_graph (sym (get_or-set_other ms i k (p + 2) 0 ne) ∙ d)))
            (cases_eq k i);
      }

  pub origin_still : (x k p : ℕ) → Origin ns ms k p → Origin ns (set ms i x) k p
  origin_still x k p o =
      let ne : k ≢ i = λ q. omega (arith, sym (ap (λ (j : ℕ). get_or ms j 0) q) ∙ o.mark) in
      record { inside = o.inside; stands = o.stands; mark = get_or-set_other ms i k x 0 ne ∙ o.mark }

pub marked_push : (ns : List Node) (ms : List ℕ) (ps : List Ty) (t : Ty) → Built (ps ++ (t ∷ [])) → Marked ns ms ps → Marked ns ms (ps ++ (t ∷ []))
marked_push ns ms ps t b m =
    record {
      built = b;
      read = λ k p h d. (let r = m.read k p h d in (omega (arith, r.0, length_push ps t), subst (Reads ns k) (sym (get_or_append_left ps (t ∷ []) (variable 0) p r.0)) r.1));
      complete = m.complete;
    }

module _ (ns : List Node) (w : Work) (i : ℕ) (key : TypeNode) (h : i < length w.marks) (opened : get_or w.marks i 0 ≡ 1) (complete : Complete ns w.marks i) where
  module _ (ps : List Ty) (t : Ty) (s : State ns w ps) (r : Ready ps t) (k : key_of ps t ≡ key) (reads : Reads ns i t) where
    pub closed_old : (p : ℕ) → p < w.count → key_of ps (part ps p) ≡ key → State ns (work (set w.marks i (p + 2)) w.origins w.heads w.nexts w.count) (add ps t) × (p ≡ place (add ps t) t)
    closed_old p lt d =
        let l : p < length ps = omega (arith, s.long) in
        let m = has_at ps p (variable 0) l in
        let e : part ps p ≡ t = key_one ps (part ps p) t (ready s.marked.built (part ps p) m) r (d ∙ sym k) in
        let m' : has ps t ≡ true = subst (λ (u : Ty). has ps u ≡ true) e m in
        let a = sym (add_old ps t m') in (
          subst (State ns (work (set w.marks i (p + 2)) w.origins w.heads w.nexts w.count)) a
              (record {
                marked = marked_set ns w.marks i h opened ps p l (subst (Reads ns i) (sym e) reads) complete s.marked;
                long = s.long;
                made = λ q g. origin_still ns w.marks i h opened (p + 2) (get_or w.origins q 0) q (s.made q g);
                table = s.table;
              }),
          sym (place_own s.marked.built p (variable 0) l) ∙ ap (place ps) e ∙ ap (λ (qs : List Ty). place qs t) a,
        )

    module _ (none : (q : ℕ) → q < w.count → key_of ps (part ps q) ≡ key → ⊥) (inside : i < length ns) (stands : alive (get_or ns i Var) ≡ 1) (some : 0 < length w.heads) (ho : w.count < length w.origins) (hn : w.count < length w.nexts) where
      fresh : has ps t ≡ false
      fresh =
          ⊎_elim
          (λ (m : has ps t ≡ true). let x = place_at ps t (variable 0) m in absurd (none (place ps t) (omega (arith, x.0, s.long)) (ap (key_of ps) x.1 ∙ k)))
          (λ (m : has ps t ≡ false). m)
          (cases_Bool (has ps t))

      abbrev appended : Work
      appended = work (set w.marks i (w.count + 2)) (set w.origins w.count i) (set w.heads (bucket (length w.heads) key) (w.count + 1)) (set w.nexts w.count (get_or w.heads (bucket (length w.heads) key) 0)) (w.count + 1)

      pub closed_new : State ns appended (add ps t) × (w.count ≡ place (add ps t) t)
      closed_new =
          let qs = ps ++ (t ∷ []) in
          let n = w.count in
          let m = length w.heads in
          let b : Built qs = more t s.marked.built fresh r in
          let at : part qs n ≡ t = get_or_push ps t (variable 0) n s.long in
          let a = sym (add_new ps t fresh) in
          let lt : bucket m key < m = mod-lt (key.kind + key.left * 31 + key.right * 1021) some in
          let old : (p : ℕ) → p < n → bucket m (key_of ps (part ps p)) ≡ bucket m (key_of qs (part qs p)) =
          λ p g.
          (let l : p < length ps = omega (arith, s.long) in
          let e = get_or_append_left ps (t ∷ []) (variable 0) p l in
          ap (bucket m) (sym (ap (key_of qs) e ∙ key_left ps (t ∷ []) (part ps p) (ready s.marked.built (part ps p) (has_at ps p (variable 0) l))))) in
          let own : bucket m (key_of qs (part qs n)) ≡ bucket m key = ap (bucket m) (ap (key_of qs) at ∙ key_left ps (t ∷ []) t r ∙ k) in
          let number : ℕ → ℕ = λ p. bucket m (key_of qs (part qs p)) in
          let tb : Table number (n + 1) appended.heads appended.nexts =
          table_push number n (bucket m key) w.heads w.nexts (table_same (λ p. bucket m (key_of ps (part ps p))) number n w.heads w.nexts old s.table) hn own lt in (
            subst (State ns appended) a
                (record {
                  marked = marked_set ns w.marks i h opened qs n (omega (arith, length_push ps t, s.long)) (subst (Reads ns i) (sym at) reads) complete (marked_push ns w.marks ps t b s.marked);
                  long = length_push ps t ∙ ap (λ (x : ℕ). x + 1) s.long;
                  made = λ q g.
                      ⊎_elim
                      (λ (e : q ≡ n).
                      subst (λ (j : ℕ). Origin ns appended.marks (get_or appended.origins j 0) j) (sym e)
                      (subst (λ (j : ℕ). Origin ns appended.marks j n) (sym (get_or-set_same w.origins n i 0 ho)) (record { inside = inside; stands = stands; mark = get_or-set_same w.marks i (n + 2) 0 h })))
                      (λ (ne : q ≢ n).
                      subst (λ (j : ℕ). Origin ns appended.marks j q) (sym (get_or-set_other w.origins n q i 0 ne))
                      (origin_still ns w.marks i h opened (n + 2) (get_or w.origins q 0) q (s.made q (omega arith))))
                      (cases_eq q n);
                  table = subst (λ (z : ℕ). Table (λ p. bucket z (key_of qs (part qs p))) (n + 1) appended.heads appended.nexts) (sym (length-set w.heads (bucket m key) (n + 1))) tb;
                }),
            sym s.long ∙ sym (place_new ps t fresh) ∙ ap (λ (us : List Ty). place us t) a,
          )

work_same : (a a' b b' d d' e e' : List ℕ) (n n' : ℕ) → a ≡ a' → b ≡ b' → d ≡ d' → e ≡ e' → n ≡ n' → work a b d e n ≡ work a' b' d' e' n'
work_same a a' b b' d d' e e' n n' p q r s t = cc

module _ (ns : List Node) (w : Work) (i : ℕ) (key : TypeNode) (h : i < length w.marks) (opened : get_or w.marks i 0 ≡ 1) (complete : Complete ns w.marks i) where
  pub closed_found : (p : ℕ) → ((ps : List Ty) → State ns w ps → (p < w.count) × (key_of ps (part ps p) ≡ key)) → Closed ns w (work (set w.marks i (p + 2)) w.origins w.heads w.nexts w.count) i key p
  closed_found p found =
      record {
        marks = refl;
        count = omega arith;
        exact = λ ps t s r k reads. (let f = found ps s in closed_old ns w i key h opened complete ps t s r k reads p f.0 f.1);
      }

  pub closed_appended :
      ((ps : List Ty) → State ns w ps → (q : ℕ) → q < w.count → key_of ps (part ps q) ≡ key → ⊥) → i < length ns → alive (get_or ns i Var) ≡ 1 → 0 < length w.heads → w.count < length w.origins → w.count < length w.nexts
      → (ms os hs xs : List ℕ) (n p : ℕ) → p ≡ w.count → n ≡ w.count + 1 → ms ≡ set w.marks i (w.count + 2) → os ≡ set w.origins w.count i → hs ≡ set w.heads (bucket (length w.heads) key) (w.count + 1) → xs ≡ set w.nexts w.count (get_or w.heads (bucket (length w.heads) key) 0)
      → Closed ns w (work ms os hs xs n) i key p
  closed_appended none inside stands some ho hn ms os hs xs n p ep en em eo eh ex =
      record {
        marks = em ∙ ap (λ (x : ℕ). set w.marks i (x + 2)) (sym ep);
        count = omega arith;
        exact = λ ps t s r k reads.
            (let f = closed_new ns w i key h opened complete ps t s r k reads (none ps s) inside stands some ho hn in
            (subst (λ (z : Work). State ns z (add ps t)) (sym (work_same ms _ os _ hs _ xs _ n _ em eo eh ex en)) f.0, ep ∙ f.1));
      }
