-- The walk as a whole: what is found when every node was walked.
use Rattle.std.proofs.Common.{◌≡◌, ℕ, zero, suc, ◌-◌, ◌<◌, ◌≤◌, List, [], ◌∷◌, ◌++◌, map, length, get_or, take, replicate, sym, refl, ap, ◌∙◌, subst, ap₂, arith}
use Rattle.std.proofs.lemmas.List.{length-map, length-append, length-replicate, get_or-map, get_or-take, ext_get_or}
use Rattle.types.specs.declared.TypeNode.{TypeNode}
use Rattle.types.specs.Types.{Ty, variable, branch, apply}
use Rattle.types.specs.Lists.{node, zero_node}
use Rattle.normal.specs.Normal.{place, postorders, firsts, parts, record_of, records, normal}
use Rattle.normal.specs.Built.{none}
use Rattle.normal.specs.Laws.{Simple}
use Rattle.normal.proofs.Parts.{firsts_grows}
use Rattle.normal.proofs.Meaning.{records_grow}
use Rattle.normal.proofs.Rename.{renaming_keeps_list}
use Rattle.graph.specs.Graph.{Says, Solves, Sound, Kept, Always}
use Rattle.graph.proofs.Writes.{inside_at}
use Rattle.graph.specs.declared.Node.{Node}
use Rattle.graph.specs.declared.Node.TheVariants.{Var, Base, Branch, Link}
use Rattle.walk.specs.Reads.{Reads, reads_variable, reads_base, reads_branch, reads_link, MostGeneral, Flat}
use Rattle.walk.specs.Work.{Work, work, State, Room, zeros}
use Rattle.walk.specs.Listing.{Sofar, Rooted, Columns, Narrow, SimpleNode, SimpleGraph, Canonical, Gathered, Listed, OneList}
use Rattle.walk.proofs.Graphs.{spelt_as, reads_one, general, reads_proper}
use Rattle.walk.proofs.Chains.{table_none}

-- ---- the start

zeros_le : (l : List ℕ) → zeros l ≤ length l
zeros_le [] = omega arith
zeros_le (zero ∷ xs) = omega (arith, zeros_le xs)
zeros_le (suc x ∷ xs) = omega (arith, zeros_le xs)

module _ (ns : List Node) (ms os hs xs : List ℕ) (n : ℕ) (clear : (k : ℕ) → get_or ms k 0 ≡ 0) where
  pub state_none : ((k : ℕ) → get_or hs k 0 ≡ 0) → State ns (work ms os hs xs 0) []
  state_none heads =
      record {
        marked = record { built = none; read = λ k p h d. absurd (omega (arith, clear k)); complete = λ k p h d. absurd (omega (arith, clear k)) };
        long = refl;
        made = λ p h. absurd (omega arith);
        table = table_none _ hs xs (λ k h. heads k);
      }

  pub room_none : length ms ≡ n → length os ≡ n → length hs ≡ n → length xs ≡ n → n ≤ 65536 → Room n (work ms os hs xs 0)
  room_none a b d e few = record { marks = a; origins = b; heads = d; nexts = e; rest = omega (arith, zeros_le ms); few = few }

-- what is filled with zeros
pub filled : (n k : ℕ) → ◌≡◌ {A = ℕ} (get_or (replicate n 0) k 0) 0
filled zero k = refl
filled (suc n) zero = refl
filled (suc n) (suc k) = filled n k

-- ---- the end

reads_simple : (ns : List Node) {i : ℕ} {t : Ty} → Sound ns → SimpleGraph ns → i < length ns → Reads ns i t → Simple t
reads_simple ns sound simple h (reads_variable e) = tt
reads_simple ns {i} sound simple h (reads_base e) = subst SimpleNode e (simple i h)
reads_simple ns {i} sound simple h (reads_branch {k = k} {l = l} {r = r} e p q) =
    let w = inside_at ns i (Branch k l r) sound h e in
    (subst SimpleNode e (simple i h), reads_simple ns sound simple w.0 p, reads_simple ns sound simple w.1 q)
reads_simple ns {i} sound simple h (reads_link {j = j} e p) = reads_simple ns sound simple (omega (arith, inside_at ns i (Link j) sound h e)) p

-- a type read for each node is a solution
module _ (ns : List Node) (sound : Sound ns) (τ : ℕ → Ty) (reads : (i : ℕ) → i < length ns → Reads ns i (τ i)) where
  pub reads_solve : Solves τ ns
  reads_solve i h = go (get_or ns i Var) refl
    where
      go : (x : Node) → get_or ns i Var ≡ x → Says τ i x
      go Var e = tt
      go (Base c) e = spelt_as ns (Base c) e (reads i h)
      go (Branch k l r) e =
          let w = spelt_as ns (Branch k l r) e (reads i h) in
          let d = inside_at ns i (Branch k l r) sound h e in
          w.4 ∙ ap₂ (branch k) (reads_one ns w.2 (reads l d.0)) (reads_one ns w.3 (reads r d.1))
      go (Link j) e = reads_one ns (spelt_as ns (Link j) e (reads i h)) (reads j (omega (arith, inside_at ns i (Link j) sound h e)))

  pub reads_general : MostGeneral τ ns
  reads_general = record { solves = reads_solve; general = λ v s i h. general ns v sound s h (reads i h) }

module _ (ns : List Node) (w w' : Work) (rs qs : List ℕ) (n : ℕ) (flat : Flat ns) (inside : (k : ℕ) → k < length rs → get_or rs k 0 < length ns) (rooted : Rooted ns w rs qs n) (rest : Sofar ns w' (λ k. k) (parts rooted.sofar.types) (length ns)) where
  abbrev all_types : ℕ → Ty
  all_types i = get_or rest.types i (variable 0)

  -- the roots' types are those of their nodes
  pub root_types : rooted.sofar.types ≡ map all_types rs
  root_types =
      let ts = rooted.sofar.types in
      ext_get_or (variable 0) ts (map all_types rs) (rooted.sofar.long ∙ sym (length-map rs all_types))
      (λ k h.
      let l : k < length rs = omega (arith, rooted.sofar.long) in
      reads_one ns (rooted.sofar.reads k l) (rest.reads (get_or rs k 0) (inside k l)) ∙ sym (get_or-map all_types rs k 0 (variable 0) l))

  pub canonical : Canonical ns rs qs
  canonical =
      record {
        types = all_types;
        general = reads_general ns flat.sound all_types rest.reads;
        proper = λ i h. reads_proper ns flat (rest.reads i h);
        simple = λ s i h. reads_simple ns flat.sound s h (rest.reads i h);
        places = λ k h.
            (rooted.placed k h
            ∙ ap₂ (λ (ts : List Ty) (t : Ty). place (parts ts) t) root_types (reads_one ns (rooted.sofar.reads k h) (rest.reads (get_or rs k 0) (inside k h))));
      }

  parts_long : length (parts rooted.sofar.types) ≡ n
  parts_long = rooted.sofar.state.long ∙ sym rooted.count

  pub wanted_below : (n ≤ length (firsts (parts rooted.sofar.types) (postorders rest.types))) × (length (firsts (parts rooted.sofar.types) (postorders rest.types)) ≡ w'.count)
  wanted_below =
      let ps = parts rooted.sofar.types in
      let g = firsts_grows ps (postorders rest.types) in
      (omega (arith, parts_long, ap length g.1, length-append ps g.0), rest.state.long)

  pub gathered : (ks ls xs : List ℕ) → Narrow n ks ls xs → Columns (firsts (parts rooted.sofar.types) (postorders rest.types)) n ks ls xs → w'.count ≤ length ns → Gathered ns rs qs ks ls xs n
  unfolding canonical
  gathered ks ls xs narrow columns room =
      let ts = rooted.sofar.types in
      let ps = parts ts in
      let us = firsts ps (postorders rest.types) in
      let e : take n (records us) ≡ normal (map all_types rs) =
      ap (λ (k : ℕ). take k (records us)) (sym parts_long) ∙ records_grow ps (postorders rest.types) rooted.sofar.state.marked.built ∙ ap normal root_types in
      record {
        found = canonical;
        count = sym parts_long ∙ sym (length-map ps (record_of ps)) ∙ ap (λ (l : List Ty). length (normal l)) root_types;
        row = λ p h. columns.row p h ∙ sym (get_or-take n (records us) p zero_node h) ∙ ap (λ (l : List TypeNode). get_or l p zero_node) e;
        narrow = narrow;
        within = omega (arith, wanted_below.0, wanted_below.1);
      }

pub gathered_as : (ns : List Node) (rs qs ks ls xs ks' ls' xs' : List ℕ) (n : ℕ) → ks' ≡ ks → ls' ≡ ls → xs' ≡ xs → Gathered ns rs qs ks ls xs n → Gathered ns rs qs ks' ls' xs' n
gathered_as ns rs qs ks ls xs ks' ls' xs' n a b d g = rw (a, b, d) g

-- the same solutions have the same most general one
pub canonical_kept : (ns ms : List Node) (rs qs : List ℕ) → Kept ns ms Always Always → length ms ≡ length ns → (SimpleGraph ns → SimpleGraph ms) → Canonical ms rs qs → Canonical ns rs qs
canonical_kept ns ms rs qs kept long simple c =
    record {
      types = c.types;
      general = record { solves = (kept.back c.types c.general.solves tt).0; general = λ v s i h. c.general.general v (kept.onto v s tt).0 i (omega arith) };
      proper = λ i h. c.proper i (omega arith);
      simple = λ s i h. c.simple (simple s) i (omega arith);
      places = c.places;
    }

-- ---- the memory

pub cleared : (l : List TypeNode) (n : ℕ) → l ≡ replicate n zero_node → l ≡ replicate (length l) zero_node
cleared l n e = e ∙ ap (λ (k : ℕ). replicate k zero_node) (sym (ap length e ∙ length-replicate n zero_node))

-- the rows are written, and what is behind them is cleared
pub listed : (ns ms : List Node) (rs qs ks ls xs : List ℕ) (n m : ℕ) (rows rest : List TypeNode) → Kept ns ms Always Always → length ms ≡ length ns → (SimpleGraph ns → SimpleGraph ms) → Gathered ms rs qs ks ls xs n
    → length rows ≡ n → ((p : ℕ) → p < n → get_or rows p zero_node ≡ node (get_or ks p 0) (get_or ls p 0) (get_or xs p 0)) → rest ≡ replicate m zero_node → Listed ns rs qs (rows ++ rest) n
unfolding canonical_kept
listed ns ms rs qs ks ls xs n m rows rest kept long simple g fits written clear =
    let list = normal (map g.found.types rs) in
    let e : rows ≡ list = ext_get_or zero_node rows list (fits ∙ g.count) (λ p h. (let l : p < n = omega arith in written p l ∙ g.row p l)) in
    let k : length rest ≡ length (rows ++ rest) - n = omega (arith, length-append rows rest) in
    record {
      found = canonical_kept ns ms rs qs kept long simple g.found;
      count = g.count;
      list = ap₂ (λ (x y : List TypeNode). x ++ y) e (cleared rest m clear ∙ ap (λ (j : ℕ). replicate j zero_node) k);
    }

-- ---- one list for all most general solutions

map_general : (ns : List Node) (τ σ : ℕ → Ty) → MostGeneral τ ns → Solves σ ns → (rs : List ℕ) → ((k : ℕ) → k < length rs → get_or rs k 0 < length ns) → map (apply σ) (map τ rs) ≡ map σ rs
map_general ns τ σ g s [] inside = refl
map_general ns τ σ g s (r ∷ rs) inside = ap₂ (λ (t : Ty) (ts : List Ty). t ∷ ts) (g.general σ s r (inside 0 (omega arith))) (map_general ns τ σ g s rs (λ k h. inside (suc k) (omega arith)))

pub one_list : OneList
one_list ns rs τ σ gτ gσ inside = renaming_keeps_list (map τ rs) (map σ rs) σ τ (map_general ns τ σ gτ gσ.solves rs inside) (map_general ns σ τ gσ gτ.solves rs inside)
