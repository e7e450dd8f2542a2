-- Every ledger that calls have fed keeps principal types.
use Rattle.std.proofs.Common.{◌≡◌, ℕ, ◌-◌, ◌<◌, List, [], ◌∷◌, ◌++◌, length, get_or, Some, None, Option, sym, ap, ◌∙◌, subst, ⊎_elim, arith, length-append}
use Rattle.std.proofs.lemmas.List.{append-nil, map-append, length-map, get_or_append_left, get_or-append_right}
use Rattle.std.proofs.str.Laws.{order}
use Rattle.types.specs.declared.TypeNode.{TypeNode}
use Rattle.term.specs.Terms.{Term, reference}
use Rattle.catalogue.specs.Entries.{Entry, AllLawful}
use Rattle.sources.specs.Laws.{list_lawful}
use Rattle.normal.specs.Normal.{normal_of}
use Rattle.theory.specs.Expansion.{row}
use Rattle.theory.specs.Principal.{KeptRow, Kept}
use Rattle.theory.proofs.Principals.{normal_is_kept}
use Rattle.ledger.specs.Ledger.{Row, Ledger, expansions, lists, kept, entered, held, all_rows}
use Rattle.ledger.specs.Calls.{Call, Reply}
use Rattle.ledger.specs.Steps.{Step, unsubmitted, submitted, not_filed, is_filed, not_dismissed, is_dismissed, candidate_open, nothing_filed, is_withdrawn, is_looked_at}
use Rattle.ledger.specs.Fed.{Fed, begun, fed, CandidateKept, AllExpanded, AllKept}
use Rattle.ledger.proofs.Expanding.{expanded_first, expanded_more}

module _ (rows : List Row) (r : Row) where
  -- the rows before the last are what they were
  first_expansion : (n : ℕ) → n < length rows → row (expansions (rows ++ (r ∷ []))) n ≡ row (expansions rows) n
  first_expansion n h =
      ap (λ l. get_or l n (reference n)) (map-append (λ (r : Row). r.expansion) rows (r ∷ [])) ∙ get_or_append_left (expansions rows) (r.expansion ∷ []) (reference n) n (omega (arith, length-map rows (λ (r : Row). r.expansion)))

  first_list : (n : ℕ) → n < length rows → kept (rows ++ (r ∷ [])) n ≡ kept rows n
  first_list n h =
      ap (λ l. get_or l n []) (map-append (λ (r : Row). r.list) rows (r ∷ [])) ∙ get_or_append_left (lists rows) (r.list ∷ []) [] n (omega (arith, length-map rows (λ (r : Row). r.list)))

  last_expansion : row (expansions (rows ++ (r ∷ []))) (length rows) ≡ r.expansion
  last_expansion =
      let long = length-map rows (λ (r : Row). r.expansion) in
      let z : length rows - length rows ≡ 0 = omega arith in
      ap (λ l. get_or l (length rows) (reference (length rows))) (map-append (λ (r : Row). r.expansion) rows (r ∷ []))
      ∙ get_or-append_right (expansions rows) (r.expansion ∷ []) (length rows) (length rows) (reference (length rows)) long (omega arith) ∙ ap (λ k. get_or (r.expansion ∷ []) k (reference (length rows))) z

  last_list : kept (rows ++ (r ∷ [])) (length rows) ≡ r.list
  last_list =
      let long = length-map rows (λ (r : Row). r.list) in
      let z : length rows - length rows ≡ 0 = omega arith in
      ap (λ l. get_or l (length rows) []) (map-append (λ (r : Row). r.list) rows (r ∷ [])) ∙ get_or-append_right (lists rows) (r.list ∷ []) (length rows) (length rows) [] long (omega arith) ∙ ap (λ k. get_or (r.list ∷ []) k []) z

kept_like : (es : List Entry) (x y : Term) (l m : List TypeNode) → x ≡ y → l ≡ m → KeptRow (entered es) x l → KeptRow (entered es) y m
kept_like es x y l m e f k = subst (λ z. KeptRow (entered es) z m) e (subst (KeptRow (entered es) x) f k)

-- filing adds the candidate's row, and withdrawing leaves the others
filed_kept : (es : List Entry) (rows : List Row) (r : Row) → Kept (entered es) (expansions rows) (kept rows) → KeptRow (entered es) r.expansion r.list → Kept (entered es) (expansions (rows ++ (r ∷ []))) (kept (rows ++ (r ∷ [])))
filed_kept es rows r k c n h =
    ⊎_elim
    (λ lt. kept_like es _ _ _ _ (sym (first_expansion rows r n lt)) (sym (first_list rows r n lt)) (k n (omega (arith, length-map rows (λ (r : Row). r.expansion)))))
    (λ ge.
    let e : n ≡ length rows = omega (arith, length-map (rows ++ (r ∷ [])) (λ (r : Row). r.expansion), length-append rows (r ∷ [])) in
    subst (λ m. KeptRow (entered es) (row (expansions (rows ++ (r ∷ []))) m) (kept (rows ++ (r ∷ [])) m)) (sym e) (kept_like es _ _ _ _ (sym (last_expansion rows r)) (sym (last_list rows r)) c))
    (order n (length rows))

withdrawn_kept : (es : List Entry) (rows : List Row) (r : Row) → Kept (entered es) (expansions (rows ++ (r ∷ []))) (kept (rows ++ (r ∷ []))) → Kept (entered es) (expansions rows) (kept rows)
withdrawn_kept es rows r k n h =
    let lt : n < length rows = omega (arith, length-map rows (λ (r : Row). r.expansion)) in
    kept_like es _ _ _ _ (first_expansion rows r n lt) (first_list rows r n lt) (k n (omega (arith, length-map (rows ++ (r ∷ [])) (λ (r : Row). r.expansion), length-append rows (r ∷ []))))

candidate_kept : (es : List Entry) (o : Option Row) (r : Row) → o ≡ Some r → CandidateKept es o → KeptRow (entered es) r.expansion r.list
candidate_kept es o r e c = subst (CandidateKept es) e c

-- all rows, when there is no candidate
no_candidate : (l : Ledger) → AllExpanded (all_rows l) → l.candidate ≡ None → AllExpanded l.rows
no_candidate l all e = subst AllExpanded (ap (λ (o : Option Row). l.rows ++ held o) e ∙ append-nil l.rows) all

with_candidate : (l : Ledger) (r : Row) → AllExpanded (all_rows l) → l.candidate ≡ Some r → AllExpanded (l.rows ++ (r ∷ []))
with_candidate l r all e = subst AllExpanded (ap (λ (o : Option Row). l.rows ++ held o) e) all

only_rows : (rows : List Row) → AllExpanded rows → AllExpanded (rows ++ [])
only_rows rows all = subst AllExpanded (sym (append-nil rows)) all

pub step_keeps : (es : List Entry) → AllLawful es → {l l' : Ledger} {c : Call} {r : Reply} → Step es l c r l' → AllKept es l → AllKept es l'
step_keeps es a (unsubmitted u) k = k
step_keeps es a {l = l} (submitted {t = t} {τ = τ} s) k =
    let q = s.ready.workable.read in
    record {
      rows = k.rows;
      candidate = normal_is_kept (entered es) _ τ (list_lawful es a) s.principal (omega (arith, s.fits));
      expanded = expanded_more l.rows t (normal_of τ) q.below (no_candidate l k.expanded q.begins.free);
    }
step_keeps es a (not_filed e) k = k
step_keeps es a {l = l} (is_filed {r = r} e) k =
    record { rows = filed_kept es l.rows r k.rows (candidate_kept es l.candidate r e k.candidate); candidate = tt; expanded = only_rows (l.rows ++ (r ∷ [])) (with_candidate l r k.expanded e) }
step_keeps es a (not_dismissed e) k = k
step_keeps es a {l = l} (is_dismissed {r = r} e) k = record { rows = k.rows; candidate = tt; expanded = only_rows l.rows (expanded_first l.rows r (with_candidate l r k.expanded e)) }
step_keeps es a (candidate_open e) k = k
step_keeps es a (nothing_filed e f) k = k
step_keeps es a {l = l} (is_withdrawn rows r e f) k =
    record {
      rows = withdrawn_kept es rows r (subst (λ x. Kept (entered es) (expansions x) (kept x)) f k.rows);
      candidate = tt;
      expanded = only_rows rows (expanded_first rows r (subst AllExpanded f (no_candidate l k.expanded e)));
    }
step_keeps es a (is_looked_at h) k = k

pub all_kept : (es : List Entry) → AllLawful es → {cs : List Call} {rs : List Reply} {l : Ledger} → Fed es cs rs l → AllKept es l
all_kept es a begun = record { rows = λ n h. absurd (omega arith); candidate = tt; expanded = λ n h. absurd (omega arith) }
all_kept es a (fed f s) = step_keeps es a s (all_kept es a f)
