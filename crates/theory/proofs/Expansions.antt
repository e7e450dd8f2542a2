-- Expansions are closed and without references, and stay when rows are added.
use Rattle.std.proofs.Common.{◌≡◌, ℕ, suc, ◌<◌, ◌≤◌, List, ◌++◌, length, refl, ap, ap₂, ⊎_elim, arith}
use Rattle.std.specs.List.{AllByRecursion}
use Rattle.std.proofs.lemmas.List.{get_or_append_left, get_or_past}
use Rattle.std.proofs.ByRecursion.{All-get_or}
use Rattle.std.proofs.lemmas.Bool.{cases_lt}
use Rattle.term.specs.Terms.{Term, variable, abstraction, application, primitive, reference}
use Rattle.theory.specs.Closed.{Closed, Below}
use Rattle.theory.specs.Expansion.{row, expand}
use Rattle.theory.specs.Laws.{ExpansionsClosed, ExpansionsWhole, ExpansionsLast}

-- binders around a closed term leave it closed
pub closed_more : (t : Term) (d e : ℕ) → d ≤ e → Closed d t → Closed e t
closed_more (variable n) d e h c = omega arith
closed_more (abstraction b) d e h c = closed_more b (suc d) (suc e) (omega arith) c
closed_more (application f a) d e h c = (closed_more f d e h c.0, closed_more a d e h c.1)
closed_more (primitive k) d e h c = tt
closed_more (reference n) d e h c = tt

pub below_more : (t : Term) (k m : ℕ) → k ≤ m → Below k t → Below m t
below_more (variable n) k m h b = tt
below_more (abstraction x) k m h b = below_more x k m h b
below_more (application f a) k m h b = (below_more f k m h b.0, below_more a k m h b.1)
below_more (primitive p) k m h b = tt
below_more (reference n) k m h b = omega arith

module _ (xs : List Term) where
  row_closed : AllByRecursion (Closed 0) xs → (n d : ℕ) → Closed d (row xs n)
  row_closed all n d =
      ⊎_elim
      (λ (h : n < length xs). closed_more (row xs n) 0 d (omega arith) (All-get_or (Closed 0) xs n (reference n) h all))
      (λ (h : length xs ≤ n). rw (get_or_past xs n (reference n) h) tt)
      (cases_lt n (length xs))

  expand_closed : AllByRecursion (Closed 0) xs → (t : Term) (d : ℕ) → Closed d t → Closed d (expand xs t)
  expand_closed all (variable n) d c = c
  expand_closed all (abstraction b) d c = expand_closed all b (suc d) c
  expand_closed all (application f a) d c = (expand_closed all f d c.0, expand_closed all a d c.1)
  expand_closed all (primitive k) d c = tt
  expand_closed all (reference n) d c = row_closed all n d

  expand_whole : AllByRecursion (Below 0) xs → (t : Term) → Below (length xs) t → Below 0 (expand xs t)
  expand_whole all (variable n) b = tt
  expand_whole all (abstraction x) b = expand_whole all x b
  expand_whole all (application f a) b = (expand_whole all f b.0, expand_whole all a b.1)
  expand_whole all (primitive k) b = tt
  expand_whole all (reference n) b = All-get_or (Below 0) xs n (reference n) b all

  expand_last : (ys : List Term) (t : Term) → Below (length xs) t → expand (xs ++ ys) t ≡ expand xs t
  expand_last ys (variable n) b = refl
  expand_last ys (abstraction x) b = ap abstraction (expand_last ys x b)
  expand_last ys (application f a) b = ap₂ application (expand_last ys f b.0) (expand_last ys a b.1)
  expand_last ys (primitive k) b = refl
  expand_last ys (reference n) b = get_or_append_left xs ys (reference n) n b

pub expansions_closed : ExpansionsClosed
expansions_closed xs d t all c = expand_closed xs all t d c

pub expansions_whole : ExpansionsWhole
expansions_whole xs t all b = expand_whole xs all t b

pub expansions_last : ExpansionsLast
expansions_last xs ys t b = expand_last xs ys t b
