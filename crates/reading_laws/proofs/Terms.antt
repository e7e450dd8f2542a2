-- What holds of a term holds of the tree that it comes from.
use Rattle.std.proofs.Common.{ℕ, List, length, inl, inr}
use Rattle.std.specs.List.{AllByRecursion}
use Rattle.std.proofs.ByRecursion.{All-append}
use Rattle.term.specs.Terms.{Term}
use Rattle.catalogue.specs.Names.{Name}
use Rattle.catalogue.specs.Entries.{Entry}
use Rattle.grammar.specs.Grammar.{Tree}
use Rattle.formula.specs.Names.{Resolves, bound, entered, refers, binds, applies, uses, Known, references, Filed}
use Rattle.theory.specs.Closed.{Closed, Below}
use Rattle.reading_laws.proofs.Splits.{all_left, all_right}

-- each variable has a binder of the scope or of the term
pub resolved_closed : {es : List Entry} {scope : List Name} {t : Tree} {u : Term} → Resolves es scope t u → Closed (length scope) u
resolved_closed (bound b) = b.within
resolved_closed (entered n l) = tt
resolved_closed refers = tt
resolved_closed (binds r) = resolved_closed r
resolved_closed (applies r s) = (resolved_closed r, resolved_closed s)

-- each name is known
pub resolved_known : {es : List Entry} {scope : List Name} {t : Tree} {u : Term} → Resolves es scope t u → AllByRecursion (Known es) (uses scope t)
resolved_known (bound {k = k} b) = (inl (k, b), tt)
resolved_known (entered {k = k} n l) = (inr (k, l.0), tt)
resolved_known refers = tt
resolved_known (binds r) = resolved_known r
resolved_known {es} (applies r s) = All-append (Known es) _ _ (resolved_known r) (resolved_known s)

module _ (filed : ℕ) where
  -- the references are the same
  pub below_from_filed : {es : List Entry} {scope : List Name} {t : Tree} {u : Term} → Resolves es scope t u → AllByRecursion (Filed filed) (references t) → Below filed u
  below_from_filed (bound b) h = tt
  below_from_filed (entered n l) h = tt
  below_from_filed refers h = h.0
  below_from_filed (binds r) h = below_from_filed r h
  below_from_filed (applies r s) h = (below_from_filed r (all_left (Filed filed) _ _ h), below_from_filed s (all_right (Filed filed) _ _ h))

  pub filed_from_below : {es : List Entry} {scope : List Name} {t : Tree} {u : Term} → Resolves es scope t u → Below filed u → AllByRecursion (Filed filed) (references t)
  filed_from_below (bound b) h = tt
  filed_from_below (entered n l) h = tt
  filed_from_below refers h = (h, tt)
  filed_from_below (binds r) h = filed_from_below r h
  filed_from_below (applies r s) h = All-append (Filed filed) _ _ (filed_from_below r h.0) (filed_from_below s h.1)
