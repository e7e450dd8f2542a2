use Rattle.std.proofs.Common.{refl, ap}
use Rattle.formula.specs.Parsing.{names_in}
use Rattle.formula.proofs.Scopes.{false_no, passed_one, passed_two, found_here, found_nowhere}
use Rattle.formula.proofs.names.Scope.index.Goals as goal

pub returns-in-Top : goal.returns-in-Top
returns-in-Top c = found_nowhere _ _ _ (rw (ap names_in c.in-Top.is) at c.links.invariant)

pub returns-then-bears : goal.returns-then-bears
returns-then-bears c = found_here _ _ _ _ _ (c.if-bears.ensures.0 refl) (rw (ap names_in c.in-One.is) at c.links.invariant)

pub links-preserved-in-One : goal.links-preserved-in-One
links-preserved-in-One c =
    passed_one _ _ _ _ _ _ (false_no c.if-bears.ensures.1) (rw (ap names_in c.in-One.is) at c.links.invariant) c.saturating_add-between.ensures

pub returns-then-bears-2 : goal.returns-then-bears-2
returns-then-bears-2 c = found_here _ _ _ _ _ (c.if-bears-2.ensures.0 refl) (rw (ap names_in c.in-Two.is) at c.links.invariant)

pub returns-then-bears-3 : goal.returns-then-bears-3
returns-then-bears-3 c =
    let first = passed_one _ _ _ _ _ _ (false_no c.if-bears-2.ensures.1) (rw (ap names_in c.in-Two.is) at c.links.invariant) c.saturating_add.ensures in
    found_here _ _ _ _ _ (c.if-bears-3.ensures.0 refl) first

pub links-preserved : goal.links-preserved
links-preserved c =
    passed_two _ _ _ _ _ _ _ (false_no c.if-bears-2.ensures.1) (false_no c.if-bears-3.ensures.1) (rw (ap names_in c.in-Two.is) at c.links.invariant) c.saturating_add-between-in-Two.ensures
