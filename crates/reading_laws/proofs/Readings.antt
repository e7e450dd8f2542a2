-- The laws of reading.
use Rattle.std.proofs.Common.{[], subst, arith}
use Rattle.formula.specs.Names.{Resolves}
use Rattle.formula.proofs.Steps.{resolved_nodes}
use Rattle.formula.proofs.Wholes.{one_tree, resolves_once}
use Rattle.reading_laws.specs.Laws.{FormulaIsOne, RefusalIsOne, RefusedOrRead, FormulaIsClosed, ReferencesAreBelow}
use Rattle.reading_laws.proofs.Terms.{resolved_closed, resolved_known, below_from_filed, filed_from_below}
use Rattle.reading_laws.proofs.Questions.{one_refusal, not_refused}

pub formula_is_one : FormulaIsOne
formula_is_one es text t u f g = resolves_once f.resolves (subst (λ x. Resolves es [] x u) (one_tree text g.tree f.tree g.parses f.parses) g.resolves)

pub refusal_is_one : RefusalIsOne
refusal_is_one es filed text room r s a b = one_refusal es filed text room a b

pub formula_is_closed : FormulaIsClosed
formula_is_closed es text t f = resolved_closed f.resolves

pub references_are_below : ReferencesAreBelow
references_are_below es filed text t f = (below_from_filed filed f.resolves, filed_from_below filed f.resolves)

pub refused_or_read : RefusedOrRead
refused_or_read es filed text room r t a f few fits below =
    let long = resolved_nodes f.resolves in
    not_refused es filed text room f.tree f.parses (omega arith) (omega arith) (resolved_known f.resolves) (filed_from_below filed f.resolves below) a
