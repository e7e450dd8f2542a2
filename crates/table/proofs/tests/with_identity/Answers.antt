use Rattle.std.proofs.Common.{[], ◌∷◌, length, sym, refl, subst, lit<}
use Rattle.term.specs.Terms.{abstraction, variable, prefix}
use Rattle.types.specs.Lists.{node}
use Rattle.types.proofs.Tested.{passed_lawful}
use Rattle.table.specs.Rows.{row, Proper}
use Rattle.table.specs.View.{View}
use Rattle.table.proofs.tests.with_identity.Goals as goal

identity_proper : Proper 0 (row (prefix (abstraction (variable 0))) (node 0 0 0 ∷ node 2 0 0 ∷ []))
identity_proper = record { formula = record { tree = abstraction (variable 0); code = refl; closed = lit< tt; below = tt }; lawful = passed_lawful (node 0 0 0 ∷ node 2 0 0 ∷ []) tt }

pub put-requires-clause-proper : goal.put-requires-clause-proper
put-requires-clause-proper c = subst (λ (v : View). Proper (length v.rows) (row (prefix (abstraction (variable 0))) (node 0 0 0 ∷ node 2 0 0 ∷ []))) (sym c.new-table.ensures) identity_proper
