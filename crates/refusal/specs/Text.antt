-- What is printed of a refusal.
use Rattle.std.specs.Prelude.{ℕ, List, ◌++◌, codes, decimal}
use Rattle.refusal.specs.declared.Refusal.{Refusal}

abbrev pub text : Refusal → List ℕ
text r = codes "refused " ++ (decimal r.number ++ (codes " at " ++ decimal r.place))
