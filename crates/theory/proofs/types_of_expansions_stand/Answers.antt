use Rattle.theory.proofs.Kept.{types_of_rows, types_of_expansions, principal_of_expansions, typeless_expansions, kept_grows, kept_shrinks}
use Rattle.theory.proofs.types_of_expansions_stand.Goals as goal

pub returns : goal.returns
returns c = record { rows = types_of_rows; types = types_of_expansions; principal = principal_of_expansions; typeless = typeless_expansions; grows = kept_grows; shrinks = kept_shrinks }
