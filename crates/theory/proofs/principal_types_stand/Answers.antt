use Rattle.theory.proofs.Principals.{principal_is_one, principal_renamed, principal_is_proper, principal_is_simple, normal_is_principal, normal_is_kept}
use Rattle.theory.proofs.principal_types_stand.Goals as goal

pub returns : goal.returns
returns c = record { one = principal_is_one; renamed = principal_renamed; proper = principal_is_proper; simple = principal_is_simple; normal = normal_is_principal; kept = normal_is_kept }
