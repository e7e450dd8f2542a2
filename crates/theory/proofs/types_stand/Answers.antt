use Rattle.theory.proofs.Types.{typings_give_types, typed_is_closed, typed_is_whole, types_have_instances, outer_binders_idle, later_rows_idle}
use Rattle.theory.proofs.types_stand.Goals as goal

pub returns : goal.returns
returns c = record { typings = typings_give_types; closed = typed_is_closed; whole = typed_is_whole; instances = types_have_instances; binders = outer_binders_idle; rows = later_rows_idle }
