use Rattle.normal.proofs.Meaning.{one_list_renames}
use Rattle.normal.proofs.Rename.{renaming_keeps_list, mutual_renames, one_list_iff_mutual}
use Rattle.normal.proofs.renamings_stand.Goals as goal

pub returns : goal.returns
returns c = record { renamed = renaming_keeps_list; only = mutual_renames; alike = one_list_iff_mutual; together = one_list_renames }
