use Rattle.typer.proofs.Renamed.{one_type_list, one_typing_list}
use Rattle.typer.proofs.one_answer_stands.Goals as goal

pub returns : goal.returns
returns c = record { types = one_type_list; typings = one_typing_list }
