use Rattle.lines.proofs.Types.{printed, words_instead}
use Rattle.lines.proofs.put_type.Goals as goal

pub returns-in-Ok : goal.returns-in-Ok
returns-in-Ok c = printed c.args.out.now c.args.at c.args.list.now c.show.new.out c.in-Ok.bytes c.in-Ok.ensures

pub returns-in-Err : goal.returns-in-Err
returns-in-Err c =
    words_instead c.args.out.now c.args.at c.args.list.now c.show.new.out _ c.in-Err.field-0 _ c.requires.lawful c.requires.room c.in-Err.ensures c.put.ensures
