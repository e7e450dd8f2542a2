use Rattle.std.proofs.Common.{arith}
use Rattle.walk.proofs.Copied.{graph_sound, graph_solved, normalized}
use Rattle.walk.proofs.normalize_lawful.Goals as goal

pub list_types-requires-clause-sound : goal.list_types-requires-clause-sound
list_types-requires-clause-sound c = graph_sound c.args.list.now c.copy.new.memory c.requires.lawful (omega (arith, c.copy.auto.memory)) c.copy.ensures

pub unreachable-requires : goal.unreachable-requires
unreachable-requires c = graph_solved c.args.list.now c.copy.new.memory c.requires.lawful (omega (arith, c.copy.auto.memory)) c.copy.ensures c.in-Err.ensures.0

pub returns : goal.returns
returns c = normalized c.args.list.now c.copy.new.memory c.requires.lawful (omega (arith, c.copy.auto.memory)) c.copy.ensures _ _ _ c.in-Ok.ensures
