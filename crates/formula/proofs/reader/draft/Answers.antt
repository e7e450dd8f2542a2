use Rattle.std.proofs.Common.{arith}
use Rattle.text.proofs.Exits.{exit_is}
use Rattle.formula.proofs.Rooms.{read_in_room}
use Rattle.formula.proofs.Wholes.{refused_text, refused_count, refused_room, refused_name, refused_reference, drafted}
use Rattle.formula.proofs.reader.draft.Goals as goal

pub returns-in_err-whole : goal.returns-in_err-whole
returns-in_err-whole g c =
    rw (exit_is c.from_residual.result _ c.from_residual.ensures.1) (refused_text _ _ _ _ _ c.in_err-whole.ensures)

pub returns-then-whole-gt-MOST_NODES : goal.returns-then-whole-gt-MOST_NODES
returns-then-whole-gt-MOST_NODES g c = refused_count _ _ _ _ _ _ c.in_ok-whole.ensures.read c.if-whole-gt-MOST_NODES.true

pub returns-then-whole-memory : goal.returns-then-whole-memory
returns-then-whole-memory g c = refused_room _ _ _ _ _ _ c.in_ok-whole.ensures.read c.if-whole-gt-MOST_NODES.false (omega arith)

pub returns-in-Some : goal.returns-in-Some
returns-in-Some g c = refused_name _ _ _ _ _ _ (read_in_room _ _ (omega (arith, c.if-whole-gt-MOST_NODES.false)) c.in_ok-whole.ensures) c.in-Some.at c.if-whole-gt-MOST_NODES.false (omega arith) c.in-Some.is

pub returns-in-Some-unfiled : goal.returns-in-Some-unfiled
returns-in-Some-unfiled g c = refused_reference _ _ _ _ _ _ (read_in_room _ _ (omega (arith, c.if-whole-gt-MOST_NODES.false)) c.in_ok-whole.ensures) c.in-Some-unfiled.at c.if-whole-gt-MOST_NODES.false (omega arith) c.in_default.is c.in-Some-unfiled.is

pub returns : goal.returns
returns g c = drafted _ _ _ _ _ _ (read_in_room _ _ (omega (arith, c.if-whole-gt-MOST_NODES.false)) c.in_ok-whole.ensures) c.if-whole-gt-MOST_NODES.false (omega arith) (omega arith) c.in_default.is c.in_default-unfiled.is
