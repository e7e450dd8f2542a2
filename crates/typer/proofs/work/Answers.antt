use Rattle.std.proofs.Common.{◌≡◌, length, drop, refl, arith}
use Rattle.std.proofs.lemmas.List.{length-take-le}
use Rattle.typer.proofs.Wholes.{rest_written, whole_listing, nothing_listed}
use Rattle.typer.proofs.work.Goals as goal

pub returns-then-is_none-clause-listing : goal.returns-then-is_none-clause-listing
returns-then-is_none-clause-listing g c =
    let a = c.args.records in
    let sub = c.list_nodes-found.new.memory in
    let front : length sub ≡ a = omega (arith, c.list_nodes-found.auto.memory, length-take-le a c.args.types.now c.requires.serves.records) in
    nothing_listed _ _ _ _ _ _ _ _ c.is_none.ensures c.if-is_none.true
    (whole_listing _ _ _ _ sub c.clear.new.memory _ _ (omega (arith, front, c.requires.is)) c.list_nodes-found.ensures c.clear.ensures (rest_written sub (drop a c.args.types.now) c.clear.new.memory a _ front refl))

pub returns-else-is_none-clause-listing : goal.returns-else-is_none-clause-listing
returns-else-is_none-clause-listing g c =
    let a = c.args.records in
    let sub = c.list_nodes-found.new.memory in
    let front : length sub ≡ a = omega (arith, c.list_nodes-found.auto.memory, length-take-le a c.args.types.now c.requires.serves.records) in
    whole_listing _ _ _ _ sub c.clear.new.memory _ _ (omega (arith, front, c.requires.is)) c.list_nodes-found.ensures c.clear.ensures (rest_written sub (drop a c.args.types.now) c.clear.new.memory a _ front refl)
