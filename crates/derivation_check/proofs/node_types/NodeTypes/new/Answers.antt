use Rattle.std.proofs.Common.{arith}
use Rattle.std.proofs.lemmas.Bool.Decides.{not_from_Decides}
use Rattle.derivation_check.proofs.Answering.{refused_length, refused_unlawful, refused_equal, refused_places}
use Rattle.derivation_check.proofs.node_types.NodeTypes.new.Goals as goal

pub returns-then-is_empty : goal.returns-then-is_empty
returns-then-is_empty c E K ts count = refused_length E K ts _ _ _ c.is_empty.ensures c.then-is_empty.either

pub returns-then-not-is_lawful : goal.returns-then-not-is_lawful
returns-then-not-is_lawful c E K ts count = refused_unlawful E K ts _ _ _ c.is_empty.ensures c.if-is_empty.false (omega arith) (not_from_Decides _ c.is_lawful.ensures c.if-not-is_lawful.true)

pub returns-then-not-is_once : goal.returns-then-not-is_once
returns-then-not-is_once c E K ts count = refused_equal E K ts _ _ (c.is_lawful.ensures.0 c.if-not-is_lawful.false) (not_from_Decides _ c.is_once.ensures.once c.if-not-is_once.true)

pub returns-then-not-are_places : goal.returns-then-not-are_places
returns-then-not-are_places c E K ts count =
    refused_places E K ts _ _ _ count (c.is_lawful.ensures.0 c.if-not-is_lawful.false) (c.is_once.ensures.once.0 c.if-not-is_once.false) (not_from_Decides _ c.are_places.ensures c.if-not-are_places.true)
