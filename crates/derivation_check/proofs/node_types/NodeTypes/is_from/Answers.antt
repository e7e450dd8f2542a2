use Rattle.derivation_check.proofs.Arrows.{decides_from}
use Rattle.derivation_check.proofs.node_types.NodeTypes.is_from.Goals as goal

pub returns-in-Some : goal.returns-in-Some
returns-in-Some c = decides_from _ c.args.self.now.lawful c.args.self.now.once _ _ _ c.in-Some.ensures _ (c.args.self.now.inside _ c.requires.part)
