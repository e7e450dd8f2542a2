use Rattle.derivation_check.proofs.Arrows.{decides_arrow}
use Rattle.derivation_check.proofs.node_types.NodeTypes.is_arrow.Goals as goal

pub returns : goal.returns
returns c = decides_arrow _ c.args.self.now.lawful c.args.self.now.once _ _ c.parts.ensures _ _ (c.args.self.now.inside _ c.requires.from) (c.args.self.now.inside _ c.requires.to) _ c.eq.ensures
