use Rattle.std.proofs.Common.{Some, sym, ◌∙◌, ap, slice_index}
use Rattle.derivation_check.proofs.Arrows.{arrow_node}
use Rattle.derivation_check.proofs.node_types.NodeTypes.parts.Goals as goal

pub returns-in-Some-Arrow : goal.returns-in-Some-Arrow
returns-in-Some-Arrow c = arrow_node c.args.self.now.list.now c.args.self.now.lawful (slice_index c.args.self.now.places.now c.args.i) c.in-Some-Arrow.from c.in-Some-Arrow.to (c.args.self.now.inside c.args.i c.requires) (sym c.shape.ensures ∙ c.in-Some-Arrow.is ∙ ap Some c.in-Some-Arrow.field-0-is)
