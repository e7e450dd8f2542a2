use Rattle.std.proofs.Common.{◌≡◌, ◌*◌, ◌∙◌, refl, arith, rules}
use Rattle.types.specs.Lists.{zero_node}
use Rattle.catalogue_file.proofs.Nodes.{left, node_read, no_node}
use Rattle.catalogue_file.proofs.parts.node_at.Goals as goal

pub returns-in-len5-up : goal.returns-in-len5-up
returns-in-len5-up c =
    node_read c.args.rest.now c.unwrap_or.result.now c.args.i (left c.args.rest.now (5 * c.args.i) _ _ _ c.get.ensures.lookup refl c.unwrap_or.ensures) _ _ c.in-len5-up.len_at_least (omega (arith, c.from_le_bytes.ensures)) (omega (arith, c.from_le_bytes-in-len5-up.ensures))

pub returns-in_default : goal.returns-in_default
returns-in_default c =
    let zero : c.default.result ≡ zero_node = search rules in
    zero ∙ no_node c.args.rest.now c.unwrap_or.result.now c.args.i (left c.args.rest.now (5 * c.args.i) _ _ _ c.get.ensures.lookup refl c.unwrap_or.ensures) c.in_default.len_below
