use Rattle.std.proofs.Common.{rules, ◌<◌, length, get_or, refl, mod-lt, arith}
use borrow.Author.Tests.{tests}
use Rattle.types.specs.Lists.{zero_node}
use Rattle.walk.specs.Table.{bucket}
use Rattle.walk.proofs.Finding.{seek_start, chain_falls, serves_chain, found_in_chain}
use Rattle.walk.proofs.copying.find_equal.Goals as goal

pub find-requires-clause-callable : goal.find-requires-clause-callable
find-requires-clause-callable c =
    let a = c.args in
    let r = c.requires in
    let lt : bucket (length a.heads.now) a.x < length a.heads.now = mod-lt _ r.some in
    let low = (r.table.starts _ lt).low in
    serves_chain (chain_falls _ _ _ _ r.table r.chains r.few _ lt c.chain_of.result c.chain_of.ensures.nexts c.chain_of.ensures.at) (λ x q k. search rules)
    (λ x h. let l : x < length a.list.now = omega (arith, c.chain_of.ensures.at) in search rules)

pub returns : goal.returns
returns c =
    let a = c.args in
    let r = c.requires in
    let lt : bucket (length a.heads.now) a.x < length a.heads.now = mod-lt _ r.some in
    found_in_chain (λ p. get_or a.list.now p zero_node) a.count a.heads.now a.nexts.now a.x r.table _ _ (λ p q h k. search (rules, tests)) (λ p q h k. search (rules, tests)) c.chain_of.result c.find.new.self _ c.chain_of.ensures.nexts (rw c.chain_of.ensures.at (seek_start _ _ _ _ _ r.table _ refl lt)) c.find.ensures.ran
