use Rattle.std.proofs.Common.{rules, ◌<◌, length, refl, mod-lt, arith}
use borrow.Author.Tests.{tests}
use Rattle.walk.specs.Table.{bucket}
use Rattle.walk.specs.Work.{key_of, part}
use Rattle.walk.proofs.Finding.{seek_start, chain_falls, serves_chain, found_in_chain}
use Rattle.walk.proofs.walking.Walk.find.Goals as goal

pub find-requires-clause-callable : goal.find-requires-clause-callable
find-requires-clause-callable c =
    let p = c.args.self.now in
    let r = c.requires.running in
    let t = r.state.1.table in
    let lt : bucket (length p.heads.now) c.args.x < length p.heads.now = mod-lt _ (omega (arith, r.room.heads)) in
    let low = (t.starts _ lt).low in
    serves_chain (chain_falls _ _ _ _ t (omega (arith, r.room.rest)) (omega (arith, r.room.rest)) _ lt c.chain_of.result c.chain_of.ensures.nexts c.chain_of.ensures.at) (λ x q k. search rules)
    (λ x h. let l : x < p.count = omega (arith, c.chain_of.ensures.at) in search rules)

pub returns : goal.returns
returns c ps s =
    let p = c.args.self.now in
    let r = c.requires.running in
    let lt : bucket (length p.heads.now) c.args.x < length p.heads.now = mod-lt _ (omega (arith, r.room.heads)) in
    found_in_chain (λ q. key_of ps (part ps q)) p.count p.heads.now p.nexts.now c.args.x s.table _ _ (λ p q h k. search (rules, tests)) (λ p q h k. search (rules, tests)) c.chain_of.result c.find.new.self _ c.chain_of.ensures.nexts (rw c.chain_of.ensures.at (seek_start _ _ _ _ _ s.table _ refl lt)) c.find.ensures.ran
