use Rattle.std.proofs.Common.{arith}
use Rattle.table.specs.Entries.{in_use}
use Rattle.table.proofs.Changes.{fewer_rows, fewer_in_use, withdrawn_view}
use Rattle.table.proofs.table.Table.withdraw.Goals as goal

pub invariant_of-next : goal.invariant_of-next
invariant_of-next c =
    let t = c.args.self.now in
    let m = c.saturating_sub.result in
    let i = fewer_rows t (in_use m t.«open») (fewer_in_use t.count m t.«open» (omega (arith, c.saturating_sub.ensures))) in
    record { entries_long = i.entries_long; terms_long = i.terms_long; types_long = i.types_long; few = i.few; terms_order = i.terms_order; lists_order = i.lists_order; terms_within = i.terms_within; lists_within = i.lists_within; rows_pass = i.rows_pass }

pub returns : goal.returns
returns c = withdrawn_view c.args.self.now c.saturating_sub.result c.saturating_sub.ensures c.requires
