use Rattle.table.specs.declared.entry.Entry.{Entry}
use Rattle.table.proofs.Changes.{put_invariant, put_view}
use Rattle.table.proofs.table.Table.put.Goals as goal

pub invariant_of-next : goal.invariant_of-next
invariant_of-next c =
    let e : Entry = record { term = c.write-term.result; list = c.write-list.result } in
    let i = put_invariant c.args.self.now c.args.term.now c.args.list.now c.write-term.new.memory c.write-list.new.memory e c.used_terms.result c.used_types.result c.requires.free c.requires.few c.requires.terms c.requires.lists c.requires.proper c.used_terms.ensures.nodes c.used_types.ensures.nodes c.write-term.ensures c.write-list.ensures in
    record { entries_long = i.entries_long; terms_long = i.terms_long; types_long = i.types_long; few = i.few; terms_order = i.terms_order; lists_order = i.lists_order; terms_within = i.terms_within; lists_within = i.lists_within; rows_pass = i.rows_pass }

pub returns : goal.returns
returns c =
    let e : Entry = record { term = c.write-term.result; list = c.write-list.result } in
    put_view c.args.self.now c.args.term.now c.args.list.now c.write-term.new.memory c.write-list.new.memory e c.used_terms.result c.used_types.result c.requires.free c.requires.few c.requires.terms c.requires.lists c.requires.proper c.used_terms.ensures.nodes c.used_types.ensures.nodes c.write-term.ensures c.write-list.ensures
