use Rattle.std.proofs.Common.{ℕ, length, refl, subst}
use Rattle.std.proofs.lemmas.Result.{err_from_is_err_and}
use Rattle.formula.specs.Faults.{says as formula_says}
use Rattle.formula.specs.Reading.{Accepted}
use Rattle.formula.specs.Reading as reading
use Rattle.table.specs.View.{view}
use Rattle.book.specs.Memories.{kept_lists, submission}
use Rattle.book.proofs.Judgements.{not_read, keepable, not_listed, found}
use Rattle.book.proofs.judging.judge.Goals as goal

pub returns-in_err-nodes : goal.returns-in_err-nodes
returns-in_err-nodes g c =
    let p = err_from_is_err_and c.from_residual.result c.from_residual.ensures.1 in
    let v = view c.args.table.now in
    let es = g.C.Catalogue.entries c.args.catalogue.now in
    let s = submission c.args.text.now c.args.terms.now c.args.types.now c.args.numbers.now in
    let f = subst (λ (n : ℕ). reading.Refuses es n s.text s.terms (formula_says c.in_err-nodes.field-0.0)) c.count.ensures.rows c.in_err-nodes.ensures.0 in
    rw (p.1, p.2) (record { keeps = refl; ledger = λ l st. not_read es v l st s c.requires f })

pub returns-in_err-records : goal.returns-in_err-records
returns-in_err-records g c =
    let p = err_from_is_err_and c.from_residual-in_err-records.result c.from_residual-in_err-records.ensures.1 in
    let v = view c.args.table.now in
    let es = g.C.Catalogue.entries c.args.catalogue.now in
    let s = submission c.args.text.now c.args.terms.now c.args.types.now c.args.numbers.now in
    let n = c.in_ok-nodes.nodes in
    let a = subst (λ (k : ℕ). Accepted es k s.text c.read.new.memory n) c.count.ensures.rows c.in_ok-nodes.ensures in
    rw (p.1, p.2) (record { keeps = c.in_err-records.ensures.1; ledger = λ l st. not_listed es v l st s c.requires c.read.new.memory c.read.auto.memory n a c.in_err-records.ensures.0 })

pub returns : goal.returns
returns g c =
    let v = view c.args.table.now in
    let es = g.C.Catalogue.entries c.args.catalogue.now in
    let s = submission c.args.text.now c.args.terms.now c.args.types.now c.args.numbers.now in
    let n = c.in_ok-nodes.nodes in
    let m = c.in_ok-records.records in
    let a = subst (λ (k : ℕ). Accepted es k s.text c.read.new.memory n) c.count.ensures.rows c.in_ok-nodes.ensures in
    let d = c.in_ok-records.ensures in
    record {
      keeps = keepable es (length v.rows) s.text c.read.new.memory n a (kept_lists v) v refl s.types s.numbers c.list_type.new.types c.list_type.new.numbers m d;
      ledger = λ l st. found es v l st s c.requires c.read.new.memory c.read.auto.memory n a c.list_type.new.types c.list_type.new.numbers m d;
    }
