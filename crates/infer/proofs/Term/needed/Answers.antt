use Rattle.std.proofs.Common.{refl, rules}
use Rattle.std.proofs.iter.runs.Made.{chains}
use Rattle.std.proofs.lemmas.List.Recursion.{is_sum_by}
use Rattle.term.specs.declared.TermNode.{TermNode}
use Rattle.copy.specs.Instances.{Lists}
use Rattle.infer.specs.Heads.{head_of, head_need, need as total}
use Rattle.infer.proofs.Term.needed.Goals as goal

pub returns : goal.returns
returns g c =
    let E : Lists = g.E.Source.list c.args.self.now.entries.now in
    let K : Lists = g.K.Source.list c.args.self.now.kept.now in
    rw (is_sum_by (total E K) (λ (n : TermNode). head_need E K (head_of n)) refl (λ _ _. refl) c.args.self.now.nodes.now) (search (rules, chains))
