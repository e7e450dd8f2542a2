use Rattle.std.proofs.Common.{◌≡◌, ℕ, ◌+◌, ◌-◌, Bool, length, drop, ap, ◌∙◌, rules, tests, arith, length-drop}
use Rattle.std.proofs.lemmas.Iterator.{YieldsList-from_slice}
use Rattle.std.proofs.lemmas.Iterator.Consumers.{count_from_yields_List}
use Rattle.std.proofs.lemmas.Iterator.Search.{YieldsList-from_take_while}
use Rattle.std.proofs.lemmas.List.{take_all}
use Rattle.std.proofs.lemmas.List.Folds.{length-prefix_len}
use Rattle.text.specs.Bytes.{class_of}
use Rattle.text.proofs.lexer.Lexer.run.Goals as goal

pub returns-clause-counts : goal.returns-clause-counts
returns-clause-counts g c = λ test tells.
    let text = c.args.self.now.text.now in
    let at = c.args.from in
    let passes : ℕ → Bool = λ b. test (class_of b) in
    let all : c.take_while.result.iter.rest.now ≡ drop at text = ap (λ s. s.rest.now) c.take_while.ensures.source ∙ c.iter.ensures.rest ∙ take_all (length text - at) (drop at text) (omega (arith, length-drop at text)) in
    ap (λ n. at + n) (count_from_yields_List _ c.count.result c.count.ensures.ran (YieldsList-from_take_while _ passes (YieldsList-from_slice (drop at text) all) c.take_while.ensures.closure c.take_while.ensures.done (λ x b q k. search (rules, tests, tells))) ∙ length-prefix_len passes (drop at text))
