use Rattle.std.proofs.Common.{◌≡◌, ℕ, ◌<◌, List, Result, length, take, ap, subst, ◌∙◌, min, arith}
use Rattle.std.proofs.lemmas.List.{get_or_default, take_all, take_min, length-take}
use Rattle.catalogue.specs.Entries.{Entry}
use Rattle.book.specs.declared.dealing.Answer.{Answer}
use Rattle.book.specs.declared.dealing.Dealing.{Dealing}
use Rattle.book.specs.declared.dealing.Dealing.TheVariants as dealing
use Rattle.book.specs.declared.fault.BookFault.{BookFault}
use Rattle.book.specs.Dealing.{Dealt, rooms_of}
use Rattle.book.specs.History.{Faithful}
use Rattle.book.proofs.Dealt.{ran_none, ran_more, carries_in}
use Rattle.book.proofs.carrying.keep_book.Goals as goal

pub dealings-init : goal.dealings-init
dealings-init g c = ran_none _ _ _ _ _ _

pub dealings-preserved : goal.dealings-preserved
dealings-preserved g c =
    let i = c.dealings.i in
    let ds = c.front-answered.result.now in
    let k = c.dealings.auto in
    let size : length ds ≡ min (length c.args.answers.now) (length c.args.dealings.now) = ap length c.front-answered.ensures ∙ length-take (length c.args.answers.now) c.args.dealings.now in
    let lt : i < length c.dealings.answers = omega (arith, k.answers, c.dealings-test.true, size) in
    ran_more g.C.Catalogue.entries c.new-book.result c.dealings.book c.carry_out.new.self c.args.texts.now _ ds c.dealings.answers i _ dealing.File c.carry_out.result c.dealings-test.true lt (get_or_default ds i _ dealing.File c.dealings-test.true) c.dealings.invariant
    (carries_in g.C.Catalogue.entries c.dealings.book c.carry_out.new.self c.args.texts.now _ _ _ c.carry_out.result k.terms k.types k.numbers k.places k.out c.carry_out.ensures)

pub returns : goal.returns
returns g c =
    let entries = g.C.Catalogue.entries in
    let i = c.dealings.i in
    let ds = c.args.dealings.now in
    let bs = c.dealings.answers in
    let k = c.dealings.auto in
    let r = c.dealings.invariant in
    let texts = c.args.texts.now in
    let rooms = rooms_of c.args.terms.now c.args.types.now c.args.numbers.now c.args.places.now c.args.out.now in
    let size : length c.front-answered.result.now ≡ min (length c.args.answers.now) (length ds) = ap length c.front-answered.ensures ∙ length-take (length c.args.answers.now) ds in
    let count : i ≡ min (length ds) (length bs) = omega (arith, k.i-end, k.answers, c.dealings-test.false, size) in
    let dealings = take_all i c.front-answered.result.now c.dealings-test.false ∙ c.front-answered.ensures in
    let answers = ap (λ (n : ℕ). take n bs) count ∙ take_min (length ds) bs in
    let all = c.new-book.ensures.every r.history c.dealings.book r.run in
    record {
      history = r.history;
      dealt = subst (λ (xs : List Dealing). Dealt texts rooms xs (take (length ds) bs) r.history) dealings
          (subst (λ (ys : List (Result Answer BookFault)). Dealt texts rooms (take i c.front-answered.result.now) ys r.history) answers r.dealt);
      faithful = subst (λ (es : List Entry). Faithful entries es r.history c.dealings.book) (ap entries c.new-book.ensures.given) all;
    }
