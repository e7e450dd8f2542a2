use Rattle.std.proofs.Common.{◌≡◌, ◌≢◌, ℕ, Some, true, false, refl, rules, slice_index_or, sym, ap, ◌∙◌, arith}
use Rattle.types.specs.declared.Shape.TheVariants.{Base, Arrow}
use Rattle.types.specs.Lists.{zero_node}
use Rattle.types.specs.Shapes.{shape_of}
use Rattle.instance.proofs.Asking.{place_inside, step_free, step_variable, step_one_base, step_no_arrow, step_left, step_right}
use Rattle.instance.specs.Slots.{places}
use Rattle.instance.proofs.Slots.{place_at}
use Rattle.instance.proofs.matching.Matching.step.Goals as goal

pub returns-in-Some-Variable-clause-stepped : goal.returns-in-Some-Variable-clause-stepped
returns-in-Some-Variable-clause-stepped c =
    let m = c.args.self.now in
    let marked = place_at m.nodes c.args.at ∙ sym c.place.ensures ∙ c.in-Some.is in
    let asked = sym c.shape.ensures ∙ c.in-Some-Variable.is ∙ ap Some c.in-Some-Variable.field-0-is in
    step_variable m c.args.at c.requires.here c.requires.within c.in-Some.place marked c.in-Some-Variable.number asked (places c.give.new.table) c.give.result c.give.ensures

pub returns-in-Some-Base-clause-stepped : goal.returns-in-Some-Base-clause-stepped
returns-in-Some-Base-clause-stepped c =
    let m = c.args.self.now in
    let marked = place_at m.nodes c.args.at ∙ sym c.place.ensures ∙ c.in-Some.is in
    let asked = sym c.shape.ensures ∙ c.in-Some-Base.is ∙ ap Some c.in-Some-Base.field-0-is in
    let same : c.eq.result ≡ true → shape_of (slice_index_or m.special.now c.in-Some.place zero_node) ≡ Some (Base c.in-Some-Base.code) = λ e. search rules in
    let differ : c.eq.result ≡ false → shape_of (slice_index_or m.special.now c.in-Some.place zero_node) ≢ Some (Base c.in-Some-Base.code) = λ e is. search rules in
    step_one_base m c.args.at c.requires.here c.requires.within c.in-Some.place marked c.in-Some-Base.code asked c.eq.result same differ

pub returns-then-give-clause-stepped : goal.returns-then-give-clause-stepped
returns-then-give-clause-stepped c =
    let m = c.args.self.now in
    let marked = place_at m.nodes c.args.at ∙ sym c.place.ensures ∙ c.in-Some.is in
    let asked = sym c.shape.ensures ∙ c.in-Some-Arrow.is ∙ ap Some c.in-Some-Arrow.field-0-is in
    let has = sym c.shape-in-Some-Arrow.ensures ∙ c.in-Some-Arrow-shape.is ∙ ap Some c.in-Some-Arrow-shape.field-0-is in
    step_right m c.args.at c.requires.here c.requires.within c.in-Some.place marked c.in-Some-Arrow.left c.in-Some-Arrow.right asked c.in-Some-Arrow-shape.has_left c.in-Some-Arrow-shape.has_right has _ _ c.give-then-give.result c.if-give.ensures c.give-then-give.ensures

pub returns-else-give-clause-stepped : goal.returns-else-give-clause-stepped
returns-else-give-clause-stepped c =
    let m = c.args.self.now in
    let marked = place_at m.nodes c.args.at ∙ sym c.place.ensures ∙ c.in-Some.is in
    let asked = sym c.shape.ensures ∙ c.in-Some-Arrow.is ∙ ap Some c.in-Some-Arrow.field-0-is in
    let has = sym c.shape-in-Some-Arrow.ensures ∙ c.in-Some-Arrow-shape.is ∙ ap Some c.in-Some-Arrow-shape.field-0-is in
    step_left m c.args.at c.requires.here c.requires.within c.in-Some.place marked c.in-Some-Arrow.left c.in-Some-Arrow.right asked c.in-Some-Arrow-shape.has_left c.in-Some-Arrow-shape.has_right has _ c.give-in-Some-Arrow-shape.result c.if-give.false c.if-give.ensures

pub returns-in_default-shape : goal.returns-in_default-shape
returns-in_default-shape c =
    let m = c.args.self.now in
    let marked = place_at m.nodes c.args.at ∙ sym c.place.ensures ∙ c.in-Some.is in
    let asked = sym c.shape.ensures ∙ c.in-Some-Arrow.is ∙ ap Some c.in-Some-Arrow.field-0-is in
    let none : (a b : ℕ) → shape_of (slice_index_or m.special.now c.in-Some.place zero_node) ≢ Some (Arrow a b) = λ a b e. search rules in
    record {
      general = refl;
      special = refl;
      stepped = step_no_arrow m c.args.at c.requires.here c.requires.within c.in-Some.place marked c.in-Some-Arrow.left c.in-Some-Arrow.right asked none;
    }

pub returns-in_default-clause-stepped : goal.returns-in_default-clause-stepped
returns-in_default-clause-stepped c =
    let m = c.args.self.now in
    step_free m c.args.at c.requires.within (place_at m.nodes c.args.at ∙ sym c.place.ensures ∙ search rules)

pub bounds-self-place : goal.bounds-self-place
bounds-self-place c =
    let m = c.args.self.now in
    place_inside m c.args.at c.requires.here c.requires.within c.in-Some.place (place_at m.nodes c.args.at ∙ sym c.place.ensures ∙ c.in-Some.is)

pub give-requires-clause-small : goal.give-requires-clause-small
give-requires-clause-small c =
    let m = c.args.self.now in
    let inside = place_inside m c.args.at c.requires.here c.requires.within c.in-Some.place (place_at m.nodes c.args.at ∙ sym c.place.ensures ∙ c.in-Some.is) in
    omega (arith, m.special_lawful.few)
