use Rattle.std.proofs.Common.{Ok, None, refl, ap, subst, arith}
use Rattle.std.proofs.lemmas.Result.{MatchResult-weaker}
use Rattle.text.proofs.Exits.{exit_is}
use Rattle.text.specs.Lexing.{sign_of}
use Rattle.grammar.specs.Machine.{start, after}
use Rattle.formula.specs.Parsing.{Follows}
use Rattle.formula.proofs.Signs.{start_stuck, after_stuck}
use Rattle.formula.proofs.Tokens.{reads_sign, blames_here, not_lambda, not_close, nothing_starts, nothing_follows}
use Rattle.formula.proofs.Writing.{part_end, written_end}
use Rattle.formula.proofs.Knowing.{settled_anyhow}
use Rattle.formula.proofs.Steps.{made_name, made_reference}
use Rattle.formula.proofs.Faulting.{blames_body, blames_more, blames_inside, blames_open}
use Rattle.formula.proofs.Covering.{covered_application, ended_expression}
use Rattle.formula.proofs.Rooms.{follows_in_room, group_in_room, more_in_room, abstraction_in_room}
use Rattle.formula.proofs.parser.Reader.+application_atom_expression.Goals as goal

pub application-returns-in_err-reach : goal.application-returns-in_err-reach
application-returns-in_err-reach g t c =
    rw (exit_is c.from_residual.result _ c.from_residual.ensures.1) c.in_err-reach.ensures.0

pub application-returns-in_err-follows : goal.application-returns-in_err-follows
application-returns-in_err-follows g t c =
    let exit = exit_is c.from_residual-in_err-follows.result _ c.from_residual-in_err-follows.ensures.1 in
    let sofar = c.atoms.invariant.1 c.args.out.now (omega arith) (follows_in_room _ _ (λ u a. covered_application _ _ _ _ _ _ _ _ a) c.in_ok-reach.ensures) in
    rw exit (λ ts r nl k. let m = sofar.read.made ts r in absurd (c.in_err-follows.ensures m.rest m.remains))

pub application-returns-in_err-next : goal.application-returns-in_err-next
application-returns-in_err-next g t c =
    let exit = exit_is c.from_residual-in_err-next.result _ c.from_residual-in_err-next.ensures.1 in
    let sofar = c.atoms.invariant.1 c.args.out.now (omega arith) (follows_in_room _ _ (λ u a. covered_application _ _ _ _ _ _ _ _ a) c.in_ok-reach.ensures) in
    let goes = subst (λ b. Follows c.args.self.now.lexer.text.now c.atoms.reach.end (Ok b)) c.if-branch.true c.in_ok-follows.ensures in
    rw exit (blames_more _ _ _ _ _ _ _ _ _ sofar.read.made goes c.in_err-next.ensures.1)

pub application-overflow_add-reach : goal.application-overflow_add-reach
application-overflow_add-reach g t c = let a = c.atoms.invariant.0 in omega (arith, a.small, a.within, a.less)

pub application-overflow_add-reach-in-atoms : goal.application-overflow_add-reach-in-atoms
application-overflow_add-reach-in-atoms g t c =
    let a = c.atoms.invariant.0 in
    let b = c.in_ok-next.ensures.read.advance in
    omega (arith, a.small, a.within, a.less, b.small, b.within, b.less)

pub application-overflow_add-reach-in-atoms-2 : goal.application-overflow_add-reach-in-atoms-2
application-overflow_add-reach-in-atoms-2 g t c =
    let a = c.atoms.invariant.0 in
    let b = c.in_ok-next.ensures.read.advance in
    omega (arith, a.small, a.within, a.less, b.small, b.within, b.less)

pub application-atoms-preserved : goal.application-atoms-preserved
application-atoms-preserved g t c =
    let inv = c.atoms.invariant in
    let a = inv.0 in
    let next = c.in_ok-next.ensures in
    let b = next.read.advance in (
      record { less = omega (arith, a.less, b.less); within = b.within; small = omega (arith, a.small, b.small, a.less, b.less) },
      λ o lo m. rw (c.or.ensures, c.or-in-atoms.ensures) (more_in_room _ _ _ _ o c.atoms.out c.lift.new.out c.atom-in-atoms.new.out _ _ _ _ c.min-start.result (inv.1 o lo m) (omega arith) c.lift.ensures (omega arith) (λ room. omega (arith, c.min-start.ensures)) (written_end c.min-start.result c.lift.new.out c.atom-in-atoms.new.out) (rw (part_end c.min-start.result c.lift.new.out) at next)),
    )

pub application-returns : goal.application-returns
application-returns g t c =
    let sofar = c.atoms.invariant.1 c.args.out.now (omega arith) (follows_in_room _ _ (λ u a. covered_application _ _ _ _ _ _ _ _ a) c.in_ok-reach.ensures) in
    let ends = subst (λ b. Follows c.args.self.now.lexer.text.now c.atoms.reach.end (Ok b)) c.if-branch.false c.in_ok-follows.ensures in
    follows_in_room _ _ (λ u covered. record { covered = covered; ends = ends }) sofar

pub atom-returns-in_err-found : goal.atom-returns-in_err-found
atom-returns-in_err-found g t c =
    let exit = exit_is c.from_residual.result _ c.from_residual.ensures.1 in
    let none = c.in_err-found.ensures in
    rw exit (λ ts r nl k. nothing_starts _ _ _ (none ts r) k, λ ts r go f k. absurd (nothing_follows _ (none ts r).0 go))

pub atom-returns-in_err-inner-in-Open : goal.atom-returns-in_err-inner-in-Open
atom-returns-in_err-inner-in-Open g t c =
    let exit = exit_is c.from_residual-in_err-inner-in-Open.result _ c.from_residual-in_err-inner-in-Open.ensures.1 in
    let o = reads_sign _ _ _ c.in_ok-found.ensures _ (ap sign_of c.in-Open.is) in
    rw exit (blames_inside _ _ _ _ o c.in_err-inner-in-Open.ensures)

pub atom-returns-in_err-end-in-Open : goal.atom-returns-in_err-end-in-Open
atom-returns-in_err-end-in-Open g t c =
    let exit = exit_is c.from_residual-in_err-end-in-Open.result _ c.from_residual-in_err-end-in-Open.ensures.1 in
    let o = reads_sign _ _ _ c.in_ok-found.ensures _ (ap sign_of c.in-Open.is) in
    let e = c.in_ok-inner-in-Open.ensures in
    rw exit (blames_open _ _ _ _ _ _ _ _ _ _ o e.read.covered.made (λ ts r. c.in_err-end-in-Open.ensures ts r (e.read.ends ts r)))

pub atom-returns-in-Name : goal.atom-returns-in-Name
atom-returns-in-Name g t c =
    let found = c.in_ok-found.ensures in
    let settled = settled_anyhow _ _ _ _ _ _ _ c.settle_in_room-unknown.ensures.settled in
    record {
      unknown = settled.0;
      read = record {
        advance = record { less = found.less; within = found.within; small = omega (arith, found.less) };
        made = made_name _ _ _ _ _ _ _ c.in_ok-found.found c.in-Name.name _ found c.in-Name.is settled.1;
      };
      looked_up = settled.2;
    }

pub atom-returns-in-Reference : goal.atom-returns-in-Reference
atom-returns-in-Reference g t c =
    let found = c.in_ok-found.ensures in
    record {
      unknown = None;
      read = record {
        advance = record { less = found.less; within = found.within; small = omega (arith, found.less) };
        made = made_reference _ _ _ _ _ _ _ c.in_ok-found.found c.in-Reference.number _ found c.in-Reference.is c.put.ensures c.unfiled-unfiled.ensures;
      };
      looked_up = λ fits. refl;
    }

pub atom-returns-in_ok-end-in-Open : goal.atom-returns-in_ok-end-in-Open
atom-returns-in_ok-end-in-Open g t c =
    let o = reads_sign _ _ _ c.in_ok-found.ensures _ (ap sign_of c.in-Open.is) in
    let e = c.in_ok-inner-in-Open.ensures in
    group_in_room _ _ _ _ _ _ _ _ _ _ _ o e c.in_ok-end-in-Open.ensures

pub atom-returns-in_default : goal.atom-returns-in_default
atom-returns-in_default g t c =
    let found = c.in_ok-found.ensures in
    let rest = c.in_default in (
      λ ts r nl k. blames_here _ _ _ found (start k) ts tt (start_stuck k _ _ (not_lambda _ _ _ found ts r nl) rest.not-Name rest.not-Reference rest.not-Open) r,
      λ ts r go h k. blames_here _ _ _ found (after h k) ts tt (after_stuck h k _ _ (not_close _ _ _ found ts r go) rest.not-Name rest.not-Reference rest.not-Open) r,
    )

pub expression-returns-in_err-head : goal.expression-returns-in_err-head
expression-returns-in_err-head g t c =
    rw (exit_is c.from_residual.result _ c.from_residual.ensures.1) c.in_err-head.ensures

pub expression-returns-in_default : goal.expression-returns-in_default
expression-returns-in_default g t c =
    let n = rw c.in_default.is at c.in_ok-head.ensures in
    MatchResult-weaker c.application.result c.application.ensures (λ q e. follows_in_room _ q (λ u a. ended_expression _ _ _ _ _ _ _ _ a) e) (λ f b ts r k. b ts r (n ts r) k)

pub expression-returns-in_err-body : goal.expression-returns-in_err-body
expression-returns-in_err-body g t c =
    let exit = exit_is c.from_residual-in_err-body.result _ c.from_residual-in_err-body.ensures.1 in
    let h = rw c.in-Some.is at c.in_ok-head.ensures in
    rw exit (blames_body _ _ c.in-Some.head _ h c.in_err-body.ensures)

pub expression-returns : goal.expression-returns
expression-returns g t c =
    let h = rw c.in-Some.is at c.in_ok-head.ensures in
    abstraction_in_room _ _ _ _ _ c.put.new.out c.expression.new.out _ _ c.in-Some.head _ c.min-start.result h c.put.ensures (λ some. omega (arith, c.min-start.ensures)) (omega arith) (written_end c.min-start.result c.put.new.out c.expression.new.out) (rw (part_end c.min-start.result c.put.new.out, c.under-inner.ensures) at c.in_ok-body.ensures)
