use Rattle.std.proofs.Common.{rules, ◌≡◌, ℕ, [], length, get_or, replicate, ap, ◌∙◌}
use Rattle.walk.specs.Lent.{nodes}
use Rattle.walk.proofs.Whole.{filled, state_none, room_none}
use Rattle.walk.proofs.walking.Walk.clear.Goals as goal

pub returns-clause-running : goal.returns-clause-running
returns-clause-running c =
    let ns = nodes c.args.self.now in
    let m : c.fill.new.self ≡ replicate (length c.args.self.now.marks.now) 0 = c.fill.ensures.after (λ y h. search rules) in
    let d : c.fill-2.new.self ≡ replicate (length c.args.self.now.heads.now) 0 = c.fill-2.ensures.after (λ y h. search rules) in
    let clear : (k : ℕ) → get_or c.fill.new.self k 0 ≡ 0 = λ k. ap (λ l. get_or l k 0) m ∙ filled _ k in
    record {
      flat = c.requires.flat;
      room = room_none ns _ _ _ _ _ clear (c.fill.ensures.len ∙ c.requires.first) c.requires.second (c.fill-2.ensures.len ∙ c.requires.third) c.requires.fourth c.requires.few;
      state = ([], state_none ns _ _ _ _ 0 clear (λ k. ap (λ l. get_or l k 0) d ∙ filled _ k));
    }

pub returns-clause-start : goal.returns-clause-start
returns-clause-start c =
    let m : c.fill.new.self ≡ replicate (length c.args.self.now.marks.now) 0 = c.fill.ensures.after (λ y h. search rules) in
    let d : c.fill-2.new.self ≡ replicate (length c.args.self.now.heads.now) 0 = c.fill-2.ensures.after (λ y h. search rules) in
    state_none (nodes c.args.self.now) _ _ _ _ 0 (λ k. ap (λ l. get_or l k 0) m ∙ filled _ k) (λ k. ap (λ l. get_or l k 0) d ∙ filled _ k)
