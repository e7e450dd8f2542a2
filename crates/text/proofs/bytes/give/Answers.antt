use Rattle.std.proofs.Common.{◌≡◌, ℕ, ◌+◌, ◌-◌, ◌≤◌, ◌&&◌, cond, leb, List, length, get_or, replicate, length-drop, ap, ◌∙◌, arith}
use Rattle.std.proofs.lemmas.Bool.Decides.{nat_tests}
use Rattle.text.specs.declared.bytes.Class.{Class}
use borrow.Rule.Slice.PartMut.{put_mid}
use Rattle.std.proofs.lemmas.List.{places, length-take-le}
use Rattle.text.proofs.bytes.give.Goals as goal

given : {A : Type 0} (xs : List A) (f l k b : ℕ) (x d : A) → f ≤ l → l + 1 ≤ length xs → k ≡ l + 1 - f → get_or (put_mid f (l + 1 - f) xs (replicate k x)) b d ≡ cond (leb f b && leb b l) x (get_or xs b d)
given xs f l k b x d o h e = grind (arith, nat_tests, places)

pub returns : goal.returns
returns c = λ b. ap (λ ys. get_or (put_mid c.args.first (c.args.last + 1 - c.args.first) c.args.table.now ys) b _) (c.fill.ensures.after (λ y e. e)) ∙ given c.args.table.now c.args.first c.args.last _ b c.args.class _ c.requires (omega arith) (omega (arith, length-take-le {A = Class}, length-drop {A = Class}))
