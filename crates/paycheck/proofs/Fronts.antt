-- What stands at the front of the memories that a line was read and typed in.
use Rattle.std.proofs.Common.{◌≡◌, ℕ, ◌≤◌, List, ◌++◌, length, take, Err, sym, ap, ◌∙◌, subst, arith}
use Rattle.std.proofs.lemmas.List.{take_at}
use Rattle.refusal.specs.Saying.{saying}
use Rattle.refusal.specs.declared.Layer.TheVariants as layer
use Rattle.refusal.specs.declared.Refusal.{Refusal}
use Rattle.types.specs.declared.TypeNode.{TypeNode}
use Rattle.types.specs.Lists.{Lawful}
use Rattle.term.specs.declared.TermNode.{TermNode}
use Rattle.term.specs.Terms.{prefix}
use Rattle.catalogue.specs.Table.{builtin}
use Rattle.formula.specs.Reading.{Accepted}
use Rattle.infer.specs.Heads.{need}
use Rattle.normal.specs.Normal.{normal_of}
use Rattle.printing.specs.declared.ShowFault.{ShowFault}
use Rattle.printing.specs.Writing.{Printed, Overlong, Shown}
use Rattle.typer.specs.Questions.{Unserved}
use Rattle.typer.specs.Answers.{Typed, NoTypes}
use Rattle.typer.specs.Answers as typing
use Rattle.paycheck.specs.Replies.{entries, nothing, Types, Refused, unserved, no_type, too_long}

front_of : {X : Type 0} (m l r : List X) (n : ℕ) → m ≡ l ++ r → n ≡ length l → take n m ≡ l
front_of m l r n e f = ap (take n) e ∙ take_at l r n (sym f)

module _ (line : List ℕ) (terms : List TermNode) (n : ℕ) (a : Accepted builtin 0 line terms n) where
  pub term_front : take n terms ≡ prefix a.term
  term_front = front_of terms (prefix a.term) _ n a.holds a.count

  pub untyped : (types types' : List TypeNode) (numbers numbers' : List ℕ) (room bytes : ℕ) {r : Refusal} → length line ≤ 4096 → typing.Refuses entries nothing (take n terms) types types' numbers numbers' r → Refused line room (length types) (length numbers) bytes r
  untyped types types' numbers numbers' room bytes h (typing.unserved {r = r} u e f) =
      unserved h a.formula (subst (λ ts. Unserved (need entries nothing ts) (length ts) (length types) (length numbers) r) term_front u)
  untyped types types' numbers numbers' room bytes h (typing.no_type s u e f) = no_type h a.formula (subst (NoTypes entries nothing) term_front u)

  module _ (types : List TypeNode) (numbers : List ℕ) (m : ℕ) (t : Typed entries nothing (take n terms) types numbers m) where
    list_front : take m types ≡ normal_of t.type
    list_front = front_of types (normal_of t.type) _ m t.holds t.count

    pub lawful_front : Lawful (take m types)
    lawful_front = subst Lawful (sym list_front) (t.lawful a.term (sym term_front))

    pub types_line : (before after : List ℕ) (k : ℕ) → length line ≤ 4096 → Printed (take m types) before after k → Types line before after k
    types_line before after k h p =
        let q = subst (λ l. Printed l before after k) list_front p in
        record {
          short = h;
          term = a.term;
          formula = a.formula;
          type = t.type;
          principal = t.principal a.term (sym term_front);
          answer = q.answer;
          fits = omega (arith, q.answer, q.prints.inside);
          written = q.leaves;
        }

    pub too_long_line : (before after : List ℕ) (room types_room numbers_room : ℕ) → length line ≤ 4096 → Overlong (take m types) before after → Refused line room types_room numbers_room (length before) (saying 71 layer.Book 0)
    too_long_line before after room types_room numbers_room h p =
        let q = subst (λ l. Overlong l before after) list_front p in
        too_long h a.formula (t.principal a.term (sym term_front)) q.long

-- what is not shown for a reason
pub shown_for : (l : List TypeNode) (before after : List ℕ) (f g : ShowFault) → f ≡ g → Shown l before after (Err f) → Shown l before after (Err g)
shown_for l before after f g e s = subst (λ h. Shown l before after (Err h)) e s
