-- One line more to submit and to file.
use Rattle.std.proofs.Common.{◌≡◌, ℕ, List, [], ◌∷◌, ◌++◌, Some, sym, refl, ap, ◌∙◌, subst}
use Rattle.book.specs.declared.dealing.Dealing.{Dealing}
use Rattle.book.specs.declared.dealing.Dealing.TheVariants.{Submit, File}
use Rattle.cutting.specs.declared.Cutter.{Cutter}
use Rattle.cutting.specs.declared.Line.{Line}
use Rattle.cutting.specs.Lines.{Cut, Lines, none, more, Begins, Gives}
use Rattle.desk.specs.Plans.{plan}

-- the dealings of the lines that were cut off already
pub record Built (input : List ℕ) (rest : Cutter) (ds : List Dealing) : Type 0 where
  pub same : rest.input.now ≡ input
  pub lines : List Line
  pub before : Lines input rest.at lines
  pub is : ds ≡ plan lines

pub built_none : (input : List ℕ) (rest : Cutter) (ds : List Dealing) → Begins input rest → ds ≡ [] → Built input rest ds
built_none input rest ds b e = record { same = b.whole; lines = []; before = subst (λ (n : ℕ). Lines input n []) (sym b.front) none; is = e }

plan_more : (ls : List Line) (l : Line) → plan (ls ++ (l ∷ [])) ≡ (plan ls ++ (Submit l.from l.to ∷ [])) ++ (File ∷ [])
plan_more [] l = refl
plan_more (m ∷ ls) l = ap (λ (ds : List Dealing). Submit m.from m.to ∷ (File ∷ ds)) (plan_more ls l)

pub built_more : (input : List ℕ) (rest rest' : Cutter) (ds es fs : List Dealing) (l : Line) → Built input rest ds → Gives rest (Some l) rest' → es ≡ ds ++ (Submit l.from l.to ∷ []) → fs ≡ es ++ (File ∷ []) → Built input rest' fs
built_more input rest rest' ds es fs l b g e f =
    let cut = subst (λ (i : List ℕ). Cut i rest.at l) b.same g.gives.0 in
    record {
      same = g.same ∙ b.same;
      lines = b.lines ++ (l ∷ []);
      before = subst (λ (n : ℕ). Lines input n (b.lines ++ (l ∷ []))) (sym g.gives.1) (more b.before cut);
      is = f ∙ ap (λ (xs : List Dealing). xs ++ (File ∷ [])) (e ∙ ap (λ (xs : List Dealing). xs ++ (Submit l.from l.to ∷ [])) b.is) ∙ sym (plan_more b.lines l);
    }
