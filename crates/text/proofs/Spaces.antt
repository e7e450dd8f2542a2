-- Runs of bytes by their classes: the spaces before a token, and the bytes of a word.
use Rattle.std.proofs.Common.{◌≡◌, ℕ, suc, ◌+◌, ◌≤◌, Bool, true, false, cond, List, [], ◌∷◌, length, get_or, drop, sym, refl, ap, ◌∙◌, subst, arith, add-zero, length-drop}
use Rattle.std.specs.List.{prefix_len}
use Rattle.std.proofs.lemmas.List.{get_or-drop, drop-drop}
use Rattle.std.proofs.lemmas.List.Sums.{prefix_len-le-length, prefix_len_stops}
use Rattle.text.specs.Bytes.{class_of, in_name}
use Rattle.text.specs.Words.{lead}
use Rattle.text.specs.Tokens.{Scans, here, space}
use Rattle.text.specs.Lexing.{Passed}
use Rattle.text.specs.declared.bytes.Class.{Class}
use Rattle.text.specs.declared.bytes.Class.TheVariants.{Other, Letter, Digit, Underscore, Space, Mark}

pub lead_is : (bs : List ℕ) → prefix_len (λ b. in_name (class_of b)) bs ≡ lead bs
lead_is [] = refl
lead_is (b ∷ bs) = let e : 1 + prefix_len (λ x. in_name (class_of x)) bs ≡ suc (lead bs) = omega (arith, lead_is bs) in ap (λ n. cond (in_name (class_of b)) n 0) e

abbrev pub is_space : Class → Bool
is_space Other = false
is_space Letter = false
is_space Digit = false
is_space Underscore = false
is_space Space = true
is_space Mark = false

only_space : (c : Class) → is_space c ≡ true → c ≡ Space
only_space Other e = cc
only_space Letter e = cc
only_space Digit e = cc
only_space Underscore e = cc
only_space Space e = refl
only_space Mark e = cc

abbrev pub spaces : List ℕ → ℕ
spaces bs = prefix_len (λ b. is_space (class_of b)) bs

one_space : (o n b : ℕ) (bs : List ℕ) (t : Bool) → is_space (class_of b) ≡ t → Scans (o + 1) bs [] (o + 1 + n) (drop n bs) → Scans o (b ∷ bs) [] (o + cond t (1 + n) 0) (drop (cond t (1 + n) 0) (b ∷ bs))
one_space o n b bs true e s =
    let next : suc n ≡ 1 + n = omega arith in
    let end : o + 1 + n ≡ o + suc n = omega arith in
    subst (λ m. Scans o (b ∷ bs) [] (o + m) (drop m (b ∷ bs))) next (space (only_space _ e) (subst (λ p. Scans (o + 1) bs [] p (drop n bs)) end s))
one_space o n b bs false e s = subst (λ p. Scans o (b ∷ bs) [] p (b ∷ bs)) (sym (add-zero o)) here

passes : (o : ℕ) (bs : List ℕ) → Scans o bs [] (o + spaces bs) (drop (spaces bs) bs)
passes o [] = subst (λ p. Scans o [] [] p []) (sym (add-zero o)) here
passes o (b ∷ bs) = one_space o (spaces bs) b bs (is_space (class_of b)) refl (passes (o + 1) bs)

stops : (c : Class) → is_space c ≡ false → c ≡ Space → ⊥
stops c e s = let t : ◌≡◌ {A = ℕ} 0 1 = cc in omega arith

pub passed : (text : List ℕ) (o p : ℕ) → o ≤ length text → p ≡ o + spaces (drop o text) → Passed text o p
passed text o p h e =
    let n = spaces (drop o text) in
    let few : spaces (drop o text) ≤ length (drop o text) = prefix_len-le-length (λ b. is_space (class_of b)) (drop o text) in
    record {
      reached = omega arith;
      within = omega (arith, length-drop o text);
      scans = rw e (subst (λ l. Scans o (drop o text) [] (o + spaces (drop o text)) l) (drop-drop (spaces (drop o text)) o text) (passes o (drop o text)));
      stops = λ l. stops _ (ap (λ k. is_space (class_of k)) (ap (λ i. get_or text i 0) e ∙ sym (get_or-drop o text (spaces (drop o text)) 0)) ∙ prefix_len_stops (λ b. is_space (class_of b)) (drop o text) 0 (omega (arith, length-drop o text)));
    }
