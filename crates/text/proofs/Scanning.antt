-- Laws of reading a text as tokens: readings join, and from one place there is only one.
use Rattle.std.proofs.Common.{◌≡◌, ℕ, suc, ◌+◌, ◌-◌, ◌<◌, true, cond, List, [], ◌∷◌, ◌++◌, length, get_or, take, drop, Some, sym, ap, ◌∙◌, subst, arith}
use Rattle.std.proofs.lemmas.List.{drop_more, drop-drop}
use Rattle.text.specs.Bytes.{class_of, in_name}
use Rattle.text.specs.Words.{lead, run, IsName, IsNumber}
use Rattle.text.specs.Tokens.{Sign, Token, token, name, reference, single, Scans, here, space, mark, word, number, Stray, other, no_name, no_number}
use Rattle.text.specs.declared.bytes.Class.TheVariants.{Other}
use Rattle.text.specs.Lexing.{Passed, Found}
use Rattle.text.specs.declared.token.Lexeme.{Lexeme}

pub join : {o p q : ℕ} {bs cs ds : List ℕ} {us vs : List Token} → Scans o bs us p cs → Scans p cs vs q ds → Scans o bs (us ++ vs) q ds
join here s = s
join (space e r) s = space e (join r s)
join (mark e r) s = mark e (join r s)
join (word w r) s = word w (join r s)
join (number e w r) s = number e w (join r s)

-- one byte more of a run
pub lead_more : (text : List ℕ) (o : ℕ) → o < length text → in_name (class_of (get_or text o 0)) ≡ true → lead (drop o text) ≡ suc (lead (drop (o + 1) text))
lead_more text o h e = ap lead (drop_more text o 0 h) ∙ ap (λ b. cond b (suc (lead (drop (o + 1) text))) 0) e

pub lead_some : (text : List ℕ) (o : ℕ) → o < length text → in_name (class_of (get_or text o 0)) ≡ true → 0 < lead (drop o text)
lead_some text o h e = omega (arith, lead_more text o h e)

module _ (text : List ℕ) (o e : ℕ) (w : List ℕ) (whole : e ≡ o + lead (drop o text)) (cut : w ≡ take (e - o) (drop o text)) where
  pub run_is : w ≡ run (drop o text)
  run_is = let n : e - o ≡ lead (drop o text) = omega arith in cut ∙ ap (λ k. take k (drop o text)) n

  pub scans_name : IsName w → Scans o (drop o text) (token (name w) o ∷ []) e (drop e text)
  scans_name i =
      let there : drop (lead (drop o text)) (drop o text) ≡ drop e text = drop-drop (lead (drop o text)) o text ∙ ap (λ k. drop k text) (sym whole) in
      let on : Scans (o + lead (drop o text)) (drop (lead (drop o text)) (drop o text)) [] e (drop e text) =
      subst (λ l. Scans (o + lead (drop o text)) l [] e (drop e text)) (sym there) (subst (λ k. Scans k (drop e text) [] e (drop e text)) whole here) in
      subst (λ v. Scans o (drop o text) (token (name v) o ∷ []) e (drop e text)) (sym run_is) (word (subst IsName run_is i) on)

  pub stray_name : o < length text → in_name (class_of (get_or text o 0)) ≡ true → (IsName w → ⊥) → Stray (drop o text)
  stray_name h c i = no_name (lead_some text o h c) (λ j. i (subst IsName (sym run_is) j))

module _ (text : List ℕ) (o e : ℕ) (w : List ℕ) (h : o < length text) (hash : get_or text o 0 ≡ 35) (whole : e ≡ o + 1 + lead (drop (o + 1) text)) (cut : w ≡ take (e - (o + 1)) (drop (o + 1) text)) where
  pub scans_number : (n : ℕ) → IsNumber w n → Scans o (drop o text) (token (reference n) o ∷ []) e (drop e text)
  scans_number n i =
      let r = run_is text (o + 1) e w whole cut in
      let bs = drop (o + 1) text in
      let there : drop (lead bs) bs ≡ drop e text = drop-drop (lead bs) (o + 1) text ∙ ap (λ k. drop k text) (sym whole) in
      let on : Scans (o + 1 + lead bs) (drop (lead bs) bs) [] e (drop e text) =
      subst (λ l. Scans (o + 1 + lead bs) l [] e (drop e text)) (sym there) (subst (λ k. Scans k (drop e text) [] e (drop e text)) whole here) in
      subst (λ l. Scans o l (token (reference n) o ∷ []) e (drop e text)) (sym (drop_more text o 0 h)) (number hash (subst (λ v. IsNumber v n) r i) on)

  pub stray_number : ((n : ℕ) → IsNumber w n → ⊥) → Stray (drop o text)
  stray_number i = subst Stray (sym (drop_more text o 0 h)) (no_number hash (λ n j. i n (subst (λ v. IsNumber v n) (sym (run_is text (o + 1) e w whole cut)) j)))

pub scans_mark : (text : List ℕ) (o : ℕ) (x : Sign) → o < length text → single (get_or text o 0) ≡ Some x → Scans o (drop o text) (token x o ∷ []) (o + 1) (drop (o + 1) text)
scans_mark text o x h e = subst (λ l. Scans o l (token x o ∷ []) (o + 1) (drop (o + 1) text)) (sym (drop_more text o 0 h)) (mark e here)

pub stray_other : (text : List ℕ) (o : ℕ) → o < length text → class_of (get_or text o 0) ≡ Other → Stray (drop o text)
stray_other text o h e = subst Stray (sym (drop_more text o 0 h)) (other e)

-- spaces passed over, and then a token
pub join_found : (text : List ℕ) (o p : ℕ) (x : Lexeme) → Passed text o p → Found text p x → Found text o x
join_found text o p x s f = record { less = omega (arith, s.reached, f.less); within = f.within; scans = join s.scans f.scans }
