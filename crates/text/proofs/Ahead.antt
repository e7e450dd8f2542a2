-- From one place of a text there is one reading: a reading to the end goes on from wherever another has come.
use Rattle.std.proofs.Common.{◌≡◌, ℕ, suc, ◌<◌, ◌≤◌, false, cond, eqb, List, [], ◌∷◌, ◌++◌, drop, Some, None, Ok, Err, Option, sym, refl, ap, ◌∙◌, subst, append-nil, arith, length-take}
use borrow.Author.Tests.{eqb-false}
use Rattle.text.specs.declared.token.Lexeme.{Lexeme}
use Rattle.text.specs.Bytes.{class_of, in_name}
use Rattle.text.specs.Words.{lead, run, IsName, IsNumber}
use Rattle.text.specs.Tokens.{Sign, Token, token, reference, single, Scans, here, space, mark, word, number, Tokens, Rest, Stray, other, no_name, no_number}
use Rattle.text.specs.Lexing.{Next, AllTokens, Scanned, sign_of}
use Rattle.text.specs.declared.fault.TextFault.{TextFault}
use Rattle.text.specs.declared.fault.TextFault.TheVariants as fault
use Rattle.text.specs.declared.bytes.Class.{Class}
use Rattle.text.specs.declared.bytes.Class.TheVariants.{Other, Letter, Digit, Underscore, Space, Mark}
use Rattle.text.proofs.ByteFacts.{single_mark, hash_mark, hash_not_single}
use Rattle.text.proofs.Scanning.{join}

-- a run that is a name begins with a name byte
pub no_run : (b : ℕ) (bs : List ℕ) (c : Class) → in_name c ≡ false → class_of b ≡ c → 0 < lead (b ∷ bs) → ⊥
no_run b bs c n e h =
    let z : lead (b ∷ bs) ≡ 0 = ap (λ k. cond (in_name k) (suc (lead bs)) 0) e ∙ ap (λ k. cond k (suc (lead bs)) 0) n in
    omega arith

pub name_some : (bs : List ℕ) → IsName (run bs) → 0 < lead bs
name_some bs i = omega (arith, i.some, length-take (lead bs) bs)

nothing_named : IsName (run []) → ⊥
nothing_named f = omega (arith, f.some)

-- a number for each class tells them apart
abbrev rank : Class → ℕ
rank Other = 0
rank Letter = 1
rank Digit = 2
rank Underscore = 3
rank Space = 4
rank Mark = 5

pub apart : (c d : Class) → eqb (rank c) (rank d) ≡ false → c ≡ d → ⊥
apart c d n e = eqb-false (rank c) (rank d) n (ap rank e)

same_sign : (b : ℕ) (x y : Sign) → single b ≡ Some x → single b ≡ Some y → x ≡ y
same_sign b x y e f = cc

same_number : (w : List ℕ) (m n : ℕ) → IsNumber w m → IsNumber w n → m ≡ n
same_number w m n i j = i.value ∙ sym j.value

-- how a reading to the end goes on
abbrev pub On : List Token → List Token → ℕ → List ℕ → ℕ → Type 0
On ts us p cs n = (vs : List Token) × (ts ≡ us ++ vs) × Scans p cs vs n []

with_first : (t u : Token) (ts us : List Token) (p n : ℕ) (cs : List ℕ) → t ≡ u → On ts us p cs n → On (t ∷ ts) (u ∷ us) p cs n
with_first t u ts us p n cs e o = (o.0, ap (λ x. x ∷ ts) e ∙ ap (λ l. u ∷ l) o.1, o.2)

pub ahead : {o p n : ℕ} {bs cs : List ℕ} {us ts : List Token} → Scans o bs us p cs → Scans o bs ts n [] → On ts us p cs n
ahead here s = (_, refl, s)
ahead (space e r) (space f s) = ahead r s
ahead (space {b = b} e r) (mark {x = x} f s) = absurd (apart Space Mark refl (sym e ∙ single_mark b x f))
ahead (space {b = b} {bs = bs} e r) (word f s) = absurd (no_run b bs Space refl e (name_some (b ∷ bs) f))
ahead (space {b = b} e r) (number f i s) = absurd (apart Space Mark refl (sym e ∙ hash_mark b f))
ahead (mark {b = b} {x = x} e r) (space f s) = absurd (apart Space Mark refl (sym f ∙ single_mark b x e))
ahead (mark {o = o} {b = b} {x = x} e r) (mark {x = y} f s) = with_first (token y o) (token x o) _ _ _ _ _ (ap (λ z. token z o) (same_sign b y x f e)) (ahead r s)
ahead (mark {b = b} {bs = bs} {x = x} e r) (word f s) = absurd (no_run b bs Mark refl (single_mark b x e) (name_some (b ∷ bs) f))
ahead (mark {b = b} {x = x} e r) (number f i s) = absurd (hash_not_single b x f e)
ahead (word f r) here = absurd (nothing_named f)
ahead (word f r) (space {b = b} {bs = bs} e s) = absurd (no_run b bs Space refl e (name_some (b ∷ bs) f))
ahead (word f r) (mark {b = b} {bs = bs} {x = x} e s) = absurd (no_run b bs Mark refl (single_mark b x e) (name_some (b ∷ bs) f))
ahead (word f r) (word g s) = with_first _ _ _ _ _ _ _ refl (ahead r s)
ahead (word f r) (number {b = b} {bs = bs} e i s) = absurd (no_run b bs Mark refl (hash_mark b e) (name_some (b ∷ bs) f))
ahead (number {b = b} f i r) (space e s) = absurd (apart Space Mark refl (sym e ∙ hash_mark b f))
ahead (number {b = b} f i r) (mark {x = x} e s) = absurd (hash_not_single b x f e)
ahead (number {b = b} {bs = bs} e i r) (word f s) = absurd (no_run b bs Mark refl (hash_mark b e) (name_some (b ∷ bs) f))
ahead (number {o = o} {n = m} {bs = bs} e i r) (number {n = n} f j s) = with_first _ _ _ _ _ _ _ (ap (λ k. token (reference k) o) (same_number (run bs) n m j i)) (ahead r s)

-- what is no token stops every reading
stops : {p n : ℕ} {cs : List ℕ} {vs : List Token} → Stray cs → Scans p cs vs n [] → ⊥
stops (other e) (space f s) = apart Other Space refl (sym e ∙ f)
stops (other {b = b} e) (mark {x = x} f s) = apart Other Mark refl (sym e ∙ single_mark b x f)
stops (other {b = b} {bs = bs} e) (word f s) = no_run b bs Other refl e (name_some (b ∷ bs) f)
stops (other {b = b} e) (number f i s) = apart Other Mark refl (sym e ∙ hash_mark b f)
stops (no_name h f) here = omega arith
stops (no_name h f) (space {b = b} {bs = bs} e s) = no_run b bs Space refl e h
stops (no_name h f) (mark {b = b} {bs = bs} {x = x} e s) = no_run b bs Mark refl (single_mark b x e) h
stops (no_name h f) (word g s) = f g
stops (no_name h f) (number {b = b} {bs = bs} e i s) = no_run b bs Mark refl (hash_mark b e) h
stops (no_number {b = b} e f) (space g s) = apart Space Mark refl (sym g ∙ hash_mark b e)
stops (no_number {b = b} e f) (mark {x = x} g s) = hash_not_single b x e g
stops (no_number {b = b} {bs = bs} e f) (word g s) = no_run b bs Mark refl (hash_mark b e) (name_some (b ∷ bs) g)
stops (no_number e f) (number {n = m} g i s) = f m i

-- at the end there are no more tokens
none_left : {p n : ℕ} {vs : List Token} → Scans p [] vs n [] → vs ≡ []
none_left here = refl
none_left (word f s) = absurd (nothing_named f)

-- a reading goes forward
forward : {o p : ℕ} {bs cs : List ℕ} {ts : List Token} → Scans o bs ts p cs → o ≤ p
forward here = omega arith
forward (space e r) = omega (arith, forward r)
forward (mark e r) = omega (arith, forward r)
forward (word w r) = omega (arith, forward r)
forward (number e w r) = omega (arith, forward r)

-- a text has one list of tokens at most
pub one_reading : (text : List ℕ) (ts us : List Token) → Tokens text ts → Tokens text us → us ≡ ts
one_reading text ts us s r = let o = ahead r s in sym (o.1 ∙ ap (λ l. us ++ l) (none_left o.2) ∙ append-nil us)

pub all_tokens : (text : List ℕ) (ts : List Token) → Tokens text ts → AllTokens text
all_tokens text ts s = record { tokens = ts; spelled = s; only = λ us r. one_reading text ts us s r }

-- what is refused after some tokens is the first that is refused
pub refused_after : (text : List ℕ) (at : ℕ) (ts : List Token) (f : TextFault) → Scans 0 text ts at (drop at text) → Next text at (Err f) → Scanned text (Err f)
refused_after text at ts (fault.Stray p) s n =
    let r = join s n.before in
    record {
      tokens = ts ++ [];
      first = record { before = r; within = n.within; stray = n.stray };
      none = λ us t. stops n.stray (ahead r t).2;
    }
refused_after text at ts (fault.Misplaced p) s n = absurd n

-- What the next token is to the tokens that are left.
module _ (text : List ℕ) (o : ℕ) (ts : List Token) (r : Rest text o ts) where
  pub rest_none : (n : Option Lexeme) → n ≡ None → Next text o (Ok n) → ts ≡ []
  rest_none n e s = let on = ahead (subst (λ m. Next text o (Ok m)) e s (forward r)) r in on.1 ∙ none_left on.2

  pub rest_some : (n : Option Lexeme) (x : Lexeme) → n ≡ Some x → Next text o (Ok n) → (us : List Token) × (ts ≡ token (sign_of x.token) x.at ∷ us) × Rest text x.end us
  rest_some n x e s = ahead (subst (λ m. Next text o (Ok m)) e s).scans r

  pub rest_refused : (f : TextFault) → Next text o (Err f) → ⊥
  rest_refused (fault.Stray p) s = stops s.stray (ahead s.before r).2
  rest_refused (fault.Misplaced p) s = s
