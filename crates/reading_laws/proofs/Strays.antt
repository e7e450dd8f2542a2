-- The first byte or run of a text that is no token stands at one place.
use Rattle.std.proofs.Common.{◌≡◌, ℕ, List, ◌∷◌, sym, refl, ◌∙◌}
use Rattle.text.specs.Tokens.{Token, Scans, here, space, mark, word, number, Stray, other, no_name, no_number}
use Rattle.text.specs.Lexing.{NotAllTokens}
use Rattle.text.specs.declared.bytes.Class.TheVariants.{Other, Space, Mark}
use Rattle.text.proofs.ByteFacts.{single_mark, hash_mark, hash_not_single}
use Rattle.text.proofs.Ahead.{no_run, name_some, apart}

-- a reading does not go on from what is no token
halted : {o p : ℕ} {bs cs : List ℕ} {ts : List Token} → Stray bs → Scans o bs ts p cs → o ≡ p
halted s here = refl
halted (other e) (space f r) = absurd (apart Other Space refl (sym e ∙ f))
halted (other {b = b} e) (mark {x = x} f r) = absurd (apart Other Mark refl (sym e ∙ single_mark b x f))
halted (other {b = b} {bs = bs} e) (word f r) = absurd (no_run b bs Other refl e (name_some (b ∷ bs) f))
halted (other {b = b} e) (number f i r) = absurd (apart Other Mark refl (sym e ∙ hash_mark b f))
halted (no_name h f) (space {b = b} {bs = bs} e r) = absurd (no_run b bs Space refl e h)
halted (no_name h f) (mark {b = b} {bs = bs} {x = x} e r) = absurd (no_run b bs Mark refl (single_mark b x e) h)
halted (no_name h f) (word g r) = absurd (f g)
halted (no_name h f) (number {b = b} {bs = bs} e i r) = absurd (no_run b bs Mark refl (hash_mark b e) h)
halted (no_number {b = b} e f) (space g r) = absurd (apart Space Mark refl (sym g ∙ hash_mark b e))
halted (no_number {b = b} e f) (mark {x = x} g r) = absurd (hash_not_single b x e g)
halted (no_number {b = b} {bs = bs} e f) (word g r) = absurd (no_run b bs Mark refl (hash_mark b e) (name_some (b ∷ bs) g))
halted (no_number e f) (number {n = m} g i r) = absurd (f m i)

-- two readings from one place, each up to what is no token, come to one place
meet : {o p q : ℕ} {bs cs ds : List ℕ} {ts us : List Token} → Scans o bs ts p cs → Stray cs → Scans o bs us q ds → Stray ds → p ≡ q
meet here c s d = halted c s
meet (space e r) c here d = sym (halted d (space e r))
meet (space e r) c (space f s) d = meet r c s d
meet (space {b = b} e r) c (mark {x = x} f s) d = absurd (apart Space Mark refl (sym e ∙ single_mark b x f))
meet (space {b = b} {bs = bs} e r) c (word f s) d = absurd (no_run b bs Space refl e (name_some (b ∷ bs) f))
meet (space {b = b} e r) c (number f i s) d = absurd (apart Space Mark refl (sym e ∙ hash_mark b f))
meet (mark e r) c here d = sym (halted d (mark e r))
meet (mark {b = b} {x = x} e r) c (space f s) d = absurd (apart Space Mark refl (sym f ∙ single_mark b x e))
meet (mark e r) c (mark f s) d = meet r c s d
meet (mark {b = b} {bs = bs} {x = x} e r) c (word f s) d = absurd (no_run b bs Mark refl (single_mark b x e) (name_some (b ∷ bs) f))
meet (mark {b = b} {x = x} e r) c (number f i s) d = absurd (hash_not_single b x f e)
meet (word f r) c here d = sym (halted d (word f r))
meet (word f r) c (space {b = b} {bs = bs} e s) d = absurd (no_run b bs Space refl e (name_some (b ∷ bs) f))
meet (word f r) c (mark {b = b} {bs = bs} {x = x} e s) d = absurd (no_run b bs Mark refl (single_mark b x e) (name_some (b ∷ bs) f))
meet (word f r) c (word g s) d = meet r c s d
meet (word f r) c (number {b = b} {bs = bs} e i s) d = absurd (no_run b bs Mark refl (hash_mark b e) (name_some (b ∷ bs) f))
meet (number f i r) c here d = sym (halted d (number f i r))
meet (number {b = b} f i r) c (space e s) d = absurd (apart Space Mark refl (sym e ∙ hash_mark b f))
meet (number {b = b} f i r) c (mark {x = x} e s) d = absurd (hash_not_single b x f e)
meet (number {b = b} {bs = bs} e i r) c (word f s) d = absurd (no_run b bs Mark refl (hash_mark b e) (name_some (b ∷ bs) f))
meet (number e i r) c (number f j s) d = meet r c s d

pub one_stray : (text : List ℕ) (p q : ℕ) → NotAllTokens text p → NotAllTokens text q → p ≡ q
one_stray text p q m n = meet m.first.before m.first.stray n.first.before n.first.stray
