-- Nodes written at the front of a memory, and moved up by one for an application.
use Rattle.std.proofs.Common.{◌≡◌, ℕ, ◌+◌, ◌-◌, ◌<◌, List, [], ◌∷◌, ◌++◌, length, take, drop, set, sym, refl, ap, ◌∙◌, append_assoc, append-nil, arith, length-drop}
use Rattle.std.proofs.lemmas.List.{take_at, take_all, drop_at, drop_all, drop-drop}
use borrow.Rule.Slice.PartMut.{put_mid}

-- one node
pub first_set : {X : Type 0} (o : List X) (v : X) → 0 < length o → set o 0 v ≡ v ∷ drop 1 o
first_set [] v h = absurd (omega arith)
first_set (x ∷ o) v h = refl

-- the part from s on, and what stands when it has been written
pub part_end : {X : Type 0} (s : ℕ) (p : List X) → take (length p - s) (drop s p) ≡ drop s p
part_end s p = take_all (length p - s) (drop s p) (omega (arith, length-drop s p))

pub written_end : {X : Type 0} (s : ℕ) (p q : List X) → put_mid s (length p - s) p q ≡ take s p ++ q
written_end s p q = ap (λ l. take s p ++ (q ++ l)) (drop_all (length p - s) (drop s p) (omega (arith, length-drop s p))) ∙ ap (λ l. take s p ++ l) (append-nil q)

-- a node, and a term behind it
pub under : {X : Type 0} (o p q : List X) (v : X) (l : List X) (n : ℕ) → p ≡ v ∷ drop 1 o → q ≡ l ++ drop n (drop 1 p) → take 1 p ++ q ≡ (v ∷ l) ++ drop (n + 1) o
under o p q v l n e f =
    let rest : drop 1 p ≡ drop 1 o = ap (drop 1) e in
    let end : 1 + n ≡ n + 1 = omega arith in
    ap (λ x. take 1 x ++ q) e ∙ ap (λ x. v ∷ x) (f ∙ ap (λ x. l ++ drop n x) rest ∙ ap (λ x. l ++ x) (drop-drop n 1 o ∙ ap (λ k. drop k o) end))

-- a term that is moved up by one, with a node before it and a term behind it
pub joined : {X : Type 0} (o p p' q : List X) (v : X) (l m : List X) (k j : ℕ) → k ≡ length l → p ≡ l ++ drop k o → p' ≡ v ∷ (take k p ++ drop (k + 1) p) → q ≡ m ++ drop j (drop (k + 1) p') → take (k + 1) p' ++ q ≡ (v ∷ (l ++ m)) ++ drop (k + j + 1) o
joined o p p' q v l m k j n e f g =
    let front : take k p ≡ l = ap (take k) e ∙ take_at l (drop k o) k (sym n) in
    let back : drop k p ≡ drop k o = ap (drop k) e ∙ drop_at l (drop k o) k (sym n) in
    let rest : drop (k + 1) p ≡ drop (k + 1) o = sym (drop-drop 1 k p) ∙ ap (drop 1) back ∙ drop-drop 1 k o in
    let all : p' ≡ (v ∷ l) ++ drop (k + 1) o = f ∙ ap (λ x. v ∷ (x ++ drop (k + 1) p)) front ∙ ap (λ x. v ∷ (l ++ x)) rest in
    let long : length (v ∷ l) ≡ k + 1 = omega arith in
    let end : k + 1 + j ≡ k + j + 1 = omega arith in
    ap (λ x. x ++ q) (ap (take (k + 1)) all ∙ take_at (v ∷ l) (drop (k + 1) o) (k + 1) long)
    ∙ ap (λ x. (v ∷ l) ++ x) (g ∙ ap (λ x. m ++ drop j x) (ap (drop (k + 1)) all ∙ drop_at (v ∷ l) (drop (k + 1) o) (k + 1) long) ∙ ap (λ x. m ++ x) (drop-drop j (k + 1) o ∙ ap (λ i. drop i o) end))
    ∙ sym (append_assoc (v ∷ l) m (drop (k + j + 1) o))
