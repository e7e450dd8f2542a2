-- The machine reads what the grammar has: each derivation drives it, so tokens have one tree at most.
use mathlib.Core.Path.{◌≡◌, refl, ap, ◌∙◌}
use mathlib.Core.List.{List, [], ◌∷◌, ◌++◌}
use Prim.Native.Nat.{ℕ}
use Rattle.text.specs.Tokens.{Token, token, closing}
use Rattle.grammar.specs.Grammar.{Tree, applied, Kind, expression, application, atom, Is, of_lambda, of_application, of_atom, of_atoms, of_name, of_reference, of_brackets, Unambiguous}
use Rattle.grammar.specs.Machine.{Frames, top, body, first, next, State, start, after, dead, close, step, takes, Done, done, finish, result}

pub takes-++ : (q : State) (xs ys : List Token) → takes q (xs ++ ys) ≡ takes (takes q xs) ys
takes-++ q [] ys = refl
takes-++ q (x ∷ xs) ys = takes-++ (step q x.sign x.at) xs ys

pub takes_dead : (xs : List Token) → takes dead xs ≡ dead
takes_dead [] = refl
takes_dead (x ∷ xs) = takes_dead xs

-- what the machine does over tokens of a kind
abbrev pub Walks : Kind → List Token → Tree → Type 0
Walks expression ts t = (k : Frames) → (f : Tree) × (j : Frames) × (takes (start k) ts ≡ after f j) × (close f j ≡ close t k) × (finish f j ≡ finish t k)
Walks application ts t = (k : Frames) → takes (start k) ts ≡ after t k
Walks atom ts t = ((k : Frames) → takes (start k) ts ≡ after t k) × ((g : Tree) (k : Frames) → takes (after g k) ts ≡ after (applied g t) k)

-- a bracket that closes
shut_walk : (ts : List Token) (t : Tree) (b : ℕ) (k : Frames) → Walks expression ts t → takes (start k) (ts ++ (token closing b ∷ [])) ≡ close t k
shut_walk ts t b k w =
    let p = w k in
    takes-++ (start k) ts (token closing b ∷ []) ∙ ap (λ q. takes q (token closing b ∷ [])) p.2 ∙ p.3

pub walks : {kind : Kind} {ts : List Token} {t : Tree} → Is kind ts t → Walks kind ts t
walks (of_lambda w a b c e) = λ k. walks e (body w b k)
walks (of_application {t = t} a) = λ k. (t, k, walks a k, refl, refl)
walks (of_atom a) = (walks a).0
walks (of_atoms {ts = ts} {us = us} {f = f} a b) = λ k. takes-++ (start k) ts us ∙ ap (λ q. takes q us) (walks a k) ∙ (walks b).1 f k
walks (of_name w o) = (λ k. refl, λ g k. refl)
walks (of_reference n o) = (λ k. refl, λ g k. refl)
walks (of_brackets {ts = ts} {t = t} a b e) = (λ k. shut_walk ts t b (first k) (walks e), λ g k. shut_walk ts t b (next g k) (walks e))

pub accepts : (ts : List Token) (t : Tree) → Is expression ts t → result (takes (start top) ts) ≡ done t
accepts ts t e = let p = walks e top in ap result p.2 ∙ p.4

done_same : (d : Done) (t u : Tree) → d ≡ done t → d ≡ done u → t ≡ u
done_same d t u p q = cc

pub unambiguous : Unambiguous
unambiguous ts t u p q = done_same (result (takes (start top) ts)) t u (accepts ts t p) (accepts ts u q)
