-- The grammar of formulas: which tokens are an expression, and with which tree.
use Rattle.std.specs.Prelude.{◌≡◌, List, [], ◌∷◌, ◌++◌, ℕ, ◌+◌}
use Rattle.text.specs.Tokens.{Token, token, lambda, dot, opening, closing, name, reference}

-- what is read, each name and reference with its offset: a name, a reference, an abstraction of a name, an application
pub data Tree : Type 0 where
  named : List ℕ → ℕ → Tree
  referred : ℕ → ℕ → Tree
  abstracted : List ℕ → ℕ → Tree → Tree
  applied : Tree → Tree → Tree

abbrev pub nodes : Tree → ℕ
nodes (named w o) = 1
nodes (referred n o) = 1
nodes (abstracted w o t) = nodes t + 1
nodes (applied f a) = nodes f + nodes a + 1

pub data Kind : Type 0 where
  expression : Kind
  application : Kind
  atom : Kind

-- These tokens are one of this kind, with this tree. An expression is `\`, a name, `.` and an expression, or an
-- application; an application is one or more atoms, grouped to the left; an atom is a name, a reference, or an expression
-- in brackets.
pub data Is : Kind → List Token → Tree → Type 0 where
  of_lambda : {ts : List Token} {t : Tree} (w : List ℕ) (a b c : ℕ) → Is expression ts t → Is expression (token lambda a ∷ (token (name w) b ∷ (token dot c ∷ ts))) (abstracted w b t)
  of_application : {ts : List Token} {t : Tree} → Is application ts t → Is expression ts t
  of_atom : {ts : List Token} {t : Tree} → Is atom ts t → Is application ts t
  of_atoms : {ts us : List Token} {f a : Tree} → Is application ts f → Is atom us a → Is application (ts ++ us) (applied f a)
  of_name : (w : List ℕ) (o : ℕ) → Is atom (token (name w) o ∷ []) (named w o)
  of_reference : (n o : ℕ) → Is atom (token (reference n) o ∷ []) (referred n o)
  of_brackets : {ts : List Token} {t : Tree} (a b : ℕ) → Is expression ts t → Is atom (token opening a ∷ (ts ++ (token closing b ∷ []))) t

abbrev pub Expression : List Token → Type 0
Expression ts = (t : Tree) × Is expression ts t

-- some tokens after these make an expression
abbrev pub CanContinue : List Token → Type 0
CanContinue ts = (more : List Token) × Expression (ts ++ more)

-- where a token stands, or the end where there is none
abbrev pub place : ℕ → List Token → ℕ
place end [] = end
place end (x ∷ xs) = x.at

-- The tokens, of a text that ends at `end`, are no expression: what stands at p is the first token that cannot follow,
-- or p is the end, where they stop short. What stands before it can be continued to an expression, and with it it cannot.
pub record FirstBad (ts : List Token) (end p : ℕ) : Type 0 where
  pub before : List Token
  pub rest : List Token
  pub split : ts ≡ before ++ rest
  pub stands : p ≡ place end rest
  pub continues : CanContinue before
  pub stuck : (x : Token) (us : List Token) → rest ≡ x ∷ us → CanContinue (before ++ (x ∷ [])) → ⊥
  pub short : rest ≡ [] → Expression ts → ⊥

-- tokens have one tree at most
abbrev pub Unambiguous : Type 0
Unambiguous = (ts : List Token) (t u : Tree) → Is expression ts t → Is expression ts u → t ≡ u
