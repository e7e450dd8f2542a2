-- The questions that a text is asked one after the other: the first that it answers with no is one, at one place.
use Rattle.std.proofs.Common.{◌≡◌, ℕ, ◌<◌, ◌≤◌, List, [], ◌∷◌, length, sym, refl, ap, ◌∙◌, subst, arith}
use Rattle.std.specs.List.{AllByRecursion}
use Rattle.refusal.specs.Saying.{saying}
use Rattle.refusal.specs.declared.Layer.TheVariants as layer
use Rattle.refusal.specs.declared.Refusal.{Refusal}
use Rattle.catalogue.specs.Entries.{Entry}
use Rattle.text.specs.Tokens.{Token, Tokens}
use Rattle.text.specs.Lexing.{NotAllTokens}
use Rattle.text.proofs.Ahead.{one_reading}
use Rattle.grammar.specs.Grammar.{Tree, nodes, Is, FirstBad, expression as an_expression}
use Rattle.formula.specs.Firsts.{FirstNot}
use Rattle.formula.specs.Names.{Use, uses, Known, Reference, references, Filed}
use Rattle.formula.specs.Reading.{Parses, Refuses, no_tokens, no_expression, too_many_nodes, no_room, unknown, not_filed}
use Rattle.formula.proofs.Wholes.{one_tree}
use Rattle.reading_laws.proofs.Splits.{one_first, not_all, one_bad, not_expression}
use Rattle.reading_laws.proofs.Strays.{one_stray}

-- is it all tokens, are they an expression, are its nodes few enough, have they room, are the names known, the
-- references filed?
pub data Question : Type 0 where
  all_tokens : Question
  expression : Question
  few_nodes : Question
  with_room : Question
  all_known : Question
  all_filed : Question

abbrev pub questions : List Question
questions = all_tokens ∷ expression ∷ few_nodes ∷ with_room ∷ all_known ∷ all_filed ∷ []

abbrev said : Question → ℕ → Refusal
said all_tokens p = saying 20 layer.Text p
said expression p = saying 21 layer.Text p
said few_nodes p = saying 22 layer.Formula p
said with_room p = saying 23 layer.Formula p
said all_known p = saying 24 layer.Formula p
said all_filed p = saying 25 layer.Formula p

module _ (es : List Entry) (filed : ℕ) (text : List ℕ) (room : ℕ) where
  abbrev pub Passes : Question → Type 0
  Passes all_tokens = (ts : List Token) × Tokens text ts
  Passes expression = (t : Tree) × Parses text t
  Passes few_nodes = (t : Tree) × Parses text t × (nodes t ≤ 1024)
  Passes with_room = (t : Tree) × Parses text t × (nodes t ≤ room)
  Passes all_known = (t : Tree) × Parses text t × AllByRecursion (Known es) (uses [] t)
  Passes all_filed = (t : Tree) × Parses text t × AllByRecursion (Filed filed) (references t)

  abbrev Fails : Question → ℕ → Type 0
  Fails all_tokens p = NotAllTokens text p
  Fails expression p = (ts : List Token) × Tokens text ts × FirstBad ts (length text) p
  Fails few_nodes p = (t : Tree) × Parses text t × (1024 < nodes t) × (p ≡ 0)
  Fails with_room p = (t : Tree) × Parses text t × (room < nodes t) × (p ≡ 0)
  Fails all_known p = (t : Tree) × Parses text t × FirstNot (Known es) (λ (u : Use). u.at) (uses [] t) p
  Fails all_filed p = (t : Tree) × Parses text t × FirstNot (Filed filed) (λ (r : Reference). r.at) (references t) p

  -- what is known of one tree of the text is known of another
  of_tree : (P : Tree → Type 0) (t u : Tree) → Parses text t → Parses text u → P t → P u
  of_tree P t u p q h = subst P (one_tree text t u p q) h

  -- no question is answered with both yes and no
  apart : (q : Question) (p : ℕ) → Fails q p → Passes q → ⊥
  apart all_tokens p f y = f.none y.0 y.1
  apart expression p f y =
      let same = one_reading text f.0 y.1.tokens f.1 y.1.spelled in
      not_expression f.0 (length text) p f.2 (y.0, subst (λ ts. Is an_expression ts y.0) same y.1.is)
  apart few_nodes p f y = let h = of_tree (λ t. nodes t ≤ 1024) y.0 f.0 y.1 f.1 y.2 in omega (arith, f.2)
  apart with_room p f y = let h = of_tree (λ t. nodes t ≤ room) y.0 f.0 y.1 f.1 y.2 in omega (arith, f.2)
  apart all_known p f y = not_all (Known es) (λ (u : Use). u.at) (uses [] f.0) p f.2 (of_tree (λ t. AllByRecursion (Known es) (uses [] t)) y.0 f.0 y.1 f.1 y.2)
  apart all_filed p f y =
      not_all (Filed filed) (λ (r : Reference). r.at) (references f.0) p f.2 (of_tree (λ t. AllByRecursion (Filed filed) (references t)) y.0 f.0 y.1 f.1 y.2)

  -- and with no at one place only
  one_place : (q : Question) (p p' : ℕ) → Fails q p → Fails q p' → p ≡ p'
  one_place all_tokens p p' f g = one_stray text p p' f g
  one_place expression p p' f g =
      let same = one_reading text f.0 g.0 f.1 g.1 in
      one_bad f.0 (length text) p p' f.2 (subst (λ ts. FirstBad ts (length text) p') same g.2)
  one_place few_nodes p p' f g = f.3 ∙ sym g.3
  one_place with_room p p' f g = f.3 ∙ sym g.3
  one_place all_known p p' f g =
      one_first (Known es) (λ (u : Use). u.at) (uses [] f.0) p p' f.2 (of_tree (λ t. FirstNot (Known es) (λ (u : Use). u.at) (uses [] t) p') g.0 f.0 g.1 f.1 g.2)
  one_place all_filed p p' f g =
      one_first (Filed filed) (λ (r : Reference). r.at) (references f.0) p p' f.2
      (of_tree (λ t. FirstNot (Filed filed) (λ (r : Reference). r.at) (references t) p') g.0 f.0 g.1 f.1 g.2)

  -- the first of the questions that is answered with no, and where
  data FirstNo : List Question → Question → ℕ → Type 0 where
    now : {q : Question} {qs : List Question} {p : ℕ} → Fails q p → FirstNo (q ∷ qs) q p
    later : {a q : Question} {qs : List Question} {p : ℕ} → Passes a → FirstNo qs q p → FirstNo (a ∷ qs) q p

  one_no : {qs : List Question} {a b : Question} {p q : ℕ} → FirstNo qs a p → FirstNo qs b q → said a p ≡ said b q
  one_no (now {q = a} {p = p} f) (now {p = q} g) = ap (said a) (one_place a p q f g)
  one_no (now {q = a} {p = p} f) (later y s) = absurd (apart a p f y)
  one_no (later y r) (now {q = a} {p = p} g) = absurd (apart a p g y)
  one_no (later y r) (later z s) = one_no r s

  no_no : {qs : List Question} {a : Question} {p : ℕ} → AllByRecursion Passes qs → FirstNo qs a p → ⊥
  no_no h (now {q = a} {p = p} f) = apart a p f h.0
  no_no h (later y r) = no_no h.1 r

  -- a refusal tells of the first question that is answered with no
  record Told (r : Refusal) : Type 0 where
    question : Question
    at : ℕ
    first : FirstNo questions question at
    says : said question at ≡ r

  abbrev read : {t : Tree} → Parses text t → Passes all_tokens
  read p = (p.tokens, p.spelled)

  told : {r : Refusal} → Refuses es filed text room r → Told r
  told (no_tokens {p = p} n) = record { question = all_tokens; at = p; first = now n; says = refl }
  told (no_expression {p = p} {ts = ts} s f) = record { question = expression; at = p; first = later (ts, s) (now (ts, s, f)); says = refl }
  told (too_many_nodes {t = t} p many) = record { question = few_nodes; at = 0; first = later (read p) (later (t, p) (now (t, p, many, refl))); says = refl }
  told (no_room {t = t} p few many) = record { question = with_room; at = 0; first = later (read p) (later (t, p) (later (t, p, few) (now (t, p, many, refl)))); says = refl }
  told (unknown {t = t} {p = o} p few fits f) =
      record { question = all_known; at = o; first = later (read p) (later (t, p) (later (t, p, few) (later (t, p, fits) (now (t, p, f))))); says = refl }
  told (not_filed {t = t} {p = o} p few fits known f) =
      record { question = all_filed; at = o; first = later (read p) (later (t, p) (later (t, p, few) (later (t, p, fits) (later (t, p, known) (now (t, p, f)))))); says = refl }

  pub one_refusal : {r s : Refusal} → Refuses es filed text room r → Refuses es filed text room s → r ≡ s
  one_refusal a b = let x = told a in let y = told b in sym x.says ∙ one_no x.first y.first ∙ y.says

  -- a text that passes all questions is not refused
  pub not_refused : {r : Refusal} (t : Tree) → Parses text t → nodes t ≤ 1024 → nodes t ≤ room → AllByRecursion (Known es) (uses [] t) → AllByRecursion (Filed filed) (references t) → Refuses es filed text room r → ⊥
  not_refused t p few fits known filed' a = no_no (read p, ((t, p), ((t, p, few), ((t, p, fits), ((t, p, known), ((t, p, filed'), tt)))))) (told a).first
