-- What the reader of formulas answers.
use Rattle.std.specs.Prelude.{◌≡◌, ℕ, ◌-◌, ◌<◌, ◌≤◌, List, [], ◌++◌, length, replicate}
use Rattle.std.specs.List.{AllByRecursion}
use Rattle.refusal.specs.Saying.{saying}
use Rattle.refusal.specs.declared.Layer.TheVariants as layer
use Rattle.refusal.specs.declared.Refusal.{Refusal}
use Rattle.catalogue.specs.Entries.{Entry}
use Rattle.grammar.specs.Grammar.{Tree, nodes, Is, expression, FirstBad}
use Rattle.term.specs.declared.TermNode.{TermNode}
use Rattle.term.specs.Terms.{Term, prefix, zero_node}
use Rattle.text.specs.Tokens.{Token, Tokens}
use Rattle.text.specs.Lexing.{NotAllTokens}
use Rattle.formula.specs.Firsts.{FirstNot}
use Rattle.formula.specs.Names.{Resolves, uses, Known, references, Filed}

-- the text's tokens form an expression with this tree
pub record Parses (text : List ℕ) (t : Tree) : Type 0 where
  pub tokens : List Token
  pub spelled : Tokens text tokens
  pub is : Is expression tokens t

-- the text is a formula with this term, over the entries of a catalogue
pub record Formula (es : List Entry) (text : List ℕ) (t : Term) : Type 0 where
  pub tree : Tree
  pub parses : Parses text tree
  pub resolves : Resolves es [] tree t

-- The text is read as a formula of n nodes. The memory holds its term, which is the only one, and zeros behind it.
pub record Accepted (es : List Entry) (filed : ℕ) (text : List ℕ) (memory : List TermNode) (n : ℕ) : Type 0 where
  pub term : Term
  pub formula : Formula es text term
  pub only : (t : Term) → Formula es text t → t ≡ term
  pub below : AllByRecursion (Filed filed) (references formula.tree)
  pub count : n ≡ length (prefix term)
  pub few : n ≤ 1024
  pub fits : n ≤ length memory
  pub holds : memory ≡ prefix term ++ replicate (length memory - n) zero_node

-- The first question that a text answers with no, each put to the whole text before the next: is it all tokens and
-- spaces (20), do the tokens form an expression (21), has the term at most 1,024 nodes (22), has the memory room for
-- them (23), is every name bound or in the catalogue (24), is every reference below the number of filed formulas (25)?
pub data Refuses (es : List Entry) (filed : ℕ) (text : List ℕ) (room : ℕ) : Refusal → Type 0 where
  no_tokens : {p : ℕ} → NotAllTokens text p → Refuses es filed text room (saying 20 layer.Text p)
  no_expression : {p : ℕ} {ts : List Token} → Tokens text ts → FirstBad ts (length text) p → Refuses es filed text room (saying 21 layer.Text p)
  too_many_nodes : {t : Tree} → Parses text t → 1024 < nodes t → Refuses es filed text room (saying 22 layer.Formula 0)
  no_room : {t : Tree} → Parses text t → nodes t ≤ 1024 → room < nodes t → Refuses es filed text room (saying 23 layer.Formula 0)
  unknown : {t : Tree} {p : ℕ} → Parses text t → nodes t ≤ 1024 → nodes t ≤ room → FirstNot (Known es) (λ u. u.at) (uses [] t) p → Refuses es filed text room (saying 24 layer.Formula p)
  not_filed : {t : Tree} {p : ℕ} → Parses text t → nodes t ≤ 1024 → nodes t ≤ room → AllByRecursion (Known es) (uses [] t) → FirstNot (Filed filed) (λ r. r.at) (references t) p → Refuses es filed text room (saying 25 layer.Formula p)
