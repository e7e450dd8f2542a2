-- Which catalogue files are accepted, and the first question that any other answers with no.
use Rattle.std.specs.Prelude.{ℕ, ◌<◌, List}
use Rattle.refusal.specs.Saying.{saying}
use Rattle.refusal.specs.declared.Layer.TheVariants as layer
use Rattle.refusal.specs.declared.Refusal.{Refusal}
use Rattle.catalogue_file.specs.declared.layout.Layout.{Layout}
use Rattle.catalogue_file.specs.Files.{count}
use Rattle.catalogue_file.specs.Questions.{Sized, Headed, Laid, FormedAt, LawfulAt, FreshAt}
use Rattle.catalogue_file.specs.Firsts.{FirstFails}

-- every entry answers with yes
abbrev pub Each : Layout → List ℕ → (Layout → List ℕ → ℕ → Type 0) → Type 0
Each l bs Asked = (k : ℕ) → k < count l bs → Asked l bs k

-- entry k is the first that answers with no
abbrev pub FirstNo : Layout → List ℕ → (Layout → List ℕ → ℕ → Type 0) → ℕ → Type 0
FirstNo l bs Asked k = FirstFails (Asked l bs) (count l bs) k

-- the entries stand one behind the other, from the pairs to the end of the file
pub record Framed (l : Layout) (bs : List ℕ) : Type 0 where
  pub sized : Sized l bs
  pub headed : Headed l bs
  pub laid : Laid l bs

-- all questions are answered with yes
pub record Sound (l : Layout) (bs : List ℕ) : Type 0 where
  pub framed : Framed l bs
  pub formed : Each l bs FormedAt
  pub lawful : Each l bs LawfulAt
  pub fresh : Each l bs FreshAt

-- The first question that a file answers with no, each put to the whole file before the next: is its length one of the
-- layout's (90), are there few enough entries, all pairs inside (91), do the entries stand one behind the other up to the
-- end (92), is each a lawful name and whole nodes (93), are all nodes lawful (94), does no earlier entry bear the name of
-- one (95)? From 93 on the place is the first such entry.
pub data Refuses (l : Layout) (bs : List ℕ) : Refusal → Type 0 where
  wrong_length : (Sized l bs → ⊥) → Refuses l bs (saying 90 layer.File 0)
  wrong_count : Sized l bs → (Headed l bs → ⊥) → Refuses l bs (saying 91 layer.File 0)
  gap : Sized l bs → Headed l bs → (Laid l bs → ⊥) → Refuses l bs (saying 92 layer.File 0)
  malformed : {k : ℕ} → Framed l bs → FirstNo l bs FormedAt k → Refuses l bs (saying 93 layer.File k)
  unlawful : {k : ℕ} → Framed l bs → Each l bs FormedAt → FirstNo l bs LawfulAt k → Refuses l bs (saying 94 layer.File k)
  repeated : {k : ℕ} → Framed l bs → Each l bs FormedAt → Each l bs LawfulAt → FirstNo l bs FreshAt k → Refuses l bs (saying 95 layer.File k)
