-- How long the lists of a catalogue's entries are.
use Rattle.std.proofs.Common.{◌≡◌, ℕ, ◌≤◌, List, length, get_or, ap, ◌∙◌, ⊎_elim, arith}
use Rattle.std.proofs.lemmas.List.{get_or_past}
use Rattle.std.proofs.lemmas.Bool.{cases_lt}
use Rattle.catalogue.specs.Entries.{Entry, no_entry, list_of, AllLawful}
use Rattle.catalogue_file.specs.Parts.{rest_of, nodes_of, entry_in}

list_short : (es : List Entry) (k : ℕ) → AllLawful es → length (list_of es k) ≤ 4096
list_short es k lawful =
    ⊎_elim
    (λ inside. (lawful k inside).few)
    (λ past. let none : length (list_of es k) ≡ 0 = ap (λ (e : Entry). length e.list) (get_or_past es k no_entry past) in omega arith)
    (cases_lt k (length es))

-- as many nodes as are counted behind the name of an entry
pub count_short : (es : List Entry) (k n : ℕ) (bs rest : List ℕ) → AllLawful es → entry_in bs ≡ get_or es k no_entry → rest ≡ rest_of bs → n ≡ length (nodes_of rest) → n ≤ 4096
count_short es k n bs rest lawful is behind counted =
    let same : n ≡ length (list_of es k) = counted ∙ ap (λ x. length (nodes_of x)) behind ∙ ap (λ (e : Entry). length e.list) is in
    omega (arith, list_short es k lawful)
