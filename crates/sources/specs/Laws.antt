-- A list that a catalogue has is lawful.
use Rattle.std.specs.Prelude.{ℕ, ◌<◌, List, length}
use Rattle.std.proofs.Common.{ap, ⊎_elim, arith}
use Rattle.std.proofs.lemmas.List.{get_or_past}
use Rattle.std.proofs.lemmas.Bool.{cases_lt}
use Rattle.types.specs.Lists.{Lawful}
use Rattle.catalogue.specs.Entries.{Entry, no_entry, list_of, AllLawful}

pub list_lawful : (es : List Entry) → AllLawful es → (k : ℕ) → 0 < length (list_of es k) → Lawful (list_of es k)
list_lawful es a k h =
    ⊎_elim (λ lt. a k lt) (λ ge. absurd (omega (arith, ap (λ (e : Entry). length e.list) (get_or_past es k no_entry ge)))) (cases_lt k (length es))
