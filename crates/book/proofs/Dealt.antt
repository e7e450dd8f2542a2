-- Dealings carried out are links of a run, one after the other.
use Rattle.std.proofs.Common.{◌≡◌, ℕ, ◌+◌, ◌<◌, List, [], ◌∷◌, ◌++◌, length, get_or, take, set, Result, sym, ap, ◌∙◌, subst}
use Rattle.std.proofs.lemmas.List.{take_more, take_more_set}
use Rattle.catalogue.specs.Entries.{Entry}
use Rattle.ledger.specs.Calls.{Call}
use Rattle.book.specs.declared.book.Book.{Book}
use Rattle.book.specs.declared.dealing.Dealing.{Dealing}
use Rattle.book.specs.declared.dealing.Answer.{Answer}
use Rattle.book.specs.declared.fault.BookFault.{BookFault}
use Rattle.book.specs.Dealing.{Rooms, Makes, reply_of, Dealt, none, more, Carries}
use Rattle.book.specs.History.{Deal, Link, Run, start, next}

pub carries : {C : Type 0} (entries : C → List Entry) (b b' : Book C) (texts : List ℕ) (rooms : Rooms) (d e : Dealing) (a : Result Answer BookFault) {c : Call} → d ≡ e → Makes texts rooms e c → Link entries b c (reply_of a) b' → Carries entries b texts rooms d a b'
carries entries b b' texts rooms d e a is makes link = subst (λ (x : Dealing). Carries entries b texts rooms x a b') (sym is) (record { call = _; makes = makes; link = link })

-- the first i dealings were carried out with the first i answers, and that made a run
pub record Ran {C : Type 0} (entries : C → List Entry) (b₀ : Book C) (texts : List ℕ) (rooms : Rooms) (ds : List Dealing) (bs : List (Result Answer BookFault)) (i : ℕ) (b : Book C) : Type 0 where
  pub history : List Deal
  pub dealt : Dealt texts rooms (take i ds) (take i bs) history
  pub run : Run entries b₀ history b

pub ran_none : {C : Type 0} (entries : C → List Entry) (b₀ : Book C) (texts : List ℕ) (rooms : Rooms) (ds : List Dealing) (bs : List (Result Answer BookFault)) → Ran entries b₀ texts rooms ds bs 0 b₀
ran_none entries b₀ texts rooms ds bs = record { history = []; dealt = none; run = start }

pub ran_more : {C : Type 0} (entries : C → List Entry) (b₀ b b' : Book C) (texts : List ℕ) (rooms : Rooms) (ds : List Dealing) (bs : List (Result Answer BookFault)) (i : ℕ) (d : Dealing) (e : Dealing) (a : Result Answer BookFault) → i < length ds → i < length bs → d ≡ get_or ds i e → Ran entries b₀ texts rooms ds bs i b → Carries entries b texts rooms d a b' → Ran entries b₀ texts rooms ds (set bs i a) (i + 1) b'
ran_more entries b₀ b b' texts rooms ds bs i d e a h k is r c =
    let dealings : take i ds ++ (d ∷ []) ≡ take (i + 1) ds = ap (λ (x : Dealing). take i ds ++ (x ∷ [])) is ∙ sym (take_more ds i e h) in
    let answers : take i bs ++ (a ∷ []) ≡ take (i + 1) (set bs i a) = sym (take_more_set bs i a k) in
    let history : List Deal = record { call = c.call; reply = reply_of a } ∷ r.history in
    record {
      history = history;
      dealt = subst (λ (xs : List Dealing). Dealt texts rooms xs (take (i + 1) (set bs i a)) history) dealings
          (subst (λ (ys : List (Result Answer BookFault)). Dealt texts rooms (take i ds ++ (d ∷ [])) ys history) answers (more a r.dealt c.makes));
      run = next r.run c.link;
    }

-- the memories are as long as they were
pub carries_in : {C : Type 0} (entries : C → List Entry) (b b' : Book C) (texts : List ℕ) (r s : Rooms) (d : Dealing) (a : Result Answer BookFault) → r.terms ≡ s.terms → r.types ≡ s.types → r.numbers ≡ s.numbers → r.places ≡ s.places → r.bytes ≡ s.bytes → Carries entries b texts r d a b' → Carries entries b texts s d a b'
carries_in entries b b' texts r s d a e f g h i c =
    let same : r ≡ s = (
    ap (λ (n : ℕ). record { terms = n; types = r.types; numbers = r.numbers; places = r.places; bytes = r.bytes }) e
    ∙ ap (λ (n : ℕ). record { terms = s.terms; types = n; numbers = r.numbers; places = r.places; bytes = r.bytes }) f
    ∙ ap (λ (n : ℕ). record { terms = s.terms; types = s.types; numbers = n; places = r.places; bytes = r.bytes }) g
    ∙ ap (λ (n : ℕ). record { terms = s.terms; types = s.types; numbers = s.numbers; places = n; bytes = r.bytes }) h
    ∙ ap (λ (n : ℕ). record { terms = s.terms; types = s.types; numbers = s.numbers; places = s.places; bytes = n }) i) in
    subst (λ (x : Rooms). Carries entries b texts x d a b') same c
