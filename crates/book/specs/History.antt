-- The histories of a book: what every list of dealings, counted from when it was new, does to it.
use Rattle.std.specs.Prelude.{◌≡◌, List, [], ◌∷◌, map}
use Rattle.catalogue.specs.Entries.{Entry}
use Rattle.table.specs.View.{view, empty}
use Rattle.ledger.specs.Ledger.{Ledger}
use Rattle.ledger.specs.Calls.{Call, Reply}
use Rattle.ledger.specs.Fed.{Fed, Each, Rightly, AllKept}
use Rattle.book.specs.declared.book.Book.{Book}
use Rattle.book.specs.Standing.{shown, Answers}

-- One dealing with a book: what the contract of each call says of it.
pub record Link {C : Type 0} (entries : C → List Entry) (before : Book C) (call : Call) (reply : Reply) (after : Book C) : Type 0 where
  pub same : after.catalogue ≡ before.catalogue
  pub answers : Answers (entries before.catalogue) (view before.table) call reply (view after.table)

pub record Deal : Type 0 where
  pub call : Call
  pub reply : Reply

-- The dealings with a book since it was b₀, refused ones included, the latest first.
pub data Run {C : Type 0} (entries : C → List Entry) (b₀ : Book C) : List Deal → Book C → Type 0 where
  start : Run entries b₀ [] b₀
  next : {h : List Deal} {b b' : Book C} {c : Call} {r : Reply} → Run entries b₀ h b → Link entries b c r b' → Run entries b₀ (record { call = c; reply = r } ∷ h) b'

abbrev pub calls : List Deal → List Call
calls h = map (λ (d : Deal). d.call) h

abbrev pub replies : List Deal → List Reply
replies h = map (λ (d : Deal). d.reply) h

-- The book b after the history h, over a catalogue that means es.
pub record Faithful {C : Type 0} (entries : C → List Entry) (es : List Entry) (h : List Deal) (b : Book C) : Type 0 where
  -- the catalogue means what it meant
  pub same : entries b.catalogue ≡ es
  -- there is a ledger fed with the calls alone, and every reply is that ledger's
  pub ledger : Ledger
  pub fed : Fed es (calls h) (replies h) ledger
  -- the terms and lists of the candidate and of the filed formulas are those of its rows, in order
  pub shows : view b.table ≡ shown ledger
  -- at every submit a formula is refused for having no type exactly when its expansion has none, and after every call each
  -- kept type is a type of its expansion of which every type of that expansion is an instance
  pub rightly : Each (Rightly es) fed
  pub kept : AllKept es ledger
  -- and there is no other such ledger: two that are fed alike are equal, and so are their replies
  pub only : (rs : List Reply) (l : Ledger) → Fed es (calls h) rs l → (rs ≡ replies h) × (l ≡ ledger)

-- After every list of dealings with the book b₀.
abbrev pub EveryRun : {C : Type 0} → (C → List Entry) → Book C → Type 0
EveryRun {C = C} entries b₀ = (h : List Deal) (b : Book C) → Run entries b₀ h b → Faithful entries (entries b₀.catalogue) h b

-- What each call on a book ensures: that it is a link of a run, and what that makes of every run from a new book.
pub record Does {C : Type 0} (entries : C → List Entry) (b : Book C) (c : Call) (r : Reply) (b' : Book C) : Type 0 where
  pub link : Link entries b c r b'
  pub whole : (b₀ : Book C) (h : List Deal) → view b₀.table ≡ empty → Run entries b₀ h b → Faithful entries (entries b₀.catalogue) (record { call = c; reply = r } ∷ h) b'
