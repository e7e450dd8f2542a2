-- Lists of dealings as values: which calls they make, and what was answered.
use Rattle.std.specs.Prelude.{ℕ, ◌-◌, cond, ◌&&◌, List, [], ◌∷◌, ◌++◌, length, take, drop, nat_le, Ok, Err, Result}
use Rattle.types.specs.declared.TypeNode.{TypeNode}
use Rattle.term.specs.declared.TermNode.{TermNode}
use Rattle.catalogue.specs.Entries.{Entry}
use Rattle.ledger.specs.Calls.{Call, submit, file, dismiss, withdraw, show, line, derive, check, Reply, refused, opened, filed, dismissed, withdrawn, shown, lined, derived, passed}
use Rattle.book.specs.declared.book.Book.{Book}
use Rattle.book.specs.declared.fault.BookFault.{BookFault}
use Rattle.book.specs.declared.dealing.Dealing.{Dealing}
use Rattle.book.specs.declared.dealing.Dealing.TheVariants as dealing
use Rattle.book.specs.declared.dealing.Answer.{Answer}
use Rattle.book.specs.declared.dealing.Answer.TheVariants as answer
use Rattle.book.specs.Faults.{says}
use Rattle.book.specs.History.{Deal, Link, Faithful}
use Rattle.book.specs.Memories.{outcome_of}

-- the bytes of the texts from one place to another, or none
abbrev pub part : List ℕ → ℕ → ℕ → List ℕ
part texts from to = cond (nat_le from to && nat_le to (length texts)) (take (to - from) (drop from texts)) []

-- how long the memories are that the dealings are given
pub record Rooms : Type 0 where
  pub terms : ℕ
  pub types : ℕ
  pub numbers : ℕ
  pub places : ℕ
  pub bytes : ℕ

-- a dealing makes a call; a check is made of what then stands in the memories
pub data Makes (texts : List ℕ) (rooms : Rooms) : Dealing → Call → Type 0 where
  submits : {from to : ℕ} → Makes texts rooms (dealing.Submit from to) (submit (record { text = part texts from to; terms = rooms.terms; types = rooms.types; numbers = rooms.numbers }))
  files : Makes texts rooms dealing.File file
  dismisses : Makes texts rooms dealing.Dismiss dismiss
  withdraws : Makes texts rooms dealing.Withdraw withdraw
  shows : {n : ℕ} → Makes texts rooms (dealing.Show n) (show n rooms.bytes)
  lines : {o : Result ℕ BookFault} → Makes texts rooms (dealing.Line o) (line (outcome_of o) rooms.bytes)
  derives : {n : ℕ} → Makes texts rooms (dealing.Derive n) (derive n rooms.types rooms.places rooms.numbers)
  checks : {n m k : ℕ} {list : List TypeNode} {places : List ℕ} → Makes texts rooms (dealing.Check n m k) (check n list places)

-- what was done, as a reply of the ledger
abbrev pub done_of : Answer → Reply
done_of (answer.Opened n) = opened n
done_of (answer.Filed n) = filed n
done_of answer.Dismissed = dismissed
done_of (answer.Withdrawn n) = withdrawn n
done_of (answer.Shown n) = shown n
done_of (answer.Lined n) = lined n
done_of (answer.Derived n) = derived n
done_of answer.Passed = passed

abbrev pub reply_of : Result Answer BookFault → Reply
reply_of (Ok a) = done_of a
reply_of (Err f) = refused (says f)

-- the history of dealings that were answered so, the latest first
pub data Dealt (texts : List ℕ) (rooms : Rooms) : List Dealing → List (Result Answer BookFault) → List Deal → Type 0 where
  none : Dealt texts rooms [] [] []
  more : {ds : List Dealing} {bs : List (Result Answer BookFault)} {h : List Deal} {d : Dealing} {c : Call} (a : Result Answer BookFault) → Dealt texts rooms ds bs h → Makes texts rooms d c → Dealt texts rooms (ds ++ (d ∷ [])) (bs ++ (a ∷ [])) (record { call = c; reply = reply_of a } ∷ h)

-- The dealings were carried out on a new book, over a catalogue that means es, with these answers, and of their history the
-- whole statement holds.
pub record CarriedOut {C : Type 0} (entries : C → List Entry) (es : List Entry) (texts : List ℕ) (rooms : Rooms) (ds : List Dealing) (bs : List (Result Answer BookFault)) (b : Book C) : Type 0 where
  pub history : List Deal
  pub dealt : Dealt texts rooms ds bs history
  pub faithful : Faithful entries es history b

-- one dealing is carried out: it makes a call, which is a link of a run
pub record Carries {C : Type 0} (entries : C → List Entry) (before : Book C) (texts : List ℕ) (rooms : Rooms) (d : Dealing) (a : Result Answer BookFault) (after : Book C) : Type 0 where
  pub call : Call
  pub makes : Makes texts rooms d call
  pub link : Link entries before call (reply_of a) after

abbrev pub rooms_of : List TermNode → List TypeNode → List ℕ → List ℕ → List ℕ → Rooms
rooms_of terms types numbers places bytes = record { terms = length terms; types = length types; numbers = length numbers; places = length places; bytes = length bytes }
