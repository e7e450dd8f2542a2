-- A look as its questions one after the other: it has one reply at most.
use Rattle.std.proofs.Common.{ℕ, ◌<◌, ◌≤◌, List, length, Ok, Err, sym, ap, ◌∙◌, arith}
use Rattle.refusal.specs.declared.Refusal.{Refusal}
use Rattle.term.specs.Terms.{Term, prefix}
use Rattle.catalogue.specs.Entries.{Entry}
use Rattle.infer.specs.Typing.{size}
use Rattle.lines.specs.Lines.{filed_line, refused_line, line_room}
use Rattle.printing.specs.Writing.{Prints}
use Rattle.typer.specs.Derivations.{Fits, Holds, Roomless, no_type_room, no_place_room, no_number_room}
use Rattle.typer.specs.Questions.{numbers_for}
use Rattle.typer.proofs.Renamed.{one_typing_list}
use Rattle.ledger.specs.Ledger.{Row, Ledger, entered, kept, all_rows, row_at}
use Rattle.ledger.specs.Calls.{Outcome, Call, submit, file, dismiss, withdraw, show, line, derive, check, Reply, refused, shown, lined, derived}
use Rattle.ledger.specs.Submitting.{need_of}
use Rattle.ledger.specs.Looking.{row_text, refused_by_book, Derives, Looks, not_shown, overlong, is_shown, no_line_room, not_lined, is_lined, refusal_lined, not_derived, roomless, is_derived, not_checked, unsound, is_checked}
use Rattle.ledger.proofs.Asking.{One, Says, Asks, denied, granted, Takes, said, one_says, one_asked, one_takes}
use Rattle.ledger.proofs.Checks.{Checks, one_check, refused_checks, passed_checks}

module _ (es : List Entry) (l : Ledger) where
  -- is there a formula of that number among so many (70)?
  abbrev Among : ℕ → ℕ → (Reply → Type 0) → Reply → Type 0
  Among n many = Asks (n < many) (Says (many ≤ n) (refused_by_book 70))

  -- the questions of each look, put to what it is about
  abbrev Shows : Row → ℕ → Reply → Type 0
  Shows r room = Asks (Prints (row_text r) room) (Says (Prints (row_text r) room → ⊥) (refused_by_book 71)) (Says (Unit {0}) (shown (length (row_text r))))

  abbrev Lines : Outcome → Reply → Type 0
  Lines (Ok n) = Among n (length l.rows) (Says (Unit {0}) (lined (length (filed_line n (row_at l.rows n).list))))
  Lines (Err f) = Says (Unit {0}) (lined (length (refused_line f)))

  abbrev Deriving : Term → ℕ → ℕ → ℕ → Reply → Type 0
  Deriving t types places numbers =
      let n : ℕ = need_of es l.rows t in
      Asks (Fits n types) (Says (Fits n types → ⊥) (refused_by_book 73))
      (Asks (size t ≤ places) (Says (places < size t) (refused_by_book 74))
      (Asks (numbers_for n (size t) ≤ numbers) (Says (numbers < numbers_for n (size t)) (refused_by_book 75))
      (Takes (Derives es l.rows t) (λ m. Says (Unit {0}) (derived m)))))

  -- and of all; the other dealings are no looks
  abbrev pub Looked : Call → Reply → Type 0
  Looked (submit s) r = ⊥
  Looked file r = ⊥
  Looked dismiss r = ⊥
  Looked withdraw r = ⊥
  Looked (show n room) r = Among n (length (all_rows l)) (Shows (row_at (all_rows l) n) room) r
  Looked (line o room) r = Asks (line_room ≤ room) (Says (room < line_room) (refused_by_book 72)) (Lines o) r
  Looked (derive n types places numbers) r = Among n (length l.rows) (Deriving (row_at l.rows n).term types places numbers) r
  Looked (check n list places) r = Among n (length l.rows) (Checks (entered es) (kept l.rows) (prefix (row_at l.rows n).term) list places) r

  one_among : (n many : ℕ) (Then : Reply → Type 0) → One Then → One (Among n many Then)
  one_among n many Then one = one_asked (λ n y. omega arith) one

  one_count : (t : Term) → One (Derives es l.rows t)
  one_count t a b p q =
      p.count ∙ ap length (one_typing_list (entered es) (kept l.rows) t p.nodes q.nodes p.long q.long p.principal q.principal) ∙ sym q.count

  one_line : (o : Outcome) → One (Lines o)
  one_line (Ok n) = one_among n (length l.rows) _ one_says
  one_line (Err f) = one_says

  one_deriving : (t : Term) (types places numbers : ℕ) → One (Deriving t types places numbers)
  one_deriving t types places numbers =
      one_asked (λ n y. n y) (one_asked (λ n y. omega arith) (one_asked (λ n y. omega arith) (one_takes (one_count t) (λ m. one_says))))

  one_looked : (c : Call) → One (Looked c)
  one_looked (submit s) = λ r r' h. absurd h
  one_looked file = λ r r' h. absurd h
  one_looked dismiss = λ r r' h. absurd h
  one_looked withdraw = λ r r' h. absurd h
  one_looked (show n room) = one_among n (length (all_rows l)) _ (one_asked (λ n y. n y) one_says)
  one_looked (line o room) = one_asked (λ n y. omega arith) (one_line o)
  one_looked (derive n types places numbers) = one_among n (length l.rows) _ (one_deriving (row_at l.rows n).term types places numbers)
  one_looked (check n list places) = one_among n (length l.rows) _ (one_check (entered es) (kept l.rows) (prefix (row_at l.rows n).term) list places)

  roomless_asks : {t : Term} {types places numbers : ℕ} {r : Refusal} → Roomless (need_of es l.rows t) (size t) types places numbers r → Deriving t types places numbers (refused r)
  roomless_asks (no_type_room h) = denied (said h)
  roomless_asks (no_place_room f h) = granted f (denied (said h))
  roomless_asks (no_number_room f g h) = granted f (granted g (denied (said h)))

  derived_asks : {t : Term} {types places numbers m : ℕ} → Holds (need_of es l.rows t) (size t) types places numbers → Derives es l.rows t m → Deriving t types places numbers (derived m)
  derived_asks {m = m} h d =
      let v = h.serves in
      granted (record { few = v.few; records = v.records }) (granted h.wide (granted v.enough (record { value = m; given = d; follows = said tt })))

  pub look_asks : {c : Call} {r : Reply} → Looks es l c r → Looked c r
  look_asks (not_shown h) = denied (said h)
  look_asks (overlong h g) = granted h (denied (said g))
  look_asks (is_shown h g) = granted h (granted g (said tt))
  look_asks (no_line_room h) = denied (said h)
  look_asks (not_lined g h) = granted g (denied (said h))
  look_asks (is_lined g h) = granted g (granted h (said tt))
  look_asks (refusal_lined g) = granted g (said tt)
  look_asks (not_derived h) = denied (said h)
  look_asks (roomless h g) = granted h (roomless_asks g)
  look_asks (is_derived h g d) = granted h (derived_asks g d)
  look_asks (not_checked h) = denied (said h)
  look_asks (unsound {n = n} {list = list} {places = places} h g) = granted h (refused_checks (entered es) (kept l.rows) (prefix (row_at l.rows n).term) list places g)
  look_asks (is_checked {n = n} {list = list} {places = places} h g) = granted h (passed_checks (entered es) (kept l.rows) (prefix (row_at l.rows n).term) list places g)

  pub one_look : {c : Call} → One (Looks es l c)
  one_look {c = c} r r' h g = one_looked c r r' (look_asks h) (look_asks g)
