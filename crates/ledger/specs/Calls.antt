-- The dealings with a book, and what each may be answered.
use Rattle.std.specs.Prelude.{ℕ, List, Result}
use Rattle.refusal.specs.declared.Refusal.{Refusal}
use Rattle.types.specs.declared.TypeNode.{TypeNode}

-- what a submit is given: a text, and so many term records, type records and numbers to work in
pub record Submission : Type 0 where
  pub text : List ℕ
  pub terms : ℕ
  pub types : ℕ
  pub numbers : ℕ

-- what became of a submitted formula: it was filed under a number, or refused
abbrev pub Outcome : Type 0
Outcome = Result ℕ Refusal

-- The eight dealings. Showing the type of a formula and writing an outcome's line are given room for so many bytes; the
-- derivation of a formula is given so many type records, places and numbers.
pub data Call : Type 0 where
  submit : Submission → Call
  file : Call
  dismiss : Call
  withdraw : Call
  show : ℕ → ℕ → Call
  line : Outcome → ℕ → Call
  derive : ℕ → ℕ → ℕ → ℕ → Call
  check : ℕ → List TypeNode → List ℕ → Call

-- Filing and withdrawing answer the formula's number, submitting the number that it would be filed under; showing and a
-- line how many bytes were written, a derivation how many records its list has.
pub data Reply : Type 0 where
  refused : Refusal → Reply
  opened : ℕ → Reply
  filed : ℕ → Reply
  dismissed : Reply
  withdrawn : ℕ → Reply
  shown : ℕ → Reply
  lined : ℕ → Reply
  derived : ℕ → Reply
  passed : Reply
