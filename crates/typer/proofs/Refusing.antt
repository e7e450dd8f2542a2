-- The first question that is answered with no, by the fault that says so.
use Rattle.std.proofs.Common.{ℕ, arith}
use Rattle.typer.specs.declared.fault.TypesFault.{TypesFault}
use Rattle.typer.specs.declared.fault.TypesFault.TheVariants.{TooMuch, NoTypeRoom, NoNumberRoom, NoType}
use Rattle.typer.specs.Faults.{says, derive_says, of_derivation}
use Rattle.typer.specs.Questions.{Unserved, too_much, no_type_room}
use Rattle.typer.specs.Derivations.{Fits, NotFits, Roomless}
use Rattle.typer.specs.Derivations as derivations

module _ (n t types : ℕ) where
  pub not_fitting : (numbers : ℕ) (f : TypesFault) → NotFits n types f → Unserved n t types numbers (says f)
  not_fitting numbers TooMuch h = too_much h
  not_fitting numbers NoTypeRoom h = no_type_room h.0 h.1
  not_fitting numbers NoNumberRoom h = absurd h
  not_fitting numbers NoType h = absurd h

  pub not_derivable : (places numbers : ℕ) (f : TypesFault) → NotFits n types f → Roomless n t types places numbers (derive_says (of_derivation f))
  not_derivable places numbers TooMuch h = derivations.no_type_room (λ w. omega (arith, w.few))
  not_derivable places numbers NoTypeRoom h = derivations.no_type_room (λ w. omega (arith, w.records, h.1))
  not_derivable places numbers NoNumberRoom h = absurd h
  not_derivable places numbers NoType h = absurd h
