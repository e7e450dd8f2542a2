-- The number, layer and place of each fault of a book.
use Rattle.refusal.specs.Saying.{saying}
use Rattle.refusal.specs.declared.Layer.TheVariants as layer
use Rattle.refusal.specs.declared.Refusal.{Refusal}
use Rattle.derivation_check.specs.Faults.{says as check_says}
use Rattle.formula.specs.Faults.{says as formula_says}
use Rattle.typer.specs.Faults.{says as types_says, derive_says}
use Rattle.book.specs.declared.fault.BookFault.{BookFault}
use Rattle.book.specs.declared.fault.BookFault.TheVariants.{Busy, Full, TooManyBytes, Formula, Types, NoTermSpace, NoListSpace, NoCandidate, CandidateOpen, NothingFiled, NotFiled, TooLong, NoLineRoom, Derivation, Check}

abbrev pub says : BookFault → Refusal
says Busy = saying 10 layer.Book 0
says Full = saying 11 layer.Book 0
says TooManyBytes = saying 12 layer.Book 0
says (Formula f) = formula_says f
says (Types f) = types_says f
says NoTermSpace = saying 33 layer.Book 0
says NoListSpace = saying 41 layer.Book 0
says NoCandidate = saying 60 layer.Book 0
says CandidateOpen = saying 62 layer.Book 0
says NothingFiled = saying 63 layer.Book 0
says NotFiled = saying 70 layer.Book 0
says TooLong = saying 71 layer.Book 0
says NoLineRoom = saying 72 layer.Book 0
says (Derivation f) = derive_says f
says (Check f) = check_says f
