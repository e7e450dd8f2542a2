use Rattle.book.specs.Dealing.{rooms_of}
use Rattle.book.proofs.Dealt.{Ran}
use Rattle.book.proofs.carrying.keep_book.Given as goal

abbrev pub invariant-dealings : goal.invariant-dealings
invariant-dealings g l = Ran g.C.Catalogue.entries l.initial.book l.texts (rooms_of l.initial.terms l.initial.types l.initial.numbers l.initial.places l.initial.out) l.answered l.answers l.i l.book
