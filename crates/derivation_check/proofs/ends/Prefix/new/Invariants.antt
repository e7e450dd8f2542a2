use Rattle.std.proofs.Common.{◌≡◌, length}
use Rattle.derivation_check.proofs.Spans.{Noted}
use Rattle.derivation_check.proofs.ends.Prefix.new.Given as goal

abbrev pub invariant-loop-i : goal.invariant-loop-i
invariant-loop-i l = record { noted : Noted l.terms l.sizes l.i; long : length l.sizes ≡ length l.fn.sizes }
