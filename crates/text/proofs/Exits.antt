-- What the exit of a `?` returns.
use Rattle.std.proofs.Common.{◌≡◌, Ok, Err, Result, ap}
use Rattle.std.specs.Result.{IsErrAnd}

pub exit_is : {A E : Type 0} (r : Result A E) (f : E) → IsErrAnd r (λ x. x ≡ f) → r ≡ Err f
exit_is (Ok x) f e = absurd e
exit_is (Err x) f e = ap Err e
