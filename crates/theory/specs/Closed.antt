-- Where the variables and references of a term lead.
use Rattle.std.specs.Prelude.{ℕ, suc, ◌<◌}
use Rattle.term.specs.Terms.{Term, variable, abstraction, application, primitive, reference}

-- with d binders around the term each variable has one
abbrev pub Closed : ℕ → Term → Type 0
Closed d (variable n) = n < d
Closed d (abstraction b) = Closed (suc d) b
Closed d (application f a) = Closed d f × Closed d a
Closed d (primitive k) = Unit {0}
Closed d (reference n) = Unit {0}

-- each reference is to one of the first k rows; below 0: there is none
abbrev pub Below : ℕ → Term → Type 0
Below k (variable n) = Unit {0}
Below k (abstraction b) = Below k b
Below k (application f a) = Below k f × Below k a
Below k (primitive p) = Unit {0}
Below k (reference n) = n < k
