-- A refusal by its three parts.
use Rattle.std.specs.Prelude.{ℕ}
use Rattle.refusal.specs.declared.Layer.{Layer}
use Rattle.refusal.specs.declared.Refusal.{Refusal}

abbrev pub saying : ℕ → Layer → ℕ → Refusal
saying number layer place = record { number = number; layer = layer; place = place }
