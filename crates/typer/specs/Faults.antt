-- The number, layer and place of each fault of the typer.
use Rattle.refusal.specs.Saying.{saying}
use Rattle.refusal.specs.declared.Layer.TheVariants as layer
use Rattle.refusal.specs.declared.Refusal.{Refusal}
use Rattle.typer.specs.declared.fault.TypesFault.{TypesFault}
use Rattle.typer.specs.declared.fault.TypesFault.TheVariants.{TooMuch, NoTypeRoom, NoNumberRoom, NoType}
use Rattle.typer.specs.declared.fault.DeriveFault.{DeriveFault}
use Rattle.typer.specs.declared.fault.DeriveFault.TheVariants as derive

abbrev pub says : TypesFault → Refusal
says TooMuch = saying 30 layer.Types 0
says NoTypeRoom = saying 31 layer.Types 0
says NoNumberRoom = saying 32 layer.Types 0
says NoType = saying 40 layer.Types 0

abbrev pub derive_says : DeriveFault → Refusal
derive_says derive.NoTypeRoom = saying 73 layer.Book 0
derive_says derive.NoPlaceRoom = saying 74 layer.Book 0
derive_says derive.NoNumberRoom = saying 75 layer.Book 0
derive_says derive.NoType = saying 40 layer.Types 0

-- a fault of the typing, said of a derivation
abbrev pub of_derivation : TypesFault → DeriveFault
of_derivation TooMuch = derive.NoTypeRoom
of_derivation NoTypeRoom = derive.NoTypeRoom
of_derivation NoNumberRoom = derive.NoNumberRoom
of_derivation NoType = derive.NoType
