-- The number, layer and place of each fault of a catalogue file.
use Rattle.refusal.specs.Saying.{saying}
use Rattle.refusal.specs.declared.Layer.TheVariants as layer
use Rattle.refusal.specs.declared.Refusal.{Refusal}
use Rattle.catalogue_file.specs.declared.fault.FileFault.{FileFault}
use Rattle.catalogue_file.specs.declared.fault.FileFault.TheVariants.{Length, Count, Gap, Malformed, Unlawful, Repeated}

abbrev pub says : FileFault → Refusal
says Length = saying 90 layer.File 0
says Count = saying 91 layer.File 0
says Gap = saying 92 layer.File 0
says (Malformed at) = saying 93 layer.File at
says (Unlawful at) = saying 94 layer.File at
says (Repeated at) = saying 95 layer.File at
