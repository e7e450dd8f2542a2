-- What is answered to the question whether one list's type is an instance of another's.
use Rattle.std.specs.Prelude.{Bool, List, Ok, Err, Decides, Result}
use Rattle.types.specs.declared.TypeNode.{TypeNode}
use Rattle.types.specs.Types.{Instance}
use Rattle.types.specs.Lists.{Lawful, meaning}
use Rattle.instance.specs.declared.InstanceFault.{InstanceFault}
use Rattle.instance.specs.declared.InstanceFault.TheVariants.{UnlawfulGeneral, UnlawfulSpecial}

-- both lists are lawful, and the answer is whether the second's type is an instance of the first's
pub record Decided (general special : List TypeNode) (r : Bool) : Type 0 where
  pub lawful_general : Lawful general
  pub lawful_special : Lawful special
  pub decides : Decides r (Instance (meaning general) (meaning special))

-- only the second list is unlawful
pub record OnlySpecial (general special : List TypeNode) : Type 0 where
  pub lawful_general : Lawful general
  pub unlawful_special : Lawful special → ⊥

abbrev pub Answered : List TypeNode → List TypeNode → Result Bool InstanceFault → Type 0
Answered general special (Ok r) = Decided general special r
Answered general special (Err UnlawfulGeneral) = Lawful general → ⊥
Answered general special (Err UnlawfulSpecial) = OnlySpecial general special
