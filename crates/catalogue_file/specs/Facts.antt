-- What is known of a layout and of an accepted file is known in one way only, and so can be taken out of a ghost field.
use Rattle.std.specs.Prelude.{ℕ, List}
use Rattle.std.proofs.Math.Logic.{∥∥₁_elim}
use Rattle.std.proofs.Math.Bridge.{le_prop}
use std.HLevel.{Π_prop}
use Rattle.std.specs.Coded.{coded_ℕ}
use denote.Struct.Props.{≡_prop}
use denote.Struct.Record.{Also-prop}
use Rattle.types.specs.declared.TypeNode.{TypeNode}
use Rattle.types.specs.Lists.{LawfulNode, Lawful}
use Rattle.catalogue_file.specs.declared.layout.Layout.{Layout}
use Rattle.catalogue_file.specs.Layouts.{Fit}
use Rattle.catalogue_file.specs.Questions.{Sized, Headed, Laid, LawfulAt}
use Rattle.catalogue_file.specs.Checking.{Framed, Sound, Each}

one_fit : {l : Layout} → IsProp (Fit l)
one_fit p q =
    λ i. record {
      front = le_prop p.front q.front i;
      narrow = le_prop p.narrow q.narrow i;
      counted = le_prop p.counted q.counted i;
      few = le_prop p.few q.few i;
      lists = le_prop p.lists q.lists i;
    }

one_node : {place : ℕ} {n : TypeNode} → IsProp (LawfulNode place n)
one_node p q =
    λ i. record {
      kinds = le_prop p.kinds q.kinds i;
      leaf = Π_prop (λ _. ≡_prop coded_ℕ _ _) p.leaf q.leaf i;
      number = Π_prop (λ _. le_prop) p.number q.number i;
      code = Π_prop (λ _. le_prop) p.code q.code i;
      lower = Π_prop (λ _. Also-prop le_prop (λ _. le_prop)) p.lower q.lower i;
    }

one_lawful : {list : List TypeNode} → IsProp (Lawful list)
one_lawful p q = λ i. record { some = le_prop p.some q.some i; few = le_prop p.few q.few i; each = Π_prop (λ _. Π_prop (λ _. one_node)) p.each q.each i }

module _ {l : Layout} {bs : List ℕ} where
  one_sized : IsProp (Sized l bs)
  one_sized p q = λ i. record { enough = le_prop p.enough q.enough i; short = le_prop p.short q.short i }

  one_headed : IsProp (Headed l bs)
  one_headed p q = λ i. record { marked = ≡_prop coded_ℕ _ _ p.marked q.marked i; few = le_prop p.few q.few i; inside = le_prop p.inside q.inside i }

  one_laid : IsProp (Laid l bs)
  one_laid p q = λ i. record { starts = Π_prop (λ _. Π_prop (λ _. ≡_prop coded_ℕ _ _)) p.starts q.starts i; ends = ≡_prop coded_ℕ _ _ p.ends q.ends i }

  one_framed : IsProp (Framed l bs)
  one_framed p q = λ i. record { sized = one_sized p.sized q.sized i; headed = one_headed p.headed q.headed i; laid = one_laid p.laid q.laid i }

  pub sized_known : ∥ Sized l bs ∥₁ → Sized l bs
  sized_known h = ∥∥₁_elim h one_sized (λ sized. sized)

  pub headed_known : ∥ Headed l bs ∥₁ → Headed l bs
  headed_known h = ∥∥₁_elim h one_headed (λ headed. headed)

  pub laid_known : ∥ Laid l bs ∥₁ → Laid l bs
  laid_known h = ∥∥₁_elim h one_laid (λ laid. laid)

  pub framed_known : ∥ Sound l bs ∥₁ → Framed l bs
  framed_known h = ∥∥₁_elim h one_framed (λ sound. sound.framed)

  pub lawful_known : ∥ Sound l bs ∥₁ → Each l bs LawfulAt
  lawful_known h = ∥∥₁_elim h (Π_prop (λ _. Π_prop (λ _. one_lawful))) (λ sound. sound.lawful)

pub fit_known : {l : Layout} → ∥ Fit l ∥₁ → Fit l
fit_known h = ∥∥₁_elim h one_fit (λ fit. fit)
