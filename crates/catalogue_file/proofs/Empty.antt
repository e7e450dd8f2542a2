-- The file of two zero bytes is accepted and means no entries.
use Rattle.std.proofs.Common.{◌≡◌, ℕ, List, [], ◌∷◌, refl, not-suc-le-zero, lit≤}
use Rattle.catalogue_file.specs.Layouts.{short, pair_place}
use Rattle.catalogue_file.specs.Files.{field, entries_of}
use Rattle.catalogue_file.specs.Checking.{Sound}

abbrev pub no_bytes : List ℕ
no_bytes = 0 ∷ 0 ∷ []

pub empty_sound : Sound short no_bytes
unfolding field pair_place
empty_sound =
    record {
      framed = record {
        sized = record { enough = lit≤ tt; short = lit≤ tt };
        headed = record { marked = refl; few = lit≤ tt; inside = lit≤ tt };
        laid = record { starts = λ k h. absurd (not-suc-le-zero h); ends = refl };
      };
      formed = λ k h. absurd (not-suc-le-zero h);
      lawful = λ k h. absurd (not-suc-le-zero h);
      fresh = λ k h. absurd (not-suc-le-zero h);
    }

pub empty_means : entries_of short no_bytes ≡ []
unfolding field
empty_means = refl
