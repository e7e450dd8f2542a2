-- What stands in whole memories after the work on their fronts, and that a listed root is the most general type.
use Rattle.std.proofs.Common.{◌≡◌, ℕ, ◌+◌, ◌-◌, ◌<◌, ◌≤◌, List, [], ◌∷◌, ◌++◌, Bool, true, false, not, length, take, drop, replicate, Some, None, Option, MatchResult, refl, ap, ◌∙◌, ap₂, append_assoc, append-nil, arith}
use Rattle.std.specs.Option.{ok_or, is_some}
use borrow.Rule.Slice.PartMut.{put_mid}
use Rattle.std.proofs.lemmas.List.{length-append, take_at, drop_at, drop_all, replicate-append-replicate}
use Rattle.types.specs.declared.TypeNode.{TypeNode}
use Rattle.types.specs.Types.{Ty}
use Rattle.types.specs.Lists.{zero_node}
use Rattle.term.specs.declared.TermNode.{TermNode}
use Rattle.copy.specs.Instances.{Lists}
use Rattle.infer.specs.Heads.{need}
use Rattle.infer.proofs.Typings.{some_node}
use Rattle.normal.specs.Normal.{normal, normal_of}
use Rattle.normal.proofs.Meaning.{normal_lawful}
use Rattle.theory.specs.Principal.{LawfulLists}
use Rattle.typer.specs.Answers.{Typed, Refuses, no_type, Cleared, Zeros}
use Rattle.typer.specs.Faults.{says}
use Rattle.typer.specs.Questions.{Serves}
use Rattle.typer.specs.declared.fault.TypesFault.TheVariants as Types
use Rattle.typer.specs.Nodes.{of, NodesListed, Listing}
use Rattle.typer.proofs.Mapped.{principal_type, principal_simple}

-- a memory whose front was worked on and whose rest was written anew
pub rest_written : {X : Type 0} (sub rest ys : List X) (a k : ℕ) → length sub ≡ a → k ≡ length (sub ++ rest) - a → put_mid a k (sub ++ rest) ys ≡ sub ++ ys
rest_written sub rest ys a k e f =
    let d : drop k (drop a (sub ++ rest)) ≡ [] = ap (drop k) (drop_at sub rest a e) ∙ drop_all k rest (omega (arith, length-append sub rest)) in
    ap₂ (λ (xs zs : List _). xs ++ (ys ++ zs)) (take_at sub rest a e) d ∙ ap (λ (zs : List _). sub ++ zs) (append-nil ys)

-- zeros behind a list in the front, and in all the rest
pub zeros_behind : {X : Type 0} (z : X) (list sub rest whole : List X) (n : ℕ) → n ≡ length list → n ≤ length sub → sub ≡ list ++ replicate (length sub - n) z → rest ≡ replicate (length rest) z → whole ≡ sub ++ rest → whole ≡ list ++ replicate (length whole - n) z
zeros_behind z list sub rest whole n e h s r w =
    let both : length sub - n + length rest ≡ length whole - n = omega (arith, ap length w, length-append sub rest) in
    w ∙ ap₂ (λ (xs ys : List _). xs ++ ys) s r ∙ append_assoc list (replicate (length sub - n) z) (replicate (length rest) z)
    ∙ ap (λ (ys : List _). list ++ ys) (replicate-append-replicate (length sub - n) (length rest) z ∙ ap (λ (j : ℕ). replicate j z) both)

pub all_zeros : {X : Type 0} (z : X) (sub rest whole : List X) → sub ≡ replicate (length sub) z → rest ≡ replicate (length rest) z → whole ≡ sub ++ rest → whole ≡ replicate (length whole) z
all_zeros z sub rest whole s r w =
    zeros_behind z [] sub rest whole 0 refl (omega arith) (s ∙ ap (λ (j : ℕ). replicate j z) (omega arith)) r w ∙ ap (λ (j : ℕ). replicate j z) (omega arith)

-- the types listed in the front of a memory are listed in the whole
pub whole_listed : (E K : Lists) (ts : List TermNode) (qs : List ℕ) (sub rest types : List TypeNode) (n : ℕ) → length sub ≡ need E K ts → NodesListed E K ts qs sub n → Cleared rest → types ≡ sub ++ rest → NodesListed E K ts qs types n
whole_listed E K ts qs sub rest types n full l r w =
    record {
      types = l.types;
      long = l.long;
      some = l.some;
      proper = l.proper;
      principal = l.principal;
      count = l.count;
      within = l.within;
      holds = zeros_behind zero_node (normal (take (length qs) l.types)) sub rest types n l.count (omega (arith, l.within)) l.holds r w;
      places = l.places;
    }

-- so is what the work on the front answers
pub whole_listing : (E K : Lists) (ts : List TermNode) (qs : List ℕ) (sub rest types : List TypeNode) (o : Option ℕ) → length sub ≡ need E K ts → Listing E K ts qs sub o → Cleared rest → types ≡ sub ++ rest → Listing E K ts qs types o
whole_listing E K ts qs sub rest types (Some n) full l r w = whole_listed E K ts qs sub rest types n full l r w
whole_listing E K ts qs sub rest types None full l r w = record { none = l.none; clear = all_zeros zero_node sub rest types l.clear r w }

-- where nothing is listed, the places do not matter
pub nothing_listed : (E K : Lists) (ts : List TermNode) (qs qs' : List ℕ) (memory : List TypeNode) (o : Option ℕ) (b : Bool) → is_some o ≡ not b → b ≡ true → Listing E K ts qs memory o → Listing E K ts qs' memory o
nothing_listed E K ts qs qs' memory (Some n) b e none l = let f : true ≡ false = e ∙ ap not none in cc
nothing_listed E K ts qs qs' memory None b e none l = l

take_one : (us : List Ty) → 0 < length us → take 1 us ≡ of us 0 ∷ []
take_one [] h = absurd (omega arith)
take_one (u ∷ us) h = refl

module _ (E K : Lists) (ts : List TermNode) (we : LawfulLists E) (wk : LawfulLists K) where
  typed : (qs : List ℕ) (types : List TypeNode) (numbers : List ℕ) (n : ℕ) → length qs ≡ 1 → need E K ts ≤ 4096 → NodesListed E K ts qs types n → Zeros numbers → Typed E K ts types numbers n
  typed qs types numbers n one few l z =
      let τ = of l.types 0 in
      let lt : normal (take (length qs) l.types) ≡ normal_of τ = ap (λ (j : ℕ). normal (take j l.types)) one ∙ ap normal (take_one l.types (omega (arith, l.long, l.some))) in
      let count : n ≡ length (normal_of τ) = l.count ∙ ap length lt in
      record {
        type = τ;
        principal = λ t e. principal_type E K t (of l.types) (l.principal t e);
        lawful = λ t e. normal_lawful (τ ∷ []) (principal_simple E K t (of l.types) (l.principal t e) we wk 0 (some_node t), tt) (omega arith) (omega (arith, l.within));
        count = count;
        within = l.within;
        holds = l.holds ∙ ap (λ (xs : List TypeNode). xs ++ replicate (length types - n) zero_node) lt;
        zeros = z;
      }

  -- the answer on a term that serves
  pub answered : (qs : List ℕ) (types types' : List TypeNode) (numbers numbers' : List ℕ) (o : Option ℕ) → length qs ≡ 1 → Serves (need E K ts) (length ts) (length types) (length numbers) → Listing E K ts qs types' o → Zeros numbers'
      → MatchResult (ok_or o Types.NoType) (λ n. Typed E K ts types' numbers' n) (λ f. Refuses E K ts types types' numbers numbers' (says f))
  answered qs types types' numbers numbers' (Some n) one serves l z = typed qs types' numbers' n one serves.few l z
  answered qs types types' numbers numbers' None one serves l z = no_type serves l.none l.clear z
