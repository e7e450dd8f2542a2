-- What is said of what was read, whose names are looked up only where they have room, as it is put together.
use Rattle.std.proofs.Common.{◌≡◌, ℕ, ◌+◌, ◌<◌, ◌≤◌, List, ◌∷◌, ◌++◌, length, take, drop, set, Option, ap, ◌∙◌, subst, arith, length-take, length-drop}
use Prim.Native.Nat.{min}
use Rattle.std.specs.Option.{option_or}
use Rattle.catalogue.specs.Names.{Name}
use Rattle.catalogue.specs.Entries.{Entry}
use Rattle.grammar.specs.Grammar.{expression, application, atom}
use Rattle.term.specs.declared.TermNode.{TermNode}
use Rattle.term.specs.Terms.{node}
use Rattle.text.specs.Tokens.{opening, closing}
use Rattle.formula.specs.Parsing.{Reads, HeadRead, Covered, Ended, Parsed, with_unknown, InRoom}
use Rattle.formula.specs.declared.expected.Head.{Head}
use Rattle.formula.specs.declared.parser.Reach.{Reach}
use Rattle.formula.proofs.Covering.{covered_group, covered_more, ended_abstraction}
use Rattle.formula.proofs.Wholes.{parsed_part}

-- what P implies of the reach with any first unknown name carries over
pub follows_in_room : {P Q : Reach → Type 0} (room : ℕ) (r : Reach) → ((u : Option ℕ) → P (with_unknown r u) → Q (with_unknown r u)) → InRoom room P r → InRoom room Q r
follows_in_room room r f i = record { unknown = i.unknown; read = f i.unknown i.read; looked_up = i.looked_up }

-- with room for all that was read, its first unknown name is the reader's
pub read_in_room : {P : Reach → Type 0} (room : ℕ) (r : Reach) → r.count ≤ room → InRoom room P r → P r
read_in_room {P} room r fits i = subst (λ u. P (with_unknown r u)) (i.looked_up fits) i.read

module _ (text : List ℕ) (es : List Entry) (filed : ℕ) (scope : List Name) where
  pub group_in_room : (out out' : List TermNode) (room from mid end : ℕ) (r : Reach) → Reads text from opening mid → InRoom room (Ended expression text es filed scope out out' mid) r → Reads text r.end closing end → InRoom room (Covered atom text es filed scope out out' from) (record { end = end; count = r.count; unknown = r.unknown; unfiled = r.unfiled })
  group_in_room out out' room from mid end r o i c =
      record {
        unknown = i.unknown;
        read = covered_group text es filed scope out out' from mid end (with_unknown r i.unknown) o i.read c;
        looked_up = i.looked_up;
      }

  -- one atom more
  pub more_in_room : (out p p' q q' : List TermNode) (from : ℕ) (r n : Reach) (s : ℕ) → InRoom (length out) (Covered application text es filed scope out p from) r → length p ≡ length out → (r.count < length p → p' ≡ node 2 0 ∷ (take r.count p ++ drop (r.count + 1) p)) → length p' ≡ length out → (r.count + 1 ≤ length p' → s ≡ r.count + 1) → q' ≡ take s p' ++ q → InRoom (length (drop s p')) (Covered atom text es filed scope (drop s p') q r.end) n → InRoom (length out) (Covered application text es filed scope out q' from) (record { end = n.end; count = r.count + n.count + 1; unknown = option_or r.unknown n.unknown; unfiled = option_or r.unfiled n.unfiled })
  more_in_room out p p' q q' from r n s i lp up lp' at whole j =
      record {
        unknown = option_or i.unknown j.unknown;
        read = covered_more text es filed scope out p p' q q' from (with_unknown r i.unknown) (with_unknown n j.unknown) s i.read lp up lp' at whole j.read;
        looked_up = λ fits.
            let here : s ≡ r.count + 1 = at (omega (arith, lp')) in
            ap (λ u. option_or u j.unknown) (i.looked_up (omega arith)) ∙ ap (option_or r.unknown) (j.looked_up (omega (arith, lp', here, length-drop s p')));
      }

  pub abstraction_in_room : (out p q q' : List TermNode) (from : ℕ) (h : Head) (r : Reach) (s : ℕ) → HeadRead text from h → (0 < length out → p ≡ set out 0 (node 1 0)) → (0 < length out → s ≡ 1) → length p ≡ length out → q' ≡ take s p ++ q → InRoom (length (drop s p)) (Ended expression text es filed (h.name.now ∷ scope) (drop s p) q h.end) r → InRoom (length out) (Ended expression text es filed scope out q' from) (record { end = r.end; count = r.count + 1; unknown = r.unknown; unfiled = r.unfiled })
  abstraction_in_room out p q q' from h r s head put at lp whole i =
      record {
        unknown = i.unknown;
        read = ended_abstraction text es filed scope out p q q' from h (with_unknown r i.unknown) s head put at lp whole i.read;
        looked_up = λ fits. let here : s ≡ 1 = at (omega arith) in i.looked_up (omega (arith, lp, here, length-drop s p));
      }

-- what is read into the front of a memory
pub part_in_room : (text : List ℕ) (es : List Entry) (filed : ℕ) (out out' : List TermNode) (s : ℕ) (r : Reach) → s ≡ min (length out) 1024 → InRoom (length (take s out)) (Parsed text es filed (take s out) out') r → InRoom (min (length out) 1024) (Parsed text es filed out (out' ++ drop s out)) r
part_in_room text es filed out out' s r e i =
    record {
      unknown = i.unknown;
      read = parsed_part text es filed out out' s (with_unknown r i.unknown) e i.read;
      looked_up = λ fits. i.looked_up (omega (arith, e, fits, length-take s out));
    }
