-- What the reader has covered, one atom after the other.
use Rattle.std.proofs.Common.{◌≡◌, ℕ, ◌+◌, ◌<◌, ◌≤◌, List, ◌∷◌, ◌++◌, length, take, drop, set, arith}
use Rattle.std.specs.Option.{option_or}
use Rattle.catalogue.specs.Names.{Name}
use Rattle.catalogue.specs.Entries.{Entry}
use Rattle.grammar.specs.Grammar.{expression, application, atom}
use Rattle.term.specs.declared.TermNode.{TermNode}
use Rattle.term.specs.Terms.{node}
use Rattle.text.specs.Tokens.{opening, closing}
use Rattle.formula.specs.Parsing.{Reads, HeadRead, Covered, Ended}
use Rattle.formula.specs.declared.expected.Head.{Head}
use Rattle.formula.specs.declared.parser.Reach.{Reach}
use Rattle.formula.proofs.Steps.{made_group, made_application, made_expression, made_more, made_abstraction}

module _ (text : List ℕ) (es : List Entry) (filed : ℕ) (scope : List Name) (out out' : List TermNode) (from : ℕ) where
  pub covered_application : (r : Reach) → Covered atom text es filed scope out out' from r → Covered application text es filed scope out out' from r
  covered_application r c = record { advance = c.advance; made = λ ts x. made_application text es filed scope out out' r ts (c.made ts x) }

  pub ended_expression : (r : Reach) → Ended application text es filed scope out out' from r → Ended expression text es filed scope out out' from r
  ended_expression r e =
      let c = e.covered in
      record {
        covered = record { advance = c.advance; made = λ ts x. made_expression text es filed scope out out' r ts (c.made ts x) };
        ends = e.ends;
      }

  pub covered_group : (mid end : ℕ) (r : Reach) → Reads text from opening mid → Ended expression text es filed scope out out' mid r → Reads text r.end closing end → Covered atom text es filed scope out out' from (record { end = end; count = r.count; unknown = r.unknown; unfiled = r.unfiled })
  covered_group mid end r o e c =
      let a = e.covered.advance in
      record {
        advance = record { less = omega (arith, o.less, a.less, c.less); within = c.within; small = omega (arith, a.small, a.less, o.less, c.less) };
        made = made_group text es filed scope out out' from mid end r o e.covered.made c;
      }

-- one atom more
pub covered_more : (text : List ℕ) (es : List Entry) (filed : ℕ) (scope : List Name) (out p p' q q' : List TermNode) (from : ℕ) (r n : Reach) (s : ℕ) → Covered application text es filed scope out p from r → length p ≡ length out → (r.count < length p → p' ≡ node 2 0 ∷ (take r.count p ++ drop (r.count + 1) p)) → length p' ≡ length out → (r.count + 1 ≤ length p' → s ≡ r.count + 1) → q' ≡ take s p' ++ q → Covered atom text es filed scope (drop s p') q r.end n → Covered application text es filed scope out q' from (record { end = n.end; count = r.count + n.count + 1; unknown = option_or r.unknown n.unknown; unfiled = option_or r.unfiled n.unfiled })
covered_more text es filed scope out p p' q q' from r n s c lp up lp' at whole d =
    let a = c.advance in
    let e = d.advance in
    record {
      advance = record { less = omega (arith, a.less, e.less); within = e.within; small = omega (arith, a.small, e.small, a.less, e.less) };
      made = λ ts x. made_more text es filed scope out p p' q q' r n s ts (c.made ts x) lp up lp' at whole d.made;
    }

pub ended_abstraction : (text : List ℕ) (es : List Entry) (filed : ℕ) (scope : List Name) (out p q q' : List TermNode) (from : ℕ) (h : Head) (r : Reach) (s : ℕ) → HeadRead text from h → (0 < length out → p ≡ set out 0 (node 1 0)) → (0 < length out → s ≡ 1) → length p ≡ length out → q' ≡ take s p ++ q → Ended expression text es filed (h.name.now ∷ scope) (drop s p) q h.end r → Ended expression text es filed scope out q' from (record { end = r.end; count = r.count + 1; unknown = r.unknown; unfiled = r.unfiled })
ended_abstraction text es filed scope out p q q' from h r s head put at lp whole e =
    let c = e.covered in
    let a = c.advance in
    record {
      covered = record {
        advance = record { less = omega (arith, a.less, head.less); within = a.within; small = omega (arith, a.small, a.less, head.less) };
        made = λ ts x. made_abstraction text es filed scope out p q q' from h r s ts head put at lp whole c.made x;
      };
      ends = e.ends;
    }
