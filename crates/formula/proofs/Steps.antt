-- What each step of the reader makes of the parts that it has read.
use Rattle.std.proofs.Common.{◌≡◌, ℕ, ◌+◌, ◌<◌, ◌≤◌, List, [], ◌∷◌, ◌++◌, length, take, drop, set, Some, None, Option, sym, refl, ap, ◌∙◌, subst, append_assoc, arith, length-append, length-drop, Bor}
use Rattle.std.specs.Option.{option_or}
use Rattle.catalogue.specs.Names.{Name}
use Rattle.catalogue.specs.Entries.{Entry}
use Rattle.grammar.specs.Grammar.{Tree, named, referred, abstracted, applied, nodes, expression, application, atom, of_lambda, of_application, of_atom, of_atoms, of_name, of_reference, of_brackets}
use Rattle.term.specs.declared.TermNode.{TermNode}
use Rattle.term.specs.Terms.{Term, abstraction, reference, prefix, node}
use Rattle.term.specs.Terms as terms
use Rattle.text.specs.Tokens.{Token, token, lambda, dot, opening, closing, name, Rest}
use Rattle.text.specs.Tokens as tokens
use Rattle.text.specs.Lexing.{Found, sign_of}
use Rattle.text.specs.declared.token.Lexeme.{Lexeme}
use Rattle.text.specs.declared.token.Token.TheVariants as cut
use Rattle.text.proofs.Ahead.{rest_some}
use Rattle.formula.specs.Firsts.{Fails}
use Rattle.formula.specs.Names.{Resolves, bound, entered, refers, binds, applies, uses, Known, references, Filed}
use Rattle.formula.specs.Parsing.{Reads, HeadRead, Settled, Unfiled, Made}
use Rattle.formula.specs.declared.expected.Head.{Head}
use Rattle.formula.specs.declared.parser.Reach.{Reach}
use Rattle.formula.proofs.Firsts.{fails_append, both_none, fails_one}
use Rattle.formula.proofs.Writing.{first_set, under, joined}

-- a term has as many nodes as the tree that it comes from
pub resolved_nodes : {es : List Entry} {scope : List Name} {t : Tree} {u : Term} → Resolves es scope t u → length (prefix u) ≡ nodes t
resolved_nodes (bound b) = refl
resolved_nodes (entered n l) = refl
resolved_nodes refers = refl
resolved_nodes (binds r) = omega (arith, resolved_nodes r)
resolved_nodes (applies {f = f} {a = a} r s) = omega (arith, resolved_nodes r, resolved_nodes s, length-append (prefix f) (prefix a))

settled_names : (es : List Entry) (scope : List Name) (w : Name) (place : ℕ) (out out' : List TermNode) (u : Option ℕ) → Settled es scope w place out out' u → Fails (Known es) (λ u. u.at) (uses scope (named w place)) u
settled_names es scope w place out out' None s = (s.0 place, tt)
settled_names es scope w place out out' (Some p) s = fails_one (Known es) (λ u. u.at) _ p s.0 (s.1 place)

settled_written : (es : List Entry) (scope : List Name) (w : Name) (place : ℕ) (out out' : List TermNode) (u : Option ℕ) → Settled es scope w place out out' u → u ≡ None → length scope ≤ 65535 → 0 < length out → (t : Term) × Resolves es scope (named w place) t × (out' ≡ prefix t ++ drop 1 out)
settled_written es scope w place out out' None s e d h = let t = s.1 d h in (t.0, t.1 place, t.2)
settled_written es scope w place out out' (Some p) s e d h = let z : ◌≡◌ {A = ℕ} 0 1 = cc in absurd (omega arith)

unfiled_fails : (filed n place : ℕ) (u : Option ℕ) → Unfiled filed n place u → Fails (Filed filed) (λ r. r.at) (references (referred n place)) u
unfiled_fails filed n place None h = (h, tt)
unfiled_fails filed n place (Some p) h = fails_one (Filed filed) (λ r. r.at) _ p h.0 h.1

module _ (text : List ℕ) (es : List Entry) (filed : ℕ) (scope : List Name) (out out' : List TermNode) where
  pub made_name : (from : ℕ) (f : Lexeme) (w : Bor (List ℕ)) (u : Option ℕ) → Found text from f → f.token ≡ cut.Name w → Settled es scope w.now f.at out out' u → (ts : List Token) → Rest text from ts → Made atom text es filed scope out out' (record { end = f.end; count = 1; unknown = u; unfiled = None }) ts
  made_name from f w u found x s ts r =
      let m = rest_some text from ts r (Some f) f refl found in
      record {
        tree = named w.now f.at;
        front = token (name w.now) f.at ∷ [];
        rest = m.0;
        split = m.1 ∙ ap (λ y. token (sign_of y) f.at ∷ m.0) x;
        is = of_name w.now f.at;
        remains = m.2;
        count = refl;
        filing = tt;
        naming = settled_names es scope w.now f.at out out' u s;
        writing = λ h z room. settled_written es scope w.now f.at out out' u s z (omega arith) room;
      }

  pub made_reference : (from : ℕ) (f : Lexeme) (number : ℕ) (u : Option ℕ) → Found text from f → f.token ≡ cut.Reference number → (0 < length out → out' ≡ set out 0 (node 4 number)) → Unfiled filed number f.at u → (ts : List Token) → Rest text from ts → Made atom text es filed scope out out' (record { end = f.end; count = 1; unknown = None; unfiled = u }) ts
  made_reference from f number u found x put s ts r =
      let m = rest_some text from ts r (Some f) f refl found in
      record {
        tree = referred number f.at;
        front = token (tokens.reference number) f.at ∷ [];
        rest = m.0;
        split = m.1 ∙ ap (λ y. token (sign_of y) f.at ∷ m.0) x;
        is = of_reference number f.at;
        remains = m.2;
        count = refl;
        filing = unfiled_fails filed number f.at u s;
        naming = tt;
        writing = λ h z room. (reference number, refers, put room ∙ first_set out (node 4 number) room);
      }

  -- an expression in brackets
  pub made_group : (from mid end : ℕ) (r : Reach) → Reads text from opening mid → ((ts : List Token) → Rest text mid ts → Made expression text es filed scope out out' r ts) → Reads text r.end closing end → (ts : List Token) → Rest text from ts → Made atom text es filed scope out out' (record { end = end; count = r.count; unknown = r.unknown; unfiled = r.unfiled }) ts
  made_group from mid end r o inner c ts rest =
      let a = o.reads ts rest in
      let m = inner a.1 a.3 in
      let b = c.reads m.rest m.remains in
      record {
        tree = m.tree;
        front = token opening a.0 ∷ (m.front ++ (token closing b.0 ∷ []));
        rest = b.1;
        split = a.2 ∙ ap (λ l. token opening a.0 ∷ l) (m.split ∙ ap (λ l. m.front ++ l) b.2 ∙ sym (append_assoc m.front (token closing b.0 ∷ []) b.1));
        is = of_brackets a.0 b.0 m.is;
        remains = b.3;
        count = m.count;
        filing = m.filing;
        naming = m.naming;
        writing = m.writing;
      }

  pub made_application : (r : Reach) (ts : List Token) → Made atom text es filed scope out out' r ts → Made application text es filed scope out out' r ts
  made_application r ts m =
      record { tree = m.tree; front = m.front; rest = m.rest; split = m.split; is = of_atom m.is; remains = m.remains; count = m.count; filing = m.filing; naming = m.naming; writing = m.writing }

  pub made_expression : (r : Reach) (ts : List Token) → Made application text es filed scope out out' r ts → Made expression text es filed scope out out' r ts
  made_expression r ts m =
      record { tree = m.tree; front = m.front; rest = m.rest; split = m.split; is = of_application m.is; remains = m.remains; count = m.count; filing = m.filing; naming = m.naming; writing = m.writing }

-- one atom more: what was written is moved up by one, and the atom is written behind it, from the place s on
pub made_more : (text : List ℕ) (es : List Entry) (filed : ℕ) (scope : List Name) (out p p' q q' : List TermNode) (r n : Reach) (s : ℕ) (ts : List Token) → Made application text es filed scope out p r ts → length p ≡ length out → (r.count < length p → p' ≡ node 2 0 ∷ (take r.count p ++ drop (r.count + 1) p)) → length p' ≡ length out → (r.count + 1 ≤ length p' → s ≡ r.count + 1) → q' ≡ take s p' ++ q → ((us : List Token) → Rest text r.end us → Made atom text es filed scope (drop s p') q n us) → Made application text es filed scope out q' (record { end = n.end; count = r.count + n.count + 1; unknown = option_or r.unknown n.unknown; unfiled = option_or r.unfiled n.unfiled }) ts
made_more text es filed scope out p p' q q' r n s ts m lp up lp' at whole more =
    let b = more m.rest m.remains in
    record {
      tree = applied m.tree b.tree;
      front = m.front ++ b.front;
      rest = b.rest;
      split = m.split ∙ ap (λ l. m.front ++ l) b.split ∙ sym (append_assoc m.front b.front b.rest);
      is = of_atoms m.is b.is;
      remains = b.remains;
      count = omega (arith, m.count, b.count);
      filing = fails_append (Filed filed) (λ r. r.at) (references m.tree) (references b.tree) r.unfiled n.unfiled m.filing b.filing;
      naming = fails_append (Known es) (λ u. u.at) (uses scope m.tree) (uses scope b.tree) r.unknown n.unknown m.naming b.naming;
      writing = λ h none room.
          let k = nodes m.tree in
          let j = nodes b.tree in
          let c = m.count in
          let z = both_none r.unknown n.unknown none in
          let here : s ≡ k + 1 = omega (arith, c, at) in
          let f = m.writing (omega arith) z.0 (omega arith) in
          let a = b.writing (omega arith) z.1 (omega (arith, here, length-drop s p')) in
          let up' : p' ≡ node 2 0 ∷ (take k p ++ drop (k + 1) p) = subst (λ i. p' ≡ node 2 0 ∷ (take i p ++ drop (i + 1) p)) c (up (omega (arith, c))) in
          let behind : q ≡ prefix a.0 ++ drop j (drop (k + 1) p') = subst (λ i. q ≡ prefix a.0 ++ drop j (drop i p')) here a.2 in (
            terms.application f.0 a.0,
            applies f.1 a.1,
            whole ∙ ap (λ i. take i p' ++ q) here ∙ joined out p p' q (node 2 0) (prefix f.0) (prefix a.0) k j (sym (resolved_nodes f.1)) f.2 up' behind,
          );
    }

-- an abstraction: its node is written before its body, which is written from the place s on
pub made_abstraction : (text : List ℕ) (es : List Entry) (filed : ℕ) (scope : List Name) (out p q q' : List TermNode) (from : ℕ) (h : Head) (r : Reach) (s : ℕ) (ts : List Token) → HeadRead text from h → (0 < length out → p ≡ set out 0 (node 1 0)) → (0 < length out → s ≡ 1) → length p ≡ length out → q' ≡ take s p ++ q → ((us : List Token) → Rest text h.end us → Made expression text es filed (h.name.now ∷ scope) (drop s p) q r us) → Rest text from ts → Made expression text es filed scope out q' (record { end = r.end; count = r.count + 1; unknown = r.unknown; unfiled = r.unfiled }) ts
made_abstraction text es filed scope out p q q' from h r s ts head put at lp whole body rest =
    let a = head.reads ts rest in
    let m = body a.3 a.5 in
    let w = h.name.now in
    record {
      tree = abstracted w a.1 m.tree;
      front = token lambda a.0 ∷ (token (name w) a.1 ∷ (token dot a.2 ∷ m.front));
      rest = m.rest;
      split = a.4 ∙ ap (λ l. token lambda a.0 ∷ (token (name w) a.1 ∷ (token dot a.2 ∷ l))) m.split;
      is = of_lambda w a.0 a.1 a.2 m.is;
      remains = m.remains;
      count = ap (λ n. n + 1) m.count;
      filing = m.filing;
      naming = m.naming;
      writing = λ d none room.
          let n = nodes m.tree in
          let some : 0 < length out = omega arith in
          let here : s ≡ 1 = at some in
          let b = m.writing (omega arith) none (omega (arith, here, length-drop s p)) in
          let first : p ≡ node 1 0 ∷ drop 1 out = put some ∙ first_set out (node 1 0) some in
          let behind : q ≡ prefix b.0 ++ drop n (drop 1 p) = subst (λ i. q ≡ prefix b.0 ++ drop n (drop i p)) here b.2 in (
            abstraction b.0,
            binds b.1,
            whole ∙ ap (λ i. take i p ++ q) here ∙ under out p q (node 1 0) (prefix b.0) n first behind,
          );
    }
