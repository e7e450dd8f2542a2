-- The whole text: what was read of it, and why it is refused.
use Rattle.std.proofs.Common.{◌≡◌, ℕ, ◌+◌, ◌-◌, ◌<◌, ◌≤◌, List, [], ◌∷◌, ◌++◌, length, take, drop, replicate, Some, None, Ok, Err, Option, Result, MatchResult, sym, refl, ap, ◌∙◌, subst, ⊎_elim, append-nil, append_assoc, arith, length-take}
use Prim.Native.Nat.{min}
use Rattle.std.specs.Result.{result_unwrap_or}
use Rattle.std.proofs.lemmas.List.{take_at, drop-take, drop-drop, take-append-drop}
use Rattle.std.proofs.str.Laws.{order}
use Rattle.std.specs.List.{AllByRecursion}
use Rattle.catalogue.specs.Names.{Name}
use Rattle.catalogue.specs.Entries.{Entry, Least}
use Rattle.grammar.specs.Grammar.{Tree, nodes, Is, expression}
use Rattle.grammar.specs.Machine.{top, start, after, step, Halts}
use Rattle.grammar.proofs.Walks.{walks, unambiguous}
use Rattle.grammar.proofs.Halting.{first_bad, halts_here, halts_later}
use Rattle.term.specs.declared.TermNode.{TermNode}
use Rattle.term.specs.Terms.{Term, variable, abstraction, application, primitive, prefix, zero_node}
use Rattle.text.specs.Tokens.{token, closing}
use Rattle.text.specs.Lexing.{Next, AllTokens, sign_of}
use Rattle.text.specs.declared.token.Lexeme.{Lexeme}
use Rattle.text.specs.declared.fault.TextFault.{TextFault}
use Rattle.text.specs.declared.fault.TextFault.TheVariants as text_fault
use Rattle.text.proofs.Ahead.{rest_none, rest_some, one_reading}
use Rattle.formula.specs.Firsts.{Fails}
use Rattle.formula.specs.Names.{Bound, Resolves, bound, entered, refers, binds, applies, uses, Known, references, Filed}
use Rattle.formula.specs.Parsing.{Ended, BlamesExpression, Parsed, NotParsed, Drafted}
use Rattle.formula.specs.Reading.{Parses, Accepted, Refuses, no_tokens, no_expression, too_many_nodes, no_room, unknown, not_filed}
use Rattle.formula.specs.Faults.{says}
use Rattle.formula.specs.declared.fault.FormulaFault.{FormulaFault}
use Rattle.formula.specs.declared.fault.FormulaFault.TheVariants as fault
use Rattle.formula.specs.declared.parser.Reach.{Reach}
use Rattle.formula.proofs.Steps.{resolved_nodes}

-- a fault of the whole text, where it is all tokens
pub not_parsed : (text : List ℕ) (f : TextFault) → AllTokens text → BlamesExpression text 0 f → NotParsed text f
not_parsed text (text_fault.Misplaced p) a b = (a.tokens, a.spelled, first_bad a.tokens (length text) p (b a.tokens a.spelled top))
not_parsed text (text_fault.Stray p) a b = absurd (b a.tokens a.spelled top)

module _ (text : List ℕ) (es : List Entry) (filed : ℕ) (out out' : List TermNode) (r : Reach) (all : AllTokens text) (e : Ended expression text es filed [] out out' 0 r) where
  -- the tokens end where the expression does
  pub parsed : (n : Option Lexeme) → n ≡ None → Next text r.end (Ok n) → Parsed text es filed out out' r
  parsed n none next =
      let m = e.covered.made all.tokens all.spelled in
      let end = rest_none text r.end m.rest m.remains n none next in
      record {
        tree = m.tree;
        parses = record { tokens = all.tokens; spelled = all.spelled; is = subst (λ l. Is expression l m.tree) (sym (m.split ∙ ap (λ l. m.front ++ l) end ∙ append-nil m.front)) m.is };
        count = m.count;
        filing = m.filing;
        naming = m.naming;
        writing = λ few u room. m.writing (omega arith) u room;
      }

  -- a closing bracket that closes nothing
  pub over_closed : (n : Option Lexeme) (f : Lexeme) → n ≡ Some f → Next text r.end (Ok n) → NotParsed text (text_fault.Misplaced f.at)
  over_closed n f some next =
      let m = e.covered.made all.tokens all.spelled in
      let s = rest_some text r.end m.rest m.remains n f some next in
      let x = token (sign_of f.token) f.at in
      let w = walks m.is top in
      let close : sign_of f.token ≡ closing = e.ends m.rest m.remains x s.0 s.1 in (
        all.tokens,
        all.spelled,
        first_bad all.tokens (length text) f.at
            (subst (λ l. Halts (start top) l (length text) f.at) (sym (m.split ∙ ap (λ l. m.front ++ l) s.1))
            (halts_later (start top) (after w.0 w.1) m.front (x ∷ s.0) (length text) f.at w.2
            (halts_here (after w.0 w.1) x s.0 (length text) tt (ap (λ y. step (after w.0 w.1) y f.at) close ∙ w.3)))),
      )

-- What each question refuses, and what is left when none does.

two_bounds : (scope : List Name) (w : Name) (j k : ℕ) → Bound scope w j → Bound scope w k → j ≡ k
two_bounds scope w j k a b =
    ⊎_elim (λ lt. absurd (b.innermost j lt a.bears)) (λ ge. ⊎_elim (λ lt. absurd (a.innermost k lt b.bears)) (λ le. omega arith) (order k j)) (order j k)

two_least : (es : List Entry) (w : Name) (j k : ℕ) → Least es w (Some j) → Least es w (Some k) → j ≡ k
two_least es w j k a b =
    ⊎_elim (λ lt. absurd (b.1 j lt a.0)) (λ ge. ⊎_elim (λ lt. absurd (a.1 k lt b.0)) (λ le. omega arith) (order k j)) (order j k)

-- names have one meaning, so a tree has one term
pub resolves_once : {es : List Entry} {scope : List Name} {t : Tree} {u v : Term} → Resolves es scope t u → Resolves es scope t v → u ≡ v
resolves_once (bound {scope = s} {w = w} {k = j} a) (bound {k = k} b) = ap variable (two_bounds s w j k a b)
resolves_once (bound {k = j} a) (entered n l) = absurd (n j a)
resolves_once (entered n l) (bound {k = j} a) = absurd (n j a)
resolves_once {es} (entered {w = w} {k = j} n l) (entered {k = k} m i) = ap primitive (two_least es w j k l i)
resolves_once refers refers = refl
resolves_once (binds r) (binds s) = ap abstraction (resolves_once r s)
resolves_once (applies {a = a} r s) (applies {f = f} x y) = ap (λ t. application t a) (resolves_once r x) ∙ ap (application f) (resolves_once s y)

pub one_tree : (text : List ℕ) (t u : Tree) → Parses text t → Parses text u → t ≡ u
one_tree text t u p q =
    let same = one_reading text p.tokens q.tokens p.spelled q.spelled in
    unambiguous p.tokens t u p.is (subst (λ l. Is expression l u) same q.is)

pub refused_text : (es : List Entry) (filed : ℕ) (text : List ℕ) (room : ℕ) (f : TextFault) → NotParsed text f → Refuses es filed text room (says (fault.Text f))
refused_text es filed text room (text_fault.Stray p) n = no_tokens n
refused_text es filed text room (text_fault.Misplaced p) n = no_expression n.1 n.2

module _ (text : List ℕ) (es : List Entry) (filed : ℕ) (out out' : List TermNode) (r : Reach) (p : Parsed text es filed out out' r) where
  few_nodes : r.count ≤ 1024 → nodes p.tree ≤ 1024
  few_nodes h = omega (arith, p.count)

  fits : r.count ≤ length out → nodes p.tree ≤ length out
  fits h = omega (arith, p.count)

  pub refused_count : 1024 < r.count → Refuses es filed text (length out) (says fault.TooManyNodes)
  refused_count h = too_many_nodes p.parses (omega (arith, p.count))

  pub refused_room : r.count ≤ 1024 → length out < r.count → Refuses es filed text (length out) (says fault.NoRoom)
  refused_room h l = no_room p.parses (few_nodes h) (omega (arith, p.count))

  pub refused_name : (at : ℕ) → r.count ≤ 1024 → r.count ≤ length out → r.unknown ≡ Some at → Refuses es filed text (length out) (says (fault.Unknown at))
  refused_name at h l e =
      unknown p.parses (few_nodes h) (fits l) (subst (Fails (Known es) (λ u. u.at) (uses [] p.tree)) e p.naming)

  all_known : r.count ≤ 1024 → r.unknown ≡ None → AllByRecursion (Known es) (uses [] p.tree)
  all_known h e = subst (Fails (Known es) (λ u. u.at) (uses [] p.tree)) e p.naming

  pub refused_reference : (at : ℕ) → r.count ≤ 1024 → r.count ≤ length out → r.unknown ≡ None → r.unfiled ≡ Some at → Refuses es filed text (length out) (says (fault.NotFiled at))
  refused_reference at h l n e =
      not_filed p.parses (few_nodes h) (fits l) (all_known h n) (subst (Fails (Filed filed) (λ x. x.at) (references p.tree)) e p.filing)

  pub drafted : r.count ≤ 1024 → r.count ≤ length out → length out' ≡ length out → r.unknown ≡ None → r.unfiled ≡ None → Drafted es filed text out' r.count
  drafted h l same n e =
      let w = p.writing (few_nodes h) n (fits l) in
      let long = resolved_nodes w.1 in
      record {
        term = w.0;
        formula = record { tree = p.tree; parses = p.parses; resolves = w.1 };
        only = λ t f. resolves_once (subst (λ x. Resolves es [] x t) (one_tree text f.tree p.tree f.parses p.parses) f.resolves) w.1;
        below = subst (Fails (Filed filed) (λ x. x.at) (references p.tree)) e p.filing;
        count = p.count ∙ sym long;
        few = h;
        fits = omega arith;
        front = ap (λ k. take k out') p.count ∙ ap (take (nodes p.tree)) w.2 ∙ take_at (prefix w.0) (drop (nodes p.tree) out) (nodes p.tree) long;
      }

pub accepted : (es : List Entry) (filed : ℕ) (text : List ℕ) (out out' : List TermNode) (n : ℕ) → Drafted es filed text out n → out' ≡ take n out ++ replicate (length out - n) zero_node → length out' ≡ length out → Accepted es filed text out' n
accepted es filed text out out' n d e l =
    record {
      term = d.term;
      formula = d.formula;
      only = d.only;
      below = d.below;
      count = d.count;
      few = d.few;
      fits = omega (arith, d.fits);
      holds = e ∙ ap (λ m. m ++ replicate (length out - n) zero_node) d.front ∙ ap (λ k. prefix d.term ++ replicate (k - n) zero_node) (sym l);
    }

no_less : (n : ℕ) → n - 0 ≡ n
no_less n = omega arith

-- the whole answer: what stands is the draft's term with zeros behind it, or zeros only
pub answered : (es : List Entry) (filed : ℕ) (text : List ℕ) (room : ℕ) (out out' : List TermNode) (r : Result ℕ FormulaFault) (n : ℕ) → MatchResult r (λ n. Drafted es filed text out n) (λ f. Refuses es filed text room (says f)) → n ≡ result_unwrap_or r 0 → out' ≡ take n out ++ replicate (length out - n) zero_node → length out ≡ room → length out' ≡ length out → MatchResult r (λ n. Accepted es filed text out' n) (λ f. Refuses es filed text room (says f) × (out' ≡ replicate room zero_node))
answered es filed text room out out' (Ok n) m d e c l k = accepted es filed text out out' n d (subst (λ i. out' ≡ take i out ++ replicate (length out - i) zero_node) e c) k
answered es filed text room out out' (Err f) m d e c l k = (d, subst (λ i. out' ≡ take i out ++ replicate (length out - i) zero_node) e c ∙ ap (λ i. replicate i zero_node) (no_less (length out) ∙ l))

rest_joined : {X : Type 0} (o : List X) (n s : ℕ) → n ≤ s → drop n (take s o) ++ drop s o ≡ drop n o
rest_joined o n s h =
    let m : n + (s - n) ≡ s = omega arith in
    ap (λ k. drop n (take k o) ++ drop k o) (sym m) ∙ ap (λ l. l ++ drop (n + (s - n)) o) (drop-take n (s - n) o) ∙ ap (λ l. take (s - n) (drop n o) ++ l) (sym (drop-drop (s - n) n o)) ∙ take-append-drop (s - n) (drop n o)

-- what is read into the front of a memory is read into all of it, as far as a term may go
pub parsed_part : (text : List ℕ) (es : List Entry) (filed : ℕ) (out out' : List TermNode) (s : ℕ) (r : Reach) → s ≡ min (length out) 1024 → Parsed text es filed (take s out) out' r → Parsed text es filed out (out' ++ drop s out) r
parsed_part text es filed out out' s r e p =
    record {
      tree = p.tree;
      parses = p.parses;
      count = p.count;
      filing = p.filing;
      naming = p.naming;
      writing = λ few none room.
          let n = nodes p.tree in
          let fits : nodes p.tree ≤ length (take s out) = omega (arith, e, length-take s out) in
          let w = p.writing few none fits in
          (w.0, w.1, ap (λ l. l ++ drop s out) w.2 ∙ append_assoc (prefix w.0) (drop n (take s out)) (drop s out) ∙ ap (λ l. prefix w.0 ++ l) (rest_joined out n s (omega (arith, e))));
    }
