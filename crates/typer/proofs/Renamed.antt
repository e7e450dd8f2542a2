-- A principal typing with its variables numbered anew is principal; its list begins with that of the root's type.
use Rattle.std.proofs.Common.{◌≡◌, ℕ, ◌-◌, ◌<◌, ◌≤◌, List, [], ◌∷◌, ◌++◌, map, length, get_or, take, replicate, Some, None, Option, IfNone, IfOk, MatchResult, sym, refl, ap, ◌∙◌, subst, ⊎_elim, arith}
use Rattle.std.specs.List.{AllByRecursion}
use Rattle.std.specs.Option.{ok_or}
use Rattle.std.proofs.lemmas.List.{length-map, get_or-map, ext_get_or, take_all, get_or_append_left, get_or-append_right, get_or-replicate, get_or_past}
use Rattle.std.proofs.ByRecursion.{All-from_get_or}
use Rattle.std.proofs.lemmas.Bool.{cases_lt}
use Rattle.types.specs.declared.TypeNode.{TypeNode}
use Rattle.types.specs.Types.{Ty, variable, apply}
use Rattle.types.specs.Lists.{zero_node, Lawful, type_at}
use Rattle.term.specs.declared.TermNode.{TermNode}
use Rattle.term.specs.Terms.{Term}
use Rattle.copy.specs.Instances.{Lists}
use Rattle.infer.specs.Typing.{size}
use Rattle.infer.specs.Heads.{need}
use Rattle.infer.proofs.Typings.{some_node, typing_same}
use Rattle.normal.specs.Normal.{place, parts, rank, normal, normal_of}
use Rattle.normal.specs.Laws.{Proper, Simple, numbered}
use Rattle.normal.specs.Built.{none}
use Rattle.normal.proofs.Parts.{parts_built}
use Rattle.normal.proofs.Meaning.{normal_means, normal_once, normal_lawful, normal_begins, parts_have, variable_at, renumbered, apply_apply}
use Rattle.normal.proofs.Rename.{renaming_keeps_list}
use Rattle.theory.specs.Principal.{LawfulLists}
use Rattle.theory.proofs.Principals.{principal_is_one}
use Rattle.typer.specs.Answers.{PrincipalType, PrincipalTyping, Zeros, OneTypeList, OneTypingList}
use Rattle.typer.specs.Nodes.{of, NodesListed, Listing}
use Rattle.typer.specs.Derivations.{Holds, Derived, DerivedNodes, Underived, no_type}
use Rattle.typer.specs.Faults.{derive_says}
use Rattle.typer.specs.declared.fault.DeriveFault.{DeriveFault}
use Rattle.typer.specs.declared.fault.DeriveFault.TheVariants as Derive
use Rattle.typer.proofs.Mapped.{typing_mapped, applied, principal_type, principal_simple}
use Rattle.typer.proofs.Wholes.{all_zeros}

module _ (E K : Lists) (t : Term) (us : List Ty) (proper : AllByRecursion Proper us) (long : length us ≡ size t) (d : PrincipalTyping E K t (of us)) where
  -- the types as the list has them
  pub numbered_principal : (T : ℕ → Ty) → ((p : ℕ) → p < size t → T p ≡ numbered us (of us p)) → PrincipalTyping E K t T
  numbered_principal T e =
      let ps = parts us in
      let ρ : ℕ → Ty = λ i. variable (rank ps i) in
      let built = parts_built us proper none in
      record {
        typing = typing_same E K t [] (λ p. apply ρ (of us p)) T 0 (λ p _ h. sym (e p (omega arith))) (typing_mapped E K (apply ρ) (applied E K ρ) t [] (of us) 0 d.typing);
        general = λ U x.
            let s = d.general U x in (
              λ j. apply s.0 (variable_at ps j),
              λ p h.
                  ap (apply (λ j. apply s.0 (variable_at ps j))) (e p h) ∙ sym (apply_apply s.0 (variable_at ps) (apply ρ (of us p)))
                  ∙ ap (apply s.0) (renumbered (of us p) built (parts_have us [] proper none p (omega arith))) ∙ s.1 p h,
            );
      }

  simple : LawfulLists E → LawfulLists K → AllByRecursion Simple us
  simple we wk = All-from_get_or Simple us (variable 0) (λ p h. principal_simple E K t (of us) d we wk p (omega arith))

  pub derivation_lawful : LawfulLists E → LawfulLists K → length (normal us) ≤ 4096 → Lawful (normal us)
  derivation_lawful we wk few = let s = some_node t in normal_lawful us (simple we wk) (omega arith) few

begins_with : (us : List Ty) → 0 < length us → AllByRecursion Proper us → take (length (normal_of (of us 0))) (normal us) ≡ normal_of (of us 0)
begins_with [] h w = absurd (omega arith)
begins_with (u ∷ us) h w = normal_begins (u ∷ []) us (w.0, tt)

pub derivation_begins : (E K : Lists) (t : Term) (us : List Ty) → 0 < length us → AllByRecursion Proper us → PrincipalType E K t (of us 0) → (τ : Ty) → PrincipalType E K t τ → take (length (normal_of τ)) (normal us) ≡ normal_of τ
derivation_begins E K t us h w p τ q =
    let same : normal_of (of us 0) ≡ normal_of τ = (principal_is_one E K t (of us 0) τ p q).2 in
    subst (λ (l : List TypeNode). take (length l) (normal us) ≡ l) same (begins_with us h w)

module _ (E K : Lists) (ts : List TermNode) (we : LawfulLists E) (wk : LawfulLists K) where
  derived : (qs more places : List ℕ) (types : List TypeNode) (numbers : List ℕ) (n : ℕ) → length qs ≡ length ts → need E K ts ≤ 4096 → NodesListed E K ts qs types n → Zeros more → places ≡ qs ++ more → Zeros numbers → DerivedNodes E K ts types places numbers n
  derived qs more places types numbers n one few l m pl z =
      let us = l.types in
      let whole : take (length qs) us ≡ us = take_all (length qs) us (omega (arith, l.long)) in
      let list : normal (take (length qs) us) ≡ normal us = ap normal whole in
      let count : n ≡ length (normal us) = l.count ∙ ap length list in
      let some = l.some in
      let long = l.long in
      let stands : (k : ℕ) → k < length ts → get_or places k 0 ≡ place (parts us) (of us k) = λ k h.
      ap (λ (xs : List ℕ). get_or xs k 0) pl ∙ get_or_append_left qs more 0 k (omega arith) ∙ l.places k (omega arith) ∙ ap (λ (xs : List Ty). place (parts xs) (of us k)) whole in
      record {
        derived =
            record {
              nodes = us;
              long = long;
              count = count;
              within = l.within;
              holds = l.holds ∙ ap (λ (xs : List TypeNode). xs ++ replicate (length types - n) zero_node) list;
              stands = stands;
              behind = λ k h.
                  ap (λ (xs : List ℕ). get_or xs k 0) pl ∙ get_or-append_right qs more (length qs) k 0 refl (omega arith)
                  ∙ ⊎_elim
                  (λ (g : k - length qs < length more). ap (λ (xs : List ℕ). get_or xs (k - length qs) 0) m ∙ get_or-replicate (length more) (k - length qs) 0 0 g)
                  (λ (g : length more ≤ k - length qs). get_or_past more (k - length qs) 0 g)
                  (cases_lt (k - length qs) (length more));
              zeros = z;
              once = (normal_once us l.proper).0;
              lawful = λ t e. derivation_lawful E K t us l.proper (long ∙ sym (ap length e)) (l.principal t e) we wk (omega (arith, l.within));
              principal = λ t e.
                  let same : size t ≡ length ts = ap length e in
                  numbered_principal E K t us l.proper (long ∙ sym (ap length e)) (l.principal t e) (λ k. type_at (normal us) (get_or places k 0))
                  (λ k h. ap (type_at (normal us)) (stands k (omega arith)) ∙ normal_means.1 us k l.proper (omega arith));
              begins = λ t e. derivation_begins E K t us (omega arith) l.proper (principal_type E K t (of us) (l.principal t e));
            };
        typing = l.principal;
      }

  module _ (qs more places places' : List ℕ) (types types' : List TypeNode) (numbers numbers' : List ℕ) (one : length qs ≡ length ts) (holds : Holds (need E K ts) (length ts) (length types) (length places) (length numbers)) (m : Zeros more) (pl : places' ≡ qs ++ more) (z : Zeros numbers') where
    -- the answer on a term whose derivation has room
    pub derivation_answered : (o : Option ℕ) → Listing E K ts qs types' o → IfNone o (Zeros qs) → MatchResult (ok_or o Derive.NoType) (λ n. Derived E K ts types' places' numbers' n) (λ f. Underived E K ts types types' places places' numbers numbers' (derive_says f))
    derivation_answered (Some n) l q = (derived qs more places' types' numbers' n one holds.serves.few l m pl z).derived
    derivation_answered None l q = no_type holds l.none l.clear (all_zeros 0 qs more places' q m pl) z

    pub nodes_answered : (o : Option ℕ) → Listing E K ts qs types' o → IfOk (ok_or {E = DeriveFault} o Derive.NoType) (λ n. DerivedNodes E K ts types' places' numbers' n)
    nodes_answered (Some n) l = derived qs more places' types' numbers' n one holds.serves.few l m pl z
    nodes_answered None l = tt

-- ---- one list for all

pub one_type_list : OneTypeList
one_type_list E K t τ υ p q = (principal_is_one E K t τ υ p q).2

all_instances : (t : Term) (us vs : List Ty) (σ : ℕ → Ty) → length us ≡ size t → length vs ≡ size t → ((p : ℕ) → p < size t → apply σ (of us p) ≡ of vs p) → map (apply σ) us ≡ vs
all_instances t us vs σ lu lv e =
    ext_get_or (variable 0) (map (apply σ) us) vs (length-map us (apply σ) ∙ lu ∙ sym lv)
    (λ p h. let hp : p < length us = omega (arith, length-map us (apply σ)) in get_or-map (apply σ) us p (variable 0) (variable 0) hp ∙ e p (omega arith))

pub one_typing_list : OneTypingList
one_typing_list E K t us vs lu lv p q =
    let there = p.general (of vs) q.typing in
    let back = q.general (of us) p.typing in
    renaming_keeps_list us vs there.0 back.0 (all_instances t us vs there.0 lu lv there.1) (all_instances t vs us back.0 lv lu back.1)
