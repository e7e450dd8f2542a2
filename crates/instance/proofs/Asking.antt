-- One node of the general list against one place of the special one: which substitutions remain.
use Rattle.std.proofs.Common.{◌≡◌, ℕ, ◌+◌, ◌<◌, Bool, true, false, ◌≢◌, List, length, get_or, Option, Some, None, sym, refl, ap, ◌∙◌, subst, ap₂, inl, inr, arith}
use Rattle.std.proofs.lemmas.Bool.{cases_eq}
use Rattle.types.specs.declared.TypeNode.{TypeNode}
use Rattle.types.specs.declared.Shape.{Shape}
use Rattle.types.specs.declared.Shape.TheVariants.{Variable, Base, Arrow}
use Rattle.types.specs.Types.{Ty, base, branch, apply}
use Rattle.types.specs.Lists.{zero_node, type_at}
use Rattle.types.specs.Shapes.{shape_of}
use Rattle.instance.specs.declared.matching.Matching.{Matching}
use Rattle.instance.specs.Matching.{Gave, Taken, Given, Pending, Within, Passed, Clash, Stepped}
use Rattle.instance.specs.Slots.{places}
use Rattle.instance.proofs.Shapes.{type_of, meant, meant_some, lower}
use Rattle.instance.proofs.Places.{left_of, right_of, places_are_types}
use Rattle.instance.proofs.Tables.{OfPlaces, gave_onto, gave_back}

other_base : (c : ℕ) (l : List TypeNode) (x : Shape) → base c ≡ type_of l x → x ≢ Base c → ⊥
other_base c l (Variable v) e other = cc
other_base c l (Base d) e other = other (cc)
other_base c l (Arrow a b) e other = cc

no_arrow : (l : List TypeNode) (x : Shape) (t u : Ty) → branch 2 t u ≡ type_of l x → ((a b : ℕ) → x ≢ Arrow a b) → ⊥
no_arrow l (Variable v) t u e other = cc
no_arrow l (Base d) t u e other = cc
no_arrow l (Arrow a b) t u e other = other a b refl

-- a node that nothing is asked of
pub step_free : (m : Matching) (k : ℕ) → Within (length m.special.now) (places m.nodes) (places m.variables) (k + 1) → get_or (places m.nodes) k None ≡ None → Passed m.general.now m.special.now (places m.nodes) (places m.nodes) (places m.variables) (places m.variables) k
step_free m k ins free =
    record {
      within = record { parts = λ j q h e. ins.parts j q (omega arith) e; named = ins.named };
      onto = λ σ p. record { parts = λ j q h e. p.parts j q (omega arith) e; named = p.named };
      back = λ σ p.
          record {
            parts = λ j q h e.
                elim (cases_eq j k) [
                  | inl same ↦ (let at : get_or (places m.nodes) k None ≡ Some q = subst (λ (i : ℕ). get_or (places m.nodes) i None ≡ Some q) same e in absurd (cc (at, free)))
                  | inr other ↦ p.parts j q (omega arith) e
                ];
            named = p.named;
          };
    }

module _ (m : Matching) (k : ℕ) (here : k < length m.general.now) (ins : Within (length m.special.now) (places m.nodes) (places m.variables) (k + 1)) (place : ℕ) (marked : get_or (places m.nodes) k None ≡ Some place) where
  abbrev g : List TypeNode
  g = m.general.now

  abbrev s : List TypeNode
  s = m.special.now

  abbrev ns : List (Option ℕ)
  ns = places m.nodes

  abbrev vs : List (Option ℕ)
  vs = places m.variables

  abbrev Asks : (ℕ → Ty) → ℕ → ℕ → Type 0
  Asks σ j q = j < k → apply σ (type_at g j) ≡ type_at s q

  abbrev Inside : ℕ → ℕ → Type 0
  Inside j q = j < k → q < length s

  asked_below : (σ : ℕ → Ty) → Pending g s ns vs (k + 1) σ → OfPlaces ns (Asks σ)
  asked_below σ p j q e h = p.parts j q (omega arith) e

  inside_below : OfPlaces ns Inside
  inside_below j q e h = ins.parts j q (omega arith) e

  pub place_inside : place < length s
  place_inside = ins.parts k place (omega arith) marked

  asked : (σ : ℕ → Ty) → Pending g s ns vs (k + 1) σ → apply σ (type_at g k) ≡ type_at s place
  asked σ p = p.parts k place (omega arith) marked

  -- what is asked of the variables, below the node and at it
  all_asked : (σ : ℕ → Ty) → OfPlaces vs (λ v q. σ v ≡ type_at s q) → OfPlaces ns (Asks σ) → apply σ (type_at g k) ≡ type_at s place → Pending g s ns vs (k + 1) σ
  all_asked σ named below last =
      record {
        named = named;
        parts = λ j q h e.
            elim (cases_eq j k) [
              | inl same ↦
                  (let at : get_or ns k None ≡ Some q = subst (λ (i : ℕ). get_or ns i None ≡ Some q) same e in
                  let q-is : place ≡ q = cc (at, marked) in
                  subst (λ (i : ℕ). apply σ (type_at g i) ≡ type_at s q) (sym same) (subst (λ (x : ℕ). apply σ (type_at g k) ≡ type_at s x) q-is last))
              | inr other ↦ below j q e (omega arith)
            ];
      }

  -- an entry that has another place: one type cannot be at both
  two_places : (t : List (Option ℕ)) (entry q : ℕ) (type : Ty) → Taken t entry q → ((x : ℕ) → get_or t entry None ≡ Some x → (x < length s) × (type ≡ type_at s x)) → q < length s → type ≡ type_at s q → ⊥
  two_places t entry q type taken at hq is =
      let w = at taken.other taken.has in
      taken.differs (places_are_types s m.special_lawful.each m.special_once taken.other q w.0 hq (sym w.1 ∙ is))

  pub step_variable : (v : ℕ) → shape_of (get_or g k zero_node) ≡ Some (Variable v) → (vs' : List (Option ℕ)) (r : Bool) → Given vs vs' v place r → Stepped g s ns ns vs vs' k r
  step_variable v says vs' true w =
      let is = meant g m.general_lawful.each k here (Variable v) says in
      record {
        within = record { parts = λ j q h e. inside_below j q e h; named = gave_onto (λ _ q. q < length s) vs vs' v place w ins.named place_inside };
        onto = λ σ p.
            record {
              parts = λ j q h e. asked_below σ p j q e h;
              named = gave_onto (λ u q. σ u ≡ type_at s q) vs vs' v place w p.named (sym (ap (apply σ) is) ∙ asked σ p);
            };
        back = λ σ p.
            all_asked σ
            (gave_back (λ u q. σ u ≡ type_at s q) vs vs' v place w p.named)
            (λ j q e h. p.parts j q h e)
            (ap (apply σ) is ∙ p.named v place w.has);
      }
  step_variable v says vs' false w =
      λ σ p.
      (let is = meant g m.general_lawful.each k here (Variable v) says in
      two_places vs v place (σ v) w (λ x e. (ins.named v x e, p.named v x e)) place_inside (sym (ap (apply σ) is) ∙ asked σ p))

  -- a base is an instance of itself only
  step_base : (c : ℕ) → shape_of (get_or g k zero_node) ≡ Some (Base c) → shape_of (get_or s place zero_node) ≡ Some (Base c) → Passed g s ns ns vs vs k
  step_base c says same =
      let is = meant g m.general_lawful.each k here (Base c) says in
      let has = meant s m.special_lawful.each place place_inside (Base c) same in
      record {
        within = record { parts = λ j q h e. inside_below j q e h; named = ins.named };
        onto = λ σ p. record { parts = λ j q h e. asked_below σ p j q e h; named = p.named };
        back = λ σ p. all_asked σ p.named (λ j q e h. p.parts j q h e) (ap (apply σ) is ∙ sym has);
      }

  step_other_base : (c : ℕ) → shape_of (get_or g k zero_node) ≡ Some (Base c) → shape_of (get_or s place zero_node) ≢ Some (Base c) → Clash g s ns vs (k + 1)
  step_other_base c says differ =
      λ σ p.
      (let has = meant_some s m.special_lawful.each place place_inside _ refl in
      let is : base c ≡ type_of s has.0 = sym (ap (apply σ) (meant g m.general_lawful.each k here (Base c) says)) ∙ asked σ p ∙ meant s m.special_lawful.each place place_inside has.0 has.1 in
      other_base c s has.0 is (λ same. differ (has.1 ∙ ap Some same)))

  pub step_one_base : (c : ℕ) → shape_of (get_or g k zero_node) ≡ Some (Base c) → (r : Bool) → (r ≡ true → shape_of (get_or s place zero_node) ≡ Some (Base c)) → (r ≡ false → shape_of (get_or s place zero_node) ≢ Some (Base c)) → Stepped g s ns ns vs vs k r
  step_one_base c says true same differ = step_base c says (same refl)
  step_one_base c says false same differ = step_other_base c says (differ refl)

  module _ (gl gr : ℕ) (says : shape_of (get_or g k zero_node) ≡ Some (Arrow gl gr)) where
    asked_arrow : type_at g k ≡ branch 2 (type_at g gl) (type_at g gr)
    asked_arrow = meant g m.general_lawful.each k here (Arrow gl gr) says

    pub asked_lower : (gl < k) × (gr < k)
    asked_lower = lower g m.general_lawful.each k here gl gr says

    pub step_no_arrow : ((sl sr : ℕ) → shape_of (get_or s place zero_node) ≢ Some (Arrow sl sr)) → Clash g s ns vs (k + 1)
    step_no_arrow none =
        λ σ p.
        (let has = meant_some s m.special_lawful.each place place_inside _ refl in
        let is : branch 2 (apply σ (type_at g gl)) (apply σ (type_at g gr)) ≡ type_of s has.0 = sym (ap (apply σ) asked_arrow) ∙ asked σ p ∙ meant s m.special_lawful.each place place_inside has.0 has.1 in
        no_arrow s has.0 _ _ is (λ a b same. none a b (has.1 ∙ ap Some same)))

    module _ (sl sr : ℕ) (has : shape_of (get_or s place zero_node) ≡ Some (Arrow sl sr)) where
      has_arrow : type_at s place ≡ branch 2 (type_at s sl) (type_at s sr)
      has_arrow = meant s m.special_lawful.each place place_inside (Arrow sl sr) has

      has_inside : (sl < length s) × (sr < length s)
      has_inside = let w = lower s m.special_lawful.each place place_inside sl sr has in let h = place_inside in (omega (arith, w.0), omega (arith, w.1))

      parts_asked : (σ : ℕ → Ty) → Pending g s ns vs (k + 1) σ → branch 2 (apply σ (type_at g gl)) (apply σ (type_at g gr)) ≡ branch 2 (type_at s sl) (type_at s sr)
      parts_asked σ p = sym (ap (apply σ) asked_arrow) ∙ asked σ p ∙ has_arrow

      left_clash : Taken ns gl sl → Clash g s ns vs (k + 1)
      left_clash taken =
          λ σ p.
          two_places ns gl sl (apply σ (type_at g gl)) taken
          (λ x e. (inside_below gl x e asked_lower.0, asked_below σ p gl x e asked_lower.0))
          has_inside.0
          (ap left_of (parts_asked σ p))

      pub step_left : (ns' : List (Option ℕ)) (r : Bool) → r ≡ false → Taken ns gl sl → Stepped g s ns ns' vs vs k r
      step_left ns' r e taken = subst (λ (b : Bool). Stepped g s ns ns' vs vs k b) (sym e) (left_clash taken)

      pub step_right : (ns₁ ns₂ : List (Option ℕ)) (r : Bool) → Gave ns ns₁ gl sl → Given ns₁ ns₂ gr sr r → Stepped g s ns ns₂ vs vs k r
      step_right ns₁ ns₂ true w z =
          record {
            within =
                record {
                  parts = λ j q h e. gave_onto Inside ns₁ ns₂ gr sr z (gave_onto Inside ns ns₁ gl sl w inside_below (λ _. has_inside.0)) (λ _. has_inside.1) j q e h;
                  named = ins.named;
                };
            onto = λ σ p.
                record {
                  parts = λ j q h e.
                      gave_onto (Asks σ) ns₁ ns₂ gr sr z
                      (gave_onto (Asks σ) ns ns₁ gl sl w (asked_below σ p) (λ _. ap left_of (parts_asked σ p)))
                      (λ _. ap right_of (parts_asked σ p)) j q e h;
                  named = p.named;
                };
            back = λ σ p.
                (let middle = gave_back (Asks σ) ns₁ ns₂ gr sr z (λ j q e h. p.parts j q h e) in
                all_asked σ p.named (gave_back (Asks σ) ns ns₁ gl sl w middle)
                (ap (apply σ) asked_arrow ∙ ap₂ (branch 2) (middle gl sl w.has asked_lower.0) (p.parts gr sr asked_lower.1 z.has) ∙ sym has_arrow));
          }
      step_right ns₁ ns₂ false w z =
          λ σ p.
          two_places ns₁ gr sr (apply σ (type_at g gr)) z
          (λ x e. (
            gave_onto Inside ns ns₁ gl sl w inside_below (λ _. has_inside.0) gr x e asked_lower.1,
            gave_onto (Asks σ) ns ns₁ gl sl w (asked_below σ p) (λ _. ap left_of (parts_asked σ p)) gr x e asked_lower.1,
          ))
          has_inside.1
          (ap right_of (parts_asked σ p))
