-- Function types and calls at the end of a graph.
use Rattle.std.proofs.Common.{◌≡◌, ℕ, ◌+◌, ◌<◌, ◌≤◌, Some, None, Result, Ok, Err, List, [], ◌∷◌, ◌++◌, length, sym, ◌∙◌, ap₂, arith}
use Rattle.types.specs.Types.{Ty, arrow}
use Rattle.graph.specs.Graph.{Solves, Sound}
use Rattle.graph.specs.Unifying.{Unified, Apart}
use Rattle.std.specs.Result.{result_ok}
use Rattle.graph.specs.declared.Clash.{Clash}
use Rattle.graph.specs.declared.Node.{Node}
use Rattle.graph.specs.declared.Node.TheVariants.{Var, Branch}
use Rattle.graph.proofs.Memory.{graph_length}
use Rattle.graph.specs.Memory.{nodes}
use Rattle.graph.specs.declared.Graph.{Graph}
use Rattle.graph.proofs.Memory.{graph_length}
use Rattle.copy.specs.Told.{Agree, Told, Never}
use Rattle.copy.proofs.Grow.{upd, upd_same, upd_below, pushed_length, pushed_sound, pushed_pop, pushed_last, pushed_onto}
use Rattle.infer.specs.Passes.{OfCall, OfArrow, Refused}

pub told_arrow : (ns ms : List Node) (a b i : ℕ) → Sound ns → a < length ns → b < length ns → i ≡ length ns → ms ≡ ns ++ Branch 2 a b ∷ [] → Told ns ms i (OfArrow a b)
told_arrow ns ms a b i sound ha hb ei e =
    let len = pushed_length ns ms (Branch 2 a b) e in
    record {
      sound = pushed_sound ns ms (Branch 2 a b) e sound (omega arith);
      longer = omega arith;
      inside = omega arith;
      back = λ v s. (pushed_pop ns ms (Branch 2 a b) e v s, pushed_last ns ms (Branch 2 a b) e v i ei s);
      onto = λ v τ s t. (
        upd v i τ,
        (λ k h. upd_below v i τ k (omega arith)),
        pushed_onto ns ms (Branch 2 a b) e v i τ ei sound s (upd_same v i τ ∙ t ∙ ap₂ arrow (sym (upd_below v i τ a (omega arith))) (sym (upd_below v i τ b (omega arith)))),
        upd_same v i τ,
      );
    }

-- a call: a result r, and a function type h from y to r, that is to be the type of g
module _ (ns n1 n2 : List Node) (g y r h : ℕ) (sound : Sound ns) (hg : g < length ns) (hy : y < length ns) (er : r ≡ length ns) (e1 : n1 ≡ ns ++ Var ∷ []) (eh : h ≡ length n1) (e2 : n2 ≡ n1 ++ Branch 2 y r ∷ []) where
  sound1 : Sound n1
  sound1 = pushed_sound ns n1 Var e1 sound tt

  call_onto : (v : ℕ → Ty) (τ : Ty) → Solves v ns → OfCall g y v τ → (w : ℕ → Ty) × Agree (length ns) w v × Solves w n2 × (w g ≡ w h) × (w r ≡ τ)
  call_onto v τ s t =
      let l1 = pushed_length ns n1 Var e1 in
      let u : ℕ → Ty = upd v r τ in
      let w : ℕ → Ty = upd u h (arrow (v y) τ) in
      let s1 : Solves u n1 = pushed_onto ns n1 Var e1 v r τ er sound s tt in
      let uy : u y ≡ v y = upd_below v r τ y (omega arith) in
      let wy : w y ≡ u y = upd_below u h (arrow (v y) τ) y (omega arith) in
      let ur : u r ≡ τ = upd_same v r τ in
      let wr : w r ≡ u r = upd_below u h (arrow (v y) τ) r (omega arith) in
      let ug : u g ≡ v g = upd_below v r τ g (omega arith) in
      let wg : w g ≡ u g = upd_below u h (arrow (v y) τ) g (omega arith) in
      let wh : w h ≡ arrow (v y) τ = upd_same u h (arrow (v y) τ) in
      let s2 : Solves w n2 = pushed_onto n1 n2 (Branch 2 y r) e2 u h (arrow (v y) τ) eh sound1 s1 (wh ∙ ap₂ arrow (sym (wy ∙ uy)) (sym (wr ∙ ur))) in
      (w, (λ k l. upd_below u h (arrow (v y) τ) k (omega arith) ∙ upd_below v r τ k (omega arith)), s2, wg ∙ ug ∙ t ∙ sym wh, wr ∙ ur)

  pub told_call : (ms : List Node) → length ms ≡ length n2 → Unified n2 ms g h (Ok tt) → Told ns ms r (OfCall g y)
  told_call ms len k =
      let l1 = pushed_length ns n1 Var e1 in
      let l2 = pushed_length n1 n2 (Branch 2 y r) e2 in
      record {
        sound = k.sound;
        longer = omega arith;
        inside = omega arith;
        back = λ v s.
            (let j = k.back v s tt in
            let s1 = pushed_pop n1 n2 (Branch 2 y r) e2 v j.0 in
            (pushed_pop ns n1 Var e1 v s1, j.1 ∙ pushed_last n1 n2 (Branch 2 y r) e2 v h eh j.0));
        onto = λ v τ s t. (let c = call_onto v τ s t in (c.0, c.1, (k.onto c.0 c.2 c.3).0, c.4));
      }

  pub no_call : Apart n2 g h → Never ns (OfCall g y)
  no_call apart v τ s t = let c = call_onto v τ s t in apart c.0 c.2 c.3

-- what unification answers, as an option
pub unified_ok : (ns ms : List Node) (a b : ℕ) (r : Result Unit Clash) (o : Unit) → Some o ≡ result_ok r → Unified ns ms a b r → Unified ns ms a b (Ok tt)
unified_ok ns ms a b (Ok w) o e u = u
unified_ok ns ms a b (Err c) o e u = absurd (cc)

pub unified_err : (ns ms : List Node) (a b : ℕ) (r : Result Unit Clash) → None ≡ result_ok r → Unified ns ms a b r → Apart ns a b
unified_err ns ms a b (Ok w) e u = absurd (cc)
unified_err ns ms a b (Err c) e u = u

-- the same where the graphs stand in a memory
module _ (g0 g1 g2 : Graph) (f y r h : ℕ) (sound : Sound (nodes g0)) (room : g0.used + 2 ≤ length g0.memory.now) (hf : f < g0.used) (hy : y < g0.used) (er : r ≡ g0.used) (u1 : g1.used ≡ g0.used + 1) (m1 : length g1.memory.now ≡ length g0.memory.now) (e1 : nodes g1 ≡ nodes g0 ++ Var ∷ []) (eh : h ≡ g1.used) (u2 : g2.used ≡ g1.used + 1) (m2 : length g2.memory.now ≡ length g1.memory.now) (e2 : nodes g2 ≡ nodes g1 ++ Branch 2 y r ∷ []) where
  l0 : length (nodes g0) ≡ g0.used
  l0 = graph_length g0.memory.now g0.used (omega arith)

  l1 : length (nodes g1) ≡ g1.used
  l1 = graph_length g1.memory.now g1.used (omega arith)

  l2 : length (nodes g2) ≡ g2.used
  l2 = graph_length g2.memory.now g2.used (omega arith)

  module _ (g3 : Graph) (u : Result Unit Clash) (unified : Unified (nodes g2) (nodes g3) f h u) where
    pub calls : (o : Unit) → Some o ≡ result_ok u → g3.used ≡ g2.used → length g3.memory.now ≡ length g2.memory.now → Told (nodes g0) (nodes g3) r (OfCall f y)
    calls o e u3 m3 =
        let l3 = graph_length g3.memory.now g3.used (omega arith) in
        told_call (nodes g0) (nodes g1) (nodes g2) f y r h sound (omega (arith, l0)) (omega (arith, l0)) (omega (arith, l0)) e1 (omega (arith, l1)) e2 (nodes g3) (omega (arith, l2)) (unified_ok _ _ _ _ u o e unified)

    pub calls_none : None ≡ result_ok u → Refused (nodes g0) (OfCall f y)
    calls_none e =
        record { never = no_call (nodes g0) (nodes g1) (nodes g2) f y r h sound (omega (arith, l0)) (omega (arith, l0)) (omega (arith, l0)) e1 (omega (arith, l1)) e2 (unified_err _ _ _ _ u e unified) }
