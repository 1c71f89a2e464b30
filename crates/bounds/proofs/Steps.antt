-- What one turn of each loop does to its definition. Assumes nothing.
use Prim.Native.Nat.{ℕ, ◌+◌, ◌-◌, ◌≤◌, ◌<◌}
use mathlib.Core.Path.{◌≡◌, refl, sym, ◌∙◌, ap, ap₂}
use mathlib.Core.List.{List}
use native.Mathlib.Numerals.{add-one}
use native.Mathlib.Omega.{arith}
use lib.ListN.{length, get_or, set}
use lib.Seq.{get_or-set_same, get_or-set_other}
use lib.Ieee.{Float}
use Rattle.doubles.specs.Neighbour.{fmin, fmax}
use Rattle.jets.specs.declared.jet.Jet.{Jet}
use Rattle.jets.specs.declared.net.Control.{Control}
use Rattle.jets.specs.Net.{zero_control, share_at, mix_by, refused_by, neighbours, net_of, refusal_levels, last_by, deboor_of}
use Rattle.jets.proofs.Levels.{get_d_any, step_is, Walked, walked-down, walked-up, levels-from, levels-none}
use Rattle.bounds.specs.Levels.{held, Reached}
use Rattle.bounds.specs.Start.{max_from, min_from, extremes_of, no_extremes}
use Rattle.bounds.specs.Surface.{max_rows, min_rows, net_extremes}
use Rattle.std.specs.Prelude.{Result, Ok}
use Rattle.knots.specs.declared.refusal.Refusal.{Refusal}

-- ---- the largest and the smallest weight

pub max-more : (a : Float) (w : ℕ → Float) (m : ℕ) → max_from a w (m + 1) ≡ fmax (max_from a w m) (w m)
unfolding max_from
max-more a w m = ap (max_from a w) (add-one m)

pub min-more : (a : Float) (w : ℕ → Float) (m : ℕ) → min_from a w (m + 1) ≡ fmin (min_from a w m) (w m)
unfolding min_from
min-more a w m = ap (min_from a w) (add-one m)

pub net-more : (w : ℕ → ℕ → Float) (k m : ℕ) → extremes_of (net_extremes w k m) (w m) k ≡ net_extremes w k (m + 1)
unfolding extremes_of net_extremes min_rows max_rows
net-more w k m = sym (ap (net_extremes w k) (add-one m))

pub net-none : (w : ℕ → ℕ → Float) (k : ℕ) → no_extremes ≡ net_extremes w k 0
unfolding net_extremes min_rows max_rows
net-none w k = refl

-- ---- the levels, one after the other

module _ (ks : List Float) (p s : ℕ) (t : Jet) {X : Type 0} (keep : Control → X) (c : ℕ → Control) where
  pub reached_start : (g : ℕ → X) → ((i : ℕ) → i ≤ p → g i ≡ keep (c i)) → Reached ks p s t keep c g 1
  unfolding net_of
  reached_start g k = record { within = omega arith; clear = let e : p + 1 - 1 ≡ p = omega arith in ap (refusal_levels ks p s t 1) e; held = k }

  module _ (g : ℕ → X) (l : ℕ) (R : Reached ks p s t keep c g l) where
    -- a level starts at its last place
    pub walk_start : 0 < l → l ≤ p → Walked ks p s t c keep g l p
    walk_start a h = record {
      low = a;
      top = omega arith;
      inner = λ x. x;
      refusal = levels-from ks p s t c l a ∙ R.clear;
      old = R.held;
      new = λ i m q. absurd (omega arith);
    }

    -- behind the last level: its last place, and no refusal
    pub reached-end : p < l → (g p ≡ keep (net_of ks p s t c p p)) × (deboor_of ks p s t c ≡ Ok (net_of ks p s t c p p))
    unfolding deboor_of last_by
    reached-end h =
        let b = R.within in
        let u : l - 1 ≡ p = omega arith in
        let none : refusal_levels ks p s t 1 p ≡ Ok tt = sym R.clear ∙ levels-none ks p s t c l (p + 1 - l) (omega arith) in
        (R.held p (omega arith) ∙ ap (λ (k : ℕ). keep (net_of ks p s t c k p)) u, ap (λ (k : Result (Unit {0}) Refusal). last_by k (net_of ks p s t c p p)) none)

  module _ (g : ℕ → X) (l j : ℕ) (W : Walked ks p s t c keep g l j) (h : l ≤ p) where
    -- the first place ends its level
    pub walk_end : j ≤ l → (g' : ℕ → X) → refused_by (share_at ks p s t l j) ≡ Ok tt
        → g' j ≡ keep (mix_by (share_at ks p s t l j) (net_of ks p s t c (l - 1) (j - 1)) (net_of ks p s t c (l - 1) j))
        → ((i : ℕ) → (i ≡ j → ⊥) → i ≤ p → g' i ≡ g i) → Reached ks p s t keep c g' (l + 1)
    walk_end q g' e here other =
        let U = walked-up ks p s t c keep g l j W h g' e here other (λ z. absurd (omega arith)) in
        record { within = omega arith; clear = sym (levels-from ks p s t c (l + 1) (omega arith)) ∙ U.refusal; held = U.old }

-- ---- the same of a list of points, whatever is read behind its end

pub levels-end : (ks : List Float) (p s : ℕ) (t : Jet) (c : ℕ → Control) (net : List Control) (l : ℕ) → Reached ks p s t (λ x. x) c (held net) l → p < l → p < length net → (d : Control) → Ok (get_or net p d) ≡ deboor_of ks p s t c
levels-end ks p s t c net l R h r d = let z = reached-end ks p s t (λ x. x) c (held net) l R h in ap Ok (get_d_any net p d zero_control r ∙ z.0) ∙ sym z.1

module _ (ks : List Float) (p s : ℕ) (t : Jet) (c : ℕ → Control) (net : List Control) (l j : ℕ) (W : Walked ks p s t c (λ x. x) (held net) l j) (h : l ≤ p) (r : p < length net) (d e v : Control)
    (is : neighbours (share_at ks p s t l j) (get_or net (j - 1) d) (get_or net j e) ≡ Ok v) where
  here : held (set net j v) j ≡ mix_by (share_at ks p s t l j) (net_of ks p s t c (l - 1) (j - 1)) (net_of ks p s t c (l - 1) j)
  here =
      let a = W.top in
      get_or-set_same net j v zero_control (omega arith)
      ∙ (sym (step_is (share_at ks p s t l j) _ _ v is).0
      ∙ ap₂ (mix_by (share_at ks p s t l j)) (get_d_any net (j - 1) d zero_control (omega arith) ∙ W.old (j - 1) (omega arith)) (get_d_any net j e zero_control (omega arith) ∙ W.old j (omega arith)))

  other : (i : ℕ) → (i ≡ j → ⊥) → i ≤ p → held (set net j v) i ≡ held net i
  other i k q = get_or-set_other net j i v zero_control k

  pub net-down : l < j → Walked ks p s t c (λ x. x) (held (set net j v)) l (j - 1)
  net-down = walked-down ks p s t c (λ x. x) (held net) l j W h (held (set net j v)) (step_is (share_at ks p s t l j) _ _ v is).1 here other

  pub net-done : j ≤ l → Reached ks p s t (λ x. x) c (held (set net j v)) (l + 1)
  net-done q = walk_end ks p s t (λ x. x) c (held net) l j W h q (held (set net j v)) (step_is (share_at ks p s t l j) _ _ v is).1 here other
