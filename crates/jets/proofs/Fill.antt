-- What one turn of the loop that fills a net does to its definition. Assumes nothing.
use Prim.Native.Nat.{ℕ, zero, suc, ◌+◌, ◌-◌, ◌≤◌, ◌<◌}
use mathlib.Core.Path.{◌≡◌, refl, sym, ◌∙◌, ap, subst}
use mathlib.Core.List.{List}
use mathlib.Core.Logic.{inl, inr}
use native.Mathlib.Nat.{eq-or-lt_of_le}
use native.Mathlib.Omega.{arith}
use lib.ListN.{length, get_or, set, length-set}
use lib.Seq.{get_or-set_same, get_or-set_other}
use lib.Ieee.{Float}
use Rattle.std.specs.Prelude.{Result, Ok, Err}
use Rattle.knots.specs.declared.refusal.Refusal.{Refusal}
use Rattle.jets.specs.declared.jet.Jet.{Jet}
use Rattle.jets.specs.declared.net.Control.{Control}
use Rattle.jets.specs.Net.{refused_by, or_else, deboor_of, net_control, refusal_up, refuse_net, filled_of}

pub record InFill (f : ℕ → Result Control Refusal) (p : ℕ) (net : List Control) (m : ℕ) : Type 0 where
  pub long : length net ≡ 65
  pub high : m ≤ p + 1
  pub refusal : refusal_up f (p + 1 - m) m ≡ refusal_up f (p + 1) 0
  pub done : (d : Control) (i : ℕ) → i < m → get_or net i d ≡ net_control (f i)

module _ (f : ℕ → Result Control Refusal) (p : ℕ) where
  up_more : (k i : ℕ) → 0 < k → refusal_up f k i ≡ or_else (refused_by (f i)) (refusal_up f (k - 1) (i + 1))
  unfolding refusal_up
  up_more zero i h = absurd (omega arith)
  up_more (suc k) i h = let z : suc k - 1 ≡ k = omega arith in rw z

  up_none : (k i : ℕ) → k ≡ 0 → refusal_up f k i ≡ Ok tt
  unfolding refusal_up
  up_none zero i e = refl
  up_none (suc k) i e = absurd (omega arith)

  pub fill_step : (net : List Control) (m : ℕ) → InFill f p net m → m ≤ p → p ≤ 64 → (c : Control) → f m ≡ Ok c → InFill f p (set net m c) (m + 1)
  fill_step net m I h k c e =
      let L = I.long in
      record {
        long = length-set net m c ∙ I.long;
        high = omega arith;
        refusal =
            let w : p + 1 - (m + 1) ≡ p + 1 - m - 1 = omega arith in
            rw w (sym (up_more (p + 1 - m) m (omega arith) ∙ ap (λ (a : Result Control Refusal). or_else (refused_by a) (refusal_up f (p + 1 - m - 1) (m + 1))) e) ∙ I.refusal);
        done = λ d i q. elim (eq-or-lt_of_le (up_to i q)) [
          | inl w ↦ subst (λ (a : ℕ). get_or (set net m c) a d ≡ net_control (f a)) (sym w) (get_or-set_same net m c d (omega arith) ∙ sym (ap net_control e))
          | inr w ↦ get_or-set_other net m i c d (omega arith) ∙ I.done d i w
        ];
      }
    where
      up_to : (i : ℕ) → i < m + 1 → i ≤ m
      up_to i q = omega arith

  fill_stop : (net : List Control) (m : ℕ) → InFill f p net m → m ≤ p → (r : Refusal) → f m ≡ Err r → refusal_up f (p + 1) 0 ≡ Err r
  fill_stop net m I h r e =
      sym I.refusal ∙ up_more (p + 1 - m) m (omega arith) ∙ ap (λ (a : Result Control Refusal). or_else (refused_by a) (refusal_up f (p + 1 - m - 1) (m + 1))) e

  fill-clear : (net : List Control) (m : ℕ) → InFill f p net m → p < m → refusal_up f (p + 1) 0 ≡ Ok tt
  fill-clear net m I h = let H = I.high in sym I.refusal ∙ up_none (p + 1 - m) m (omega arith)

  module _ (ks : List Float) (s : ℕ) (t : Jet) where
    pub fill-refused : (net : List Control) (m : ℕ) → InFill f p net m → m ≤ p → (r : Refusal) → f m ≡ Err r → Err r ≡ filled_of ks p s t f
    unfolding filled_of
    fill-refused net m I h r e = ap (λ (k : Result (Unit {0}) Refusal). refuse_net k (deboor_of ks p s t (λ m. net_control (f m)))) (sym (fill_stop net m I h r e))

    pub fill-filled : (net : List Control) (m : ℕ) → InFill f p net m → p < m → deboor_of ks p s t (λ i. net_control (f i)) ≡ filled_of ks p s t f
    unfolding filled_of
    fill-filled net m I h = sym (ap (λ (k : Result (Unit {0}) Refusal). refuse_net k (deboor_of ks p s t (λ m. net_control (f m)))) (fill-clear net m I h))
