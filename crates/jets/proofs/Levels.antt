-- What one turn of the loop over the places of a level does to its definition. Assumes nothing.
use Prim.Native.Nat.{ℕ, zero, suc, ◌+◌, ◌-◌, ◌≤◌, ◌<◌}
use mathlib.Core.Path.{◌≡◌, refl, sym, ◌∙◌, ap, ap₂, subst}
use mathlib.Core.List.{List, [], ◌∷◌}
use mathlib.Core.Logic.{inl, inr}
use native.Mathlib.Nat.{eq-or-lt_of_le, le_of_suc-le-suc}
use native.Mathlib.Omega.{arith}
use lib.Dec.{leb}
use lib.ListN.{length, get_or}
use lib.Ieee.{Float}
use Rattle.std.specs.Prelude.{Result, Ok, Err}
use Rattle.knots.specs.declared.refusal.Refusal.{Refusal}
use borrow.Author.Tests.{le-leb, lt-leb}
use Rattle.doubles.proofs.TestFacts.{yes_or_no}
use Rattle.jets.specs.declared.jet.Jet.{Jet}
use Rattle.jets.specs.declared.net.Control.{Control}
use Rattle.jets.specs.Net.{share_at, mix_by, neighbours, refused_by, or_else, level_of, refusal_from, net_of, refusal_levels, last_by, deboor_of}
use Rattle.jets.specs.Net.{zero_control, net_control, filled_of}
use Rattle.jets.proofs.Fill.{InFill, fill-filled}

-- inside a list the default is never read
pub get_d_any : {A : Type 0} (l : List A) (k : ℕ) (d e : A) → k < length l → get_or l k d ≡ get_or l k e
get_d_any [] k d e h = absurd (omega arith)
get_d_any (x ∷ l) zero d e h = refl
get_d_any (x ∷ l) (suc k) d e h = get_d_any l k d e (le_of_suc-le-suc h)

-- the share behind an answer
pub step_is : (a : Result Jet Refusal) (x y c : Control) → neighbours a x y ≡ Ok c → mix_by a x y ≡ c × refused_by a ≡ Ok tt
step_is (Ok α) x y c e = (ap net_control e, refl)
step_is (Err r) x y c e = cc

pub step-refused : (a : Result Jet Refusal) (x y : Control) (r : Refusal) → neighbours a x y ≡ Err r → a ≡ Err r
step-refused (Ok α) x y r e = cc
step-refused (Err q) x y r e = cc

-- ---- all levels, place by place: above j the places of level l, and up to j those of the level before
-- g has what is kept of each place

pub record Walked (ks : List Float) (p s : ℕ) (t : Jet) (c : ℕ → Control) {X : Type 0} (keep : Control → X) (g : ℕ → X) (l j : ℕ) : Type 0 where
  pub low : 0 < l
  pub top : j ≤ p
  pub inner : l ≤ p → l ≤ j
  pub refusal : or_else (refusal_from ks p s t l (j + 1 - l) j) (refusal_levels ks p s t (l + 1) (p - l)) ≡ refusal_levels ks p s t 1 p
  pub old : (i : ℕ) → i ≤ j → g i ≡ keep (net_of ks p s t c (l - 1) i)
  pub new : (i : ℕ) → j < i → i ≤ p → g i ≡ keep (net_of ks p s t c l i)

module _ (ks : List Float) (p s : ℕ) (t : Jet) (c : ℕ → Control) where
  from_more : (l k j : ℕ) → 0 < k → refusal_from ks p s t l k j ≡ or_else (refused_by (share_at ks p s t l j)) (refusal_from ks p s t l (k - 1) (j - 1))
  unfolding refusal_from
  from_more l zero j h = absurd (omega arith)
  from_more l (suc k) j h = let z : suc k - 1 ≡ k = omega arith in rw z

  from-none : (l k j : ℕ) → k ≡ 0 → refusal_from ks p s t l k j ≡ Ok tt
  unfolding refusal_from
  from-none l zero j e = refl
  from-none l (suc k) j e = absurd (omega arith)

  levels-more : (l k : ℕ) → 0 < k → refusal_levels ks p s t l k ≡ or_else (refusal_from ks p s t l (p + 1 - l) p) (refusal_levels ks p s t (l + 1) (k - 1))
  unfolding refusal_levels
  levels-more l zero h = absurd (omega arith)
  levels-more l (suc k) h = let z : suc k - 1 ≡ k = omega arith in rw z

  pub levels-none : (l k : ℕ) → k ≡ 0 → refusal_levels ks p s t l k ≡ Ok tt
  unfolding refusal_levels
  levels-none l zero e = refl
  levels-none l (suc k) e = absurd (omega arith)

  -- the levels from l on, their first taken apart; there may be none
  pub levels-from : (l : ℕ) → 0 < l → or_else (refusal_from ks p s t l (p + 1 - l) p) (refusal_levels ks p s t (l + 1) (p - l)) ≡ refusal_levels ks p s t l (p + 1 - l)
  levels-from l h = elim (yes_or_no (leb l p)) [
    | inl x ↦
        let y = lib.Dec.leb→le l p x in
        let e : p + 1 - l - 1 ≡ p - l = omega arith in
        subst (λ (k : ℕ). or_else (refusal_from ks p s t l (p + 1 - l) p) (refusal_levels ks p s t (l + 1) k) ≡ refusal_levels ks p s t l (p + 1 - l)) e (sym (levels-more l (p + 1 - l) (omega arith)))
    | inr x ↦
        let y = lib.Dec.nleb→lt l p x in
        ap₂ or_else (from-none l (p + 1 - l) p (omega arith)) (levels-none (l + 1) (p - l) (omega arith)) ∙ sym (levels-none l (p + 1 - l) (omega arith))
  ]

  net-more : (l : ℕ) → 0 < l → (i : ℕ) → net_of ks p s t c l i ≡ level_of ks p s t l (net_of ks p s t c (l - 1)) i
  unfolding net_of
  net-more zero h i = absurd (omega arith)
  net-more (suc l) h i = let z : suc l - 1 ≡ l = omega arith in rw z

  level_in : (l j : ℕ) (d : ℕ → Control) → l ≤ j → level_of ks p s t l d j ≡ mix_by (share_at ks p s t l j) (d (j - 1)) (d j)
  unfolding level_of
  level_in l j d h = rw (le-leb l j h)

  level_out : (l j : ℕ) (d : ℕ → Control) → j < l → level_of ks p s t l d j ≡ d j
  unfolding level_of
  level_out l j d h = rw (lt-leb l j h)

  module _ {X : Type 0} (keep : Control → X) where
    module _ (g : ℕ → X) (l j : ℕ) (I : Walked ks p s t c keep g l j) (h : l ≤ p) where
      first_of : (a : Result Jet Refusal) → share_at ks p s t l j ≡ a
          → or_else (or_else (refused_by a) (refusal_from ks p s t l (j + 1 - l - 1) (j - 1))) (refusal_levels ks p s t (l + 1) (p - l)) ≡ refusal_levels ks p s t 1 p
      first_of a e =
          let q = I.inner h in
          subst (λ (x : Result Jet Refusal). or_else (or_else (refused_by x) (refusal_from ks p s t l (j + 1 - l - 1) (j - 1))) (refusal_levels ks p s t (l + 1) (p - l)) ≡ refusal_levels ks p s t 1 p) e
          (sym (ap (λ (x : Result (Unit {0}) Refusal). or_else x (refusal_levels ks p s t (l + 1) (p - l))) (from_more l (j + 1 - l) j (omega arith))) ∙ I.refusal)

      -- a refusal is the answer of all levels
      pub walked-refused : (r : Refusal) → share_at ks p s t l j ≡ Err r → Err r ≡ deboor_of ks p s t c
      unfolding deboor_of last_by
      walked-refused r e = ap (λ (k : Result (Unit {0}) Refusal). last_by k (net_of ks p s t c p p)) (first_of (Err r) e)

      module _ (g' : ℕ → X) (e : refused_by (share_at ks p s t l j) ≡ Ok tt)
          (here : g' j ≡ keep (mix_by (share_at ks p s t l j) (net_of ks p s t c (l - 1) (j - 1)) (net_of ks p s t c (l - 1) j)))
          (other : (i : ℕ) → (i ≡ j → ⊥) → i ≤ p → g' i ≡ g i) where
        at_j : g' j ≡ keep (net_of ks p s t c l j)
        at_j = here ∙ ap keep (sym (net-more l I.low j ∙ level_in l j (net_of ks p s t c (l - 1)) (I.inner h)))

        above-j : (i : ℕ) → j ≤ i → i ≤ p → g' i ≡ keep (net_of ks p s t c l i)
        above-j i q r = elim (eq-or-lt_of_le q) [
          | inl w ↦ subst (λ (a : ℕ). g' a ≡ keep (net_of ks p s t c l a)) w at_j
          | inr w ↦ other i (λ z. omega arith) r ∙ I.new i w r
        ]

        clear : or_else (refusal_from ks p s t l (j + 1 - l - 1) (j - 1)) (refusal_levels ks p s t (l + 1) (p - l)) ≡ refusal_levels ks p s t 1 p
        clear =
            subst (λ (x : Result (Unit {0}) Refusal). or_else (or_else x (refusal_from ks p s t l (j + 1 - l - 1) (j - 1))) (refusal_levels ks p s t (l + 1) (p - l)) ≡ refusal_levels ks p s t 1 p) e
            (first_of (share_at ks p s t l j) refl)

        -- the next place of the level
        pub walked-down : l < j → Walked ks p s t c keep g' l (j - 1)
        walked-down q =
            let a = I.top in
            let w : j - 1 + 1 - l ≡ j + 1 - l - 1 = omega arith in
            record {
              low = I.low;
              top = omega arith;
              inner = λ x. omega arith;
              refusal = subst (λ (k : ℕ). or_else (refusal_from ks p s t l k (j - 1)) (refusal_levels ks p s t (l + 1) (p - l)) ≡ refusal_levels ks p s t 1 p) (sym w) clear;
              old = λ i r. other i (λ z. omega arith) (omega arith) ∙ I.old i (omega arith);
              new = λ i r b. above-j i (omega arith) b;
            }

        -- the next level
        pub walked-up : (l < j → ⊥) → Walked ks p s t c keep g' (l + 1) p
        walked-up q =
            let a = I.inner h in
            let b : l ≡ j = elim (eq-or-lt_of_le a) [ inl r ↦ r | inr r ↦ absurd (q r) ] in
            let w = I.low in
            let v = I.top in
            let e : l + 1 - 1 ≡ l = omega arith in
            let u : p + 1 - (l + 1) ≡ p - l = omega arith in
            record {
              low = omega arith;
              top = omega arith;
              inner = λ x. x;
              refusal =
                  levels-from (l + 1) (omega arith) ∙ ap (refusal_levels ks p s t (l + 1)) u
                  ∙ subst (λ (k : Result (Unit {0}) Refusal). or_else k (refusal_levels ks p s t (l + 1) (p - l)) ≡ refusal_levels ks p s t 1 p) (from-none l (j + 1 - l - 1) (j - 1) (omega arith)) clear;
              old = λ i r. subst (λ (k : ℕ). g' i ≡ keep (net_of ks p s t c k i)) (sym e) (elim (yes_or_no (leb j i)) [
                | inl y ↦ above-j i (lib.Dec.leb→le j i y) r
                | inr y ↦
                    let n = lib.Dec.nleb→lt j i y in
                    other i (λ z. omega arith) r ∙ I.old i (omega arith) ∙ ap keep (sym (net-more l w i ∙ level_out l i (net_of ks p s t c (l - 1)) (omega arith)))
              ]);
              new = λ i r b. absurd (omega arith);
            }

-- ---- the levels start on the net that was filled

module _ (ks : List Float) (p s : ℕ) (t : Jet) (c d : ℕ → Control) (same : (m : ℕ) → m ≤ p → c m ≡ d m) where
  level-cong : (l : ℕ) (c d : ℕ → Control) (i : ℕ) → c (i - 1) ≡ d (i - 1) → c i ≡ d i → level_of ks p s t l c i ≡ level_of ks p s t l d i
  unfolding level_of
  level-cong l c d i e f = rw (e, f)

  net-cong : (l j : ℕ) → j ≤ p → net_of ks p s t c l j ≡ net_of ks p s t d l j
  unfolding net_of
  net-cong zero j h = same j h
  net-cong (suc l) j h = level-cong (suc l) (net_of ks p s t c l) (net_of ks p s t d l) j (net-cong l (j - 1) (omega arith)) (net-cong l j h)

  deboor-cong : deboor_of ks p s t c ≡ deboor_of ks p s t d
  unfolding deboor_of
  deboor-cong = ap (last_by (refusal_levels ks p s t 1 p)) (net-cong p p (omega arith))

pub held-is : (c : ℕ → Control) (ks : List Float) (p s : ℕ) (t : Jet) (net : List Control) (m : ℕ) → InFill (λ i. Ok (c i)) p net m → p < m → deboor_of ks p s t (λ i. get_or net i zero_control) ≡ deboor_of ks p s t c
held-is c ks p s t net m I h = deboor-cong ks p s t (λ i. get_or net i zero_control) c (λ i l. I.done zero_control i (omega arith))

pub held-filled : (f : ℕ → Result Control Refusal) (ks : List Float) (p s : ℕ) (t : Jet) (net : List Control) (m : ℕ) → InFill f p net m → p < m → deboor_of ks p s t (λ i. get_or net i zero_control) ≡ filled_of ks p s t f
held-filled f ks p s t net m I h = deboor-cong ks p s t (λ i. get_or net i zero_control) (λ i. net_control (f i)) (λ i l. I.done zero_control i (omega arith)) ∙ fill-filled f p ks s t net m I h
