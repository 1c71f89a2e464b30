-- Every segment of a raised curve is, over fractions, the segment of the extracted curve raised: its knots and its controls. And each parameter lies in a segment.
-- Assumes nothing.
use Prim.Native.Nat.{ℕ, suc, ◌+◌, ◌-◌, ◌*◌, ◌≤◌, ◌<◌}
use mathlib.Core.Bool.{Bool, true, false}
use mathlib.Core.Path.{◌≡◌, sym, ◌∙◌, ap, ap₂}
use mathlib.Core.Logic.{⊎_elim}
use mathlib.Core.List.{List, [], ◌∷◌}
use native.Mathlib.Omega.{arith}
use lib.ListN.{length, get_or}
use lib.Ieee.{Float}
use lib.Ieee.Scale.{finite}
use Rattle.exact.specs.Rational.{ℚ, ◌*q◌, ◌/q◌, q0, ◌≤q◌, ◌<q◌}
use Rattle.exact.specs.Bernstein.{Segment, raised_to, raised_point}
use Rattle.exact.proofs.Field.{le-or-lt}
use Rattle.exact.proofs.Bernstein.{raised_to-first, raised_to-last}
use Rattle.doubles.specs.Run.{val_at}
use Rattle.doubles.specs.Value.{val}
use Rattle.knots.specs.Knots.{ValidKnots}
use Rattle.edits.specs.Counts.{bit, multiplicity_of}
use Rattle.elevation.proofs.KnotWalks.{knots-step}
use Rattle.elevation.specs.Breaks.{is_full}
use Rattle.elevation.specs.Elevate.{break_knots}
use Rattle.elevation.specs.Joined.{joined_all}
use Rattle.elevation.proofs.Joints.{Twice, Joined}
use Rattle.elevation.proofs.Stands.{OnControls, controls-next, OnKnots, knots-last, knots-one, knots-next}
use Rattle.elevation.proofs.Full.{OnFull, full-place, full-next, full-one, full-last, full-inner}

-- ---- the control that two segments share
module _ (p e : ℕ) (up : p < e) (j : ℕ) where
  shared : (c : ℕ → ℚ) → c (suc (j * (p + 1) + p)) ≡ c (j * (p + 1) + p) → raised_to p (e - p) (λ k. c ((j + 1) * (p + 1) + k)) 0 ≡ raised_to p (e - p) (λ k. c (j * (p + 1) + k)) e
  shared c h =
      let x : (j + 1) * (p + 1) + 0 ≡ suc (j * (p + 1) + p) = omega arith in
      let y : p + (e - p) ≡ e = omega arith in
      raised_to-first p (e - p) (λ k. c ((j + 1) * (p + 1) + k)) ∙ ap c x ∙ h ∙ sym (ap (raised_to p (e - p) (λ k. c (j * (p + 1) + k))) (sym y) ∙ raised_to-last p (e - p) (λ k. c (j * (p + 1) + k)))

-- ---- the segments: w and P are the exact controls of the extracted curve, ks₁ its knots, ke the raised knots, and V' and Q the raised controls
module _ (p e : ℕ) (up : p < e) (g : Bool) (ks : List Float) (n : ℕ) (ks₁ : List Float) (v : ValidKnots p n ks₁) (hi : Float) (H : finite hi ≡ true) (full-high : multiplicity_of ks₁ hi ≡ p + 1)
    (ke : List Float) (count : ℕ) (w P : ℕ → ℚ) (all : List Float) where
  abbrev pub seg_w : ℕ → ℕ → ℚ
  seg_w j = raised_to p (e - p) (λ k. w (j * (p + 1) + k))

  abbrev pub seg_p : ℕ → ℕ → ℚ
  seg_p j = raised_point p (e - p) (λ k. w (j * (p + 1) + k)) (λ k. P (j * (p + 1) + k))

  abbrev pub W' : List ℚ
  W' = joined_all p e ks seg_w all

  abbrev pub P' : List ℚ
  P' = joined_all p e ks seg_p all

  pub record One (a z : Float) (st j : ℕ) : Type 0 where
    pub wide : Segment (val_at ke) (val a) (val z) e st
    pub thin : Segment (val_at ks₁) (val a) (val z) p (j * (p + 1))
    pub weights : (i : ℕ) → i ≤ e → get_or W' (st + i) q0 ≡ seg_w j i
    pub points : (i : ℕ) → i ≤ e → get_or P' (st + i) q0 ≡ seg_p j i
    pub last : st + e < count
    pub inner : j * (p + 1) + p < n

  abbrev pub AllOnes : Float → ℕ → ℕ → List Float → Type 0
  AllOnes a st j [] = One a hi st j
  AllOnes a st j (t ∷ bs) = One a t st j × AllOnes t (st + e + bit (is_full p ks t)) (j + 1) bs

  pub record At (a : Float) (st j : ℕ) (bs : List Float) : Type 0 where
    pub knots : OnKnots p e ks hi ke a st bs
    pub full : OnFull p n ks₁ v hi H full-high a j bs
    pub weights : OnControls p e ks seg_w q0 W' st j bs
    pub points : OnControls p e ks seg_p q0 P' st j bs
    pub joints : Joined p g ks bs ks₁ w P
    pub room : st + (e + 1) + length (break_knots p e ks bs) ≡ count

  pub ones : (a : Float) (st j : ℕ) (bs : List Float) → At a st j bs → AllOnes a st j bs
  unfolding break_knots raised_point
  ones a st j [] A = record {
    wide = knots-last p e ks hi ke a st A.knots;
    thin = full-last p n ks₁ v hi H full-high a j A.full;
    weights = A.weights.here;
    points = A.points.here;
    last = omega (arith, A.room);
    inner = full-inner p n ks₁ v hi H full-high a j [] A.full;
  }
  ones a st j (t ∷ bs) A = (
    record {
      wide = knots-one p e ks hi ke a st t bs A.knots;
      thin = full-one p n ks₁ v hi H full-high a j t bs A.full;
      weights = A.weights.here;
      points = A.points.here;
      last = omega (arith, A.room, knots-step p e ks t bs);
      inner = full-inner p n ks₁ v hi H full-high a j (t ∷ bs) A.full;
    },
    ones t (st + e + bit (is_full p ks t)) (j + 1) bs (record {
      knots = knots-next p e ks hi ke a st t bs A.knots;
      full = next;
      weights = controls-next p e ks seg_w q0 W' st j t bs A.weights share-weight;
      points = controls-next p e ks seg_p q0 P' st j t bs A.points share-point;
      joints = A.joints.1;
      room = omega (arith, A.room, knots-step p e ks t bs);
    }),
  )
    where
      next : OnFull p n ks₁ v hi H full-high t (j + 1) bs
      next = full-next p n ks₁ v hi H full-high a j t bs A.full

      twice : is_full p ks t ≡ false → Twice w P (j * (p + 1) + p)
      twice q = A.joints.0 q (j * (p + 1) + p) (omega (arith, full-place p n ks₁ v hi H full-high t (j + 1) bs next))

      share-weight : is_full p ks t ≡ false → seg_w (j + 1) 0 ≡ seg_w j e
      share-weight q = shared p e up j w (twice q).weight

      share-point : is_full p ks t ≡ false → seg_p (j + 1) 0 ≡ seg_p j e
      share-point q = ap₂ ◌/q◌ (shared p e up j (λ i. w i *q P i) (ap₂ ◌*q◌ (twice q).weight (twice q).point)) (shared p e up j w (twice q).weight)

  -- ---- the segment of a parameter
  module _ (t : ℚ) where
    pub record InOne : Type 0 where
      pub a : Float
      pub z : Float
      pub st : ℕ
      pub j : ℕ
      pub one : One a z st j
      pub from : val a ≤q t
      pub to : t <q val z

    pub record EndsOne : Type 0 where
      pub a : Float
      pub z : Float
      pub st : ℕ
      pub j : ℕ
      pub one : One a z st j
      pub from : val a <q t
      pub to : t ≤q val z

    pub find : (a : Float) (st j : ℕ) (bs : List Float) → AllOnes a st j bs → val a ≤q t → t <q val hi → InOne
    find a st j [] A x y = record { a = a; z = hi; st = st; j = j; one = A; from = x; to = y }
    find a st j (b ∷ bs) A x y = ⊎_elim
        (λ (h : val b ≤q t). find b (st + e + bit (is_full p ks b)) (j + 1) bs A.1 h y)
        (λ (h : t <q val b). record { a = a; z = b; st = st; j = j; one = A.0; from = x; to = h })
        (le-or-lt (val b) t)

    pub find-end : (a : Float) (st j : ℕ) (bs : List Float) → AllOnes a st j bs → val a <q t → t ≤q val hi → EndsOne
    find-end a st j [] A x y = record { a = a; z = hi; st = st; j = j; one = A; from = x; to = y }
    find-end a st j (b ∷ bs) A x y = ⊎_elim
        (λ (h : t ≤q val b). record { a = a; z = b; st = st; j = j; one = A.0; from = x; to = h })
        (λ (h : val b <q t). find-end b (st + e + bit (is_full p ks b)) (j + 1) bs A.1 h y)
        (le-or-lt t (val b))
