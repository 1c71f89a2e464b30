-- The raised segments are written one after the other, break by break.
-- Assumes nothing.
use Prim.Native.Nat.{ℕ, suc, ◌+◌, ◌-◌, ◌*◌, ◌≤◌, ◌<◌}
use mathlib.Core.Bool.{Bool, true, false, not}
use mathlib.Core.Path.{◌≡◌, refl, sym, ◌∙◌, ap, ap₂, subst}
use mathlib.Core.List.{List, [], ◌∷◌, ◌++◌}
use native.Mathlib.Omega.{arith}
use native.Mathlib.Nat.{mul-le-mul_left}
use lib.ListN.{length, length-append}
use lib.Ieee.{Float}
use Rattle.runs.specs.declared.vector.Vector.{Vector}
use Rattle.edits.specs.Counts.{bit}
use Rattle.edits.specs.Rows.{given}
use Rattle.edits.specs.Passes.{row_of}
use Rattle.edits.specs.declared.control.Control.{Control}
use Rattle.elevation.specs.Breaks.{breaks_of, is_full, full_count}
use Rattle.elevation.specs.Raise.{raise_times}
use Rattle.elevation.specs.Elevate.{extracted_count, raised_count, controls_of, segment_of, added_by, kept_from, kept_all}
use Rattle.elevation.specs.Passes.{control_in, RowsAre, Put}
use Rattle.elevation.proofs.RaiseLoop.{times-cong}
use Rattle.elevation.proofs.Putting.{Putting, putting-start, putting-stop, putting-run, putting-end, given-within, controls-long, controls-cong}

-- ---- how many controls
pub skip-sum : (b : Bool) (e : ℕ) → bit (not b) + (e + bit b) ≡ e + 1
skip-sum true e = omega arith
skip-sum false e = omega arith

module _ (p e : ℕ) (ks : List Float) (h : ℕ → Control) where
  added-long : (j : ℕ) (b : Bool) → length (added_by p e h j b) ≡ e + bit b
  unfolding added_by
  added-long j b = controls-long (segment_of p e h j) (bit (not b)) (e + bit b)

  from-long : (j : ℕ) (ts : List Float) → length (kept_from p e ks h j ts) ≡ length ts * e + full_count p ks ts
  unfolding kept_from full_count
  from-long j [] = omega arith
  from-long j (t ∷ ts) =
      length-append (added_by p e h j (is_full p ks t)) (kept_from p e ks h (j + 1) ts)
      ∙ sum (length ts) (added-long j (is_full p ks t)) (from-long (j + 1) ts)
    where
      sum : (b : ℕ) → length (added_by p e h j (is_full p ks t)) ≡ e + bit (is_full p ks t) → length (kept_from p e ks h (j + 1) ts) ≡ b * e + full_count p ks ts
          → length (added_by p e h j (is_full p ks t)) + length (kept_from p e ks h (j + 1) ts) ≡ suc b * e + (bit (is_full p ks t) + full_count p ks ts)
      sum b x y = omega arith

  none_kept : (j : ℕ) → kept_from p e ks h j [] ≡ []
  unfolding kept_from
  none_kept j = refl

  rest-count : (bs : List Float) → e + 1 + length (kept_from p e ks h 1 bs) ≡ raised_count p e ks bs
  unfolding raised_count
  rest-count bs = go (length bs) (from-long 1 bs)
    where
      go : (b : ℕ) → length (kept_from p e ks h 1 bs) ≡ b * e + full_count p ks bs → e + 1 + length (kept_from p e ks h 1 bs) ≡ (e + 1) * (b + 1) - b + full_count p ks bs
      go b x = omega arith

  pub kept-count : (bs : List Float) → length (kept_all p e ks h bs) ≡ raised_count p e ks bs
  unfolding kept_all
  kept-count bs = length-append (added_by p e h 0 true) (kept_from p e ks h 1 bs) ∙ (ap (λ (x : ℕ). x + length (kept_from p e ks h 1 bs)) (added-long 0 true) ∙ rest-count bs)

-- room for the first segment
pub first-room : (p e : ℕ) (ks bs : List Float) (g : Bool) → (p + 1 ≤ extracted_count p bs) × (e + 1 ≤ raised_count p e ks bs) × (given g (0 + (e + 1)) ≤ given g (raised_count p e ks bs))
unfolding extracted_count
first-room p e ks bs g =
    let l : 1 ≤ length bs + 1 = omega arith in
    let a = mul-le-mul_left (p + 1) l in
    let b : e + 1 ≤ raised_count p e ks bs = omega (arith, rest-count p e ks (control_in ks) bs) in
    (omega arith, b, given-within g 0 (e + 1) (raised_count p e ks bs) (omega arith))

-- ---- one segment, worked in a run of its own
module _ (p e f : ℕ) (l : p ≤ e) (b : Bool) (o : Vector) (g : Bool) (xs r₁ r₂ : List Float) (n m : ℕ)
    (L : RowsAre (λ i. row_of g xs (f + i)) (p + 1) n r₁) (R : RowsAre (raise_times p (e - p) (control_in r₁)) (e + 1) m r₂) where
  abbrev aim : ℕ → Control
  aim = raise_times p (e - p) (λ i. row_of g xs (f + i))

  raised_is : (i : ℕ) → i < e + 1 → control_in r₂ i ≡ aim i
  raised_is i u = R.rows i u ∙ times-cong p (e - p) (control_in r₁) (λ i. row_of g xs (f + i)) L.rows i (omega arith)

  pub segment-put : (s c i : ℕ) → s ≡ bit (not b) → c ≡ e + bit b → (p₀ w₀ p₁ w₁ : List Float) (r : Bool)
      → Put o g (controls_of (control_in r₂) s c) i p₀ w₀ p₁ w₁ r → Put o g (controls_of aim (bit (not b)) (e + bit b)) i p₀ w₀ p₁ w₁ r
  segment-put s c i S C p₀ w₀ p₁ w₁ r P =
      let k = skip-sum b e in
      subst (λ (x : List Control). Put o g x i p₀ w₀ p₁ w₁ r)
      (controls-cong (control_in r₂) aim s c (λ j u. raised_is j (omega arith)) ∙ ap₂ (controls_of aim) S C) P

-- ---- the loop over the breaks: the segment whose controls stand from control f on comes next, at place i
module _ (p e n : ℕ) (ks xs : List Float) (o : Vector) (g : Bool) (p₀ w₀ : List Float) where
  abbrev BS : List Float
  BS = breaks_of p n ks

  abbrev whole : List Control
  whole = kept_all p e ks (row_of g xs) BS

  pub record InRest (p₁ w₁ ts : List Float) (f i : ℕ) : Type 0 where
    pub turn : ℕ
    pub first : f ≡ turn * (p + 1)
    pub count : turn + length ts ≡ length BS + 1
    pub going : Putting o g whole 0 p₀ w₀ (kept_from p e ks (row_of g xs) turn ts) i p₁ w₁

  module _ (l : p ≤ e) (X : extracted_count p BS * 4 ≤ length xs) (P : raised_count p e ks BS * 3 ≤ length p₀) (W : given g (raised_count p e ks BS) ≤ length w₀) where
    long : raised_count p e ks BS ≡ 0 + length whole
    long = omega (arith, kept-count p e ks (row_of g xs) BS)

    points-room : (0 + length whole) * 3 ≤ length p₀
    points-room = subst (λ (x : ℕ). x * 3 ≤ length p₀) long P

    weights-room : given g (0 + length whole) ≤ length w₀
    weights-room = subst (λ (x : ℕ). given g x ≤ length w₀) long W

    -- the first segment
    abbrev first : List Control
    first = controls_of (raise_times p (e - p) (λ m. row_of g xs (0 + m))) 0 (e + 1)

    module _ (p₁ w₁ : List Float) (r : Bool) (A : Put o g first 0 p₀ w₀ p₁ w₁ r) where
      first-is : Put o g (added_by p e (row_of g xs) 0 true) 0 p₀ w₀ p₁ w₁ r
      unfolding added_by segment_of
      first-is =
          subst (λ (x : List Control). Put o g x 0 p₀ w₀ p₁ w₁ r)
          (controls-cong _ _ 0 (e + 1) (λ i u. times-cong p (e - p) (λ m. row_of g xs (0 + m)) (λ m. row_of g xs (0 * (p + 1) + m)) (λ m b. ap (row_of g xs) (omega arith)) i (omega arith))) A

      start : Putting o g whole 0 p₀ w₀ (added_by p e (row_of g xs) 0 true ++ kept_from p e ks (row_of g xs) 1 BS) 0 p₀ w₀
      unfolding kept_all
      start = putting-start o g whole 0 p₀ w₀

      pub first-stop : r ≡ false → Put o g whole 0 p₀ w₀ p₁ w₁ false
      first-stop z = putting-stop o g whole 0 p₀ w₀ (added_by p e (row_of g xs) 0 true) (kept_from p e ks (row_of g xs) 1 BS) 0 p₀ w₀ start p₁ w₁ r first-is z

      pub rest-start : r ≡ true → (ts : List Float) → ts ≡ BS → InRest p₁ w₁ ts (p + 1) (e + 1)
      rest-start z ts E =
          let d = added-long p e ks (row_of g xs) 0 true in
          let q : 0 + length (added_by p e (row_of g xs) 0 true) ≡ e + 1 = omega arith in
          subst (λ (x : List Float). InRest p₁ w₁ x (p + 1) (e + 1)) (sym E)
          (record {
            turn = 1;
            first = omega arith;
            count = omega arith;
            going = subst (λ (x : ℕ). Putting o g whole 0 p₀ w₀ (kept_from p e ks (row_of g xs) 1 BS) x p₁ w₁) q
                (putting-run o g whole 0 p₀ w₀ (added_by p e (row_of g xs) 0 true) (kept_from p e ks (row_of g xs) 1 BS) 0 p₀ w₀ start p₁ w₁ points-room weights-room r first-is z);
          })

    module _ (p₁ w₁ ts : List Float) (f i : ℕ) (I : InRest p₁ w₁ ts f i) where
      module _ (t : Float) (tail : List Float) (T : ts ≡ t ∷ tail) (b : Bool) (F : b ≡ is_full p ks t) where
        abbrev added : List Control
        added = added_by p e (row_of g xs) I.turn b

        count-here : I.turn + suc (length tail) ≡ length BS + 1
        count-here = ap (λ (x : List Float). I.turn + length x) (sym T) ∙ I.count

        here : Putting o g whole 0 p₀ w₀ (added ++ kept_from p e ks (row_of g xs) (I.turn + 1) tail) i p₁ w₁
        unfolding kept_from
        here =
            subst (λ (x : Bool). Putting o g whole 0 p₀ w₀ (added_by p e (row_of g xs) I.turn x ++ kept_from p e ks (row_of g xs) (I.turn + 1) tail) i p₁ w₁) (sym F)
            (subst (λ (x : List Float). Putting o g whole 0 p₀ w₀ (kept_from p e ks (row_of g xs) I.turn x) i p₁ w₁) T I.going)

        places : i + (e + bit b) ≤ raised_count p e ks BS
        places =
            let c = here.count in
            let a = length-append added (kept_from p e ks (row_of g xs) (I.turn + 1) tail) in
            let d = added-long p e ks (row_of g xs) I.turn b in
            let s = long in
            omega arith

        -- there is room for the segment
        pub rest-room : ((f + (p + 1)) * 4 ≤ length xs) × ((i + (e + bit b)) * 3 ≤ length p₁) × (given g (i + (e + bit b)) ≤ length w₁)
        unfolding extracted_count
        rest-room =
            let c = count-here in
            let s : I.turn + 1 ≤ length BS + 1 = omega arith in
            let m = mul-le-mul_left (p + 1) s in
            let h = I.first in
            let a = places in
            let v = given-within g i (e + bit b) (raised_count p e ks BS) places in
            let x = I.going.long-points in
            let y = I.going.long-weights in (
              omega arith,
              omega arith,
              omega arith,
            )

        module _ (p₂ w₂ : List Float) (r : Bool) (D : Put o g (controls_of (raise_times p (e - p) (λ m. row_of g xs (f + m))) (bit (not b)) (e + bit b)) i p₁ w₁ p₂ w₂ r) where
          segment : Put o g added i p₁ w₁ p₂ w₂ r
          unfolding added_by segment_of
          segment = subst (λ (x : ℕ). Put o g (controls_of (raise_times p (e - p) (λ m. row_of g xs (x + m))) (bit (not b)) (e + bit b)) i p₁ w₁ p₂ w₂ r) I.first D

          pub rest-stop : r ≡ false → Put o g whole 0 p₀ w₀ p₂ w₂ false
          rest-stop z = putting-stop o g whole 0 p₀ w₀ added (kept_from p e ks (row_of g xs) (I.turn + 1) tail) i p₁ w₁ here p₂ w₂ r segment z

          pub rest-more : r ≡ true → (i' : ℕ) → i' ≡ i + (e + bit b) → InRest p₂ w₂ tail (f + (p + 1)) i'
          rest-more z i' E =
              let c = count-here in
              let h = I.first in
              let d = added-long p e ks (row_of g xs) I.turn b in
              let q : i + length added ≡ i' = omega arith in
              record {
                turn = I.turn + 1;
                first = omega arith;
                count = omega arith;
                going = subst (λ (x : ℕ). Putting o g whole 0 p₀ w₀ (kept_from p e ks (row_of g xs) (I.turn + 1) tail) x p₂ w₂) q
                    (putting-run o g whole 0 p₀ w₀ added (kept_from p e ks (row_of g xs) (I.turn + 1) tail) i p₁ w₁ here p₂ w₂ points-room weights-room r segment z);
              }

      pub rest-end : ts ≡ [] → Put o g whole 0 p₀ w₀ p₁ w₁ true
      rest-end E =
          putting-end o g whole 0 p₀ w₀ (kept_from p e ks (row_of g xs) I.turn ts) i p₁ w₁ I.going
          (ap (kept_from p e ks (row_of g xs) I.turn) E ∙ none_kept p e ks (row_of g xs) I.turn)
