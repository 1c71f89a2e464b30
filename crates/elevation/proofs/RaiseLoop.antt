-- A segment is raised in place: what stands in the run after so many turns.
-- Assumes nothing.
use Prim.Native.Nat.{ℕ, zero, suc, ◌+◌, ◌-◌, ◌*◌, ◌≤◌, ◌<◌}
use mathlib.Core.Bool.{Bool, true, false, cond}
use mathlib.Core.Logic.{◌⊎◌, inl, inr, ⊎_elim}
use mathlib.Core.Path.{◌≡◌, refl, sym, ◌∙◌, ap, ap₂, subst}
use mathlib.Core.List.{List}
use native.Mathlib.Omega.{arith}
use borrow.Author.Count.{below_more}
use borrow.Author.Tests.{le-leb, lt-leb, ne_eqb, leb-true}
use lib.ListN.{length}
use lib.Dec.{leb, eqb}
use lib.Ieee.{Float}
use Rattle.runs.proofs.Cases.{lt-or-ge}
use Rattle.edits.specs.Control.{blend_of}
use Rattle.edits.specs.declared.control.Control.{Control}
use Rattle.elevation.specs.Raise.{raise_share, raise_once, raise_times}
use Rattle.elevation.specs.Passes.{control_in, RowsAre}
use Rattle.edits.specs.Passes.{row_put}
use Rattle.edits.proofs.RowStores.{row_put-done, row-put-long, rows_same}

-- ---- a control is stored
module _ (i : ℕ) (q : Control) (xs ys : List Float) (E : ys ≡ row_put true xs i q) where
  row-long : length ys ≡ length xs
  row-long = ap length E ∙ row-put-long true xs i q

  module _ (l : i * 4 + 3 < length xs) where
    row_here : control_in ys i ≡ q
    row_here = (row_put-done i q xs l true ys E).row

    row-else : (j : ℕ) → (j < i) ⊎ (i < j) → control_in ys j ≡ control_in xs j
    row-else j (inl b) = rows_same true ys xs j (λ c d. (row_put-done i q xs l true ys E).rest (j * 4 + c) (inl (omega arith)))
    row-else j (inr b) = rows_same true ys xs j (λ c d. (row_put-done i q xs l true ys E).rest (j * 4 + c) (inr (inl (omega arith))))

-- ---- one control
module _ (d : ℕ) (h : ℕ → Control) where
  pub raise-first : h 0 ≡ raise_once d h 0
  unfolding raise_once
  raise-first = refl

  pub raise-mid : (i : ℕ) → 0 < i → i ≤ d → (a b : Control) (s : Float) (r : Control) → a ≡ h i → b ≡ h (i - 1) → s ≡ raise_share d i → r ≡ blend_of a b s → r ≡ raise_once d h i
  unfolding raise_once
  raise-mid i l u a b s r A B S R =
      simp (ne_eqb i 0 (λ e. omega arith), le-leb i d u) (R ∙ (ap₂ (λ (x y : Control). blend_of x y s) A B ∙ ap (blend_of (h i) (h (i - 1))) S))

  pub raise-last : h d ≡ raise_once d h (d + 1)
  unfolding raise_once
  raise-last = simp (ne_eqb (d + 1) 0 (λ e. omega arith), lt-leb (d + 1) d (omega arith))

-- ---- equal controls are raised to equal ones
raise-cong : (d : ℕ) (f h : ℕ → Control) → ((i : ℕ) → i < d + 1 → f i ≡ h i) → (i : ℕ) → raise_once d f i ≡ raise_once d h i
unfolding raise_once
raise-cong d f h e i = go (eqb i 0) (leb i d) refl
  where
    go : (x y : Bool) → leb i d ≡ y
        → cond x (f 0) (cond y (blend_of (f i) (f (i - 1)) (raise_share d i)) (f d)) ≡ cond x (h 0) (cond y (blend_of (h i) (h (i - 1)) (raise_share d i)) (h d))
    go true y Y = e 0 (omega arith)
    go false true Y = let b = leb-true i d Y in ap₂ (λ (x y : Control). blend_of x y (raise_share d i)) (e i (omega arith)) (e (i - 1) (omega arith))
    go false false Y = e d (omega arith)

pub times-cong : (p m : ℕ) (f h : ℕ → Control) → ((i : ℕ) → i < p + 1 → f i ≡ h i) → (i : ℕ) → i < p + m + 1 → raise_times p m f i ≡ raise_times p m h i
unfolding raise_times
times-cong p zero f h e i l = e i (omega arith)
times-cong p (suc m) f h e i l = raise-cong (p + m) (raise_times p m f) (raise_times p m h) (times-cong p m f h e) i

-- ---- the loop over the places, downward: those above i are raised
pub record InRaise (d : ℕ) (r₀ r₁ : List Float) (i : ℕ) : Type 0 where
  pub upto : i ≤ d
  pub long : length r₁ ≡ length r₀
  pub above : (j : ℕ) → i < j → j ≤ d → control_in r₁ j ≡ raise_once d (control_in r₀) j
  pub below : (j : ℕ) → j ≤ i → control_in r₁ j ≡ control_in r₀ j

module _ (d : ℕ) (r₀ : List Float) (room : d * 4 + 7 < length r₀) where
  pub raise-start : InRaise d r₀ r₀ d
  raise-start = record { upto = omega arith; long = refl; above = λ j l u. absurd (omega arith); below = λ j l. refl }

  module _ (r₁ : List Float) (i : ℕ) (I : InRaise d r₀ r₁ i) where
    pub raise-more : 0 < i → (q : Control) → q ≡ raise_once d (control_in r₁) i → (r₂ : List Float) → r₂ ≡ row_put true r₁ i q → InRaise d r₀ r₂ (i - 1)
    unfolding raise_once
    raise-more l q Q r₂ E =
        let U = I.upto in
        let L = I.long in
        record {
          upto = omega arith;
          long = row-long i q r₁ r₂ E ∙ L;
          above = λ j a u. ⊎_elim
              (λ (b : i < j). row-else i q r₁ r₂ E (omega arith) j (inr b) ∙ I.above j b u)
              (λ (b : j ≤ i).
              let e : j ≡ i = omega arith in
              subst (λ (k : ℕ). control_in r₂ k ≡ raise_once d (control_in r₀) k) (sym e)
              (row_here i q r₁ r₂ E (omega arith) ∙ (Q ∙ same)))
              (lt-or-ge i j);
          below = λ j a. row-else i q r₁ r₂ E (omega arith) j (inl (omega arith)) ∙ I.below j (omega arith);
        }
      where
        same : raise_once d (control_in r₁) i ≡ raise_once d (control_in r₀) i
        same =
            let U = I.upto in
            simp (ne_eqb i 0 (λ e. omega arith), le-leb i d U) (ap₂ (λ (x y : Control). blend_of x y (raise_share d i)) (I.below i (omega arith)) (I.below (i - 1) (omega arith)))

    -- and the last is the old last
    pub raise-end : i ≤ 0 → (q : Control) → q ≡ control_in r₀ d → (r₂ : List Float) → r₂ ≡ row_put true r₁ (d + 1) q → RowsAre (raise_once d (control_in r₀)) (d + 2) (length r₀) r₂
    raise-end z q Q r₂ E =
        let L = I.long in
        record {
          long = row-long (d + 1) q r₁ r₂ E ∙ L;
          rows = λ j l. go j l (lt-or-ge i j) (lt-or-ge d j);
        }
      where
        go : (j : ℕ) → j < d + 2 → (i < j) ⊎ (j ≤ i) → (d < j) ⊎ (j ≤ d) → control_in r₂ j ≡ raise_once d (control_in r₀) j
        go j l b (inl c) =
            let L = I.long in
            let e : j ≡ d + 1 = omega arith in
            subst (λ (k : ℕ). control_in r₂ k ≡ raise_once d (control_in r₀) k) (sym e) (row_here (d + 1) q r₁ r₂ E (omega arith) ∙ (Q ∙ raise-last d (control_in r₀)))
        go j l (inl b) (inr c) = let L = I.long in row-else (d + 1) q r₁ r₂ E (omega arith) j (inl (omega arith)) ∙ I.above j b c
        go j l (inr b) (inr c) =
            let L = I.long in
            let e : j ≡ 0 = omega arith in
            row-else (d + 1) q r₁ r₂ E (omega arith) j (inl (omega arith))
            ∙ subst (λ (k : ℕ). control_in r₁ k ≡ raise_once d (control_in r₀) k) (sym e) (I.below 0 (omega arith) ∙ raise-first d (control_in r₀))

-- ---- the loop over the degrees
pub record InTimes (p e : ℕ) (r₀ r₁ : List Float) (d : ℕ) : Type 0 where
  pub from : p ≤ d
  pub upto : d ≤ e
  pub holds : RowsAre (raise_times p (d - p) (control_in r₀)) (d + 1) (length r₀) r₁

module _ (p e : ℕ) (r₀ : List Float) where
  pub times-start : p ≤ e → InTimes p e r₀ r₀ p
  unfolding raise_times
  times-start l = record {
    from = omega arith;
    upto = l;
    holds = let z : 0 ≡ p - p = omega arith in subst (λ (m : ℕ). RowsAre (raise_times p m (control_in r₀)) (p + 1) (length r₀) r₀) z none;
  }
    where
      none : RowsAre (raise_times p 0 (control_in r₀)) (p + 1) (length r₀) r₀
      none = record { long = refl; rows = λ i b. refl }

  module _ (r₁ : List Float) (d : ℕ) (I : InTimes p e r₀ r₁ d) where
    pub times_more : d < e → (r₂ : List Float) → RowsAre (raise_once d (control_in r₁)) (d + 2) (length r₁) r₂ → InTimes p e r₀ r₂ (d + 1)
    unfolding raise_times
    times_more l r₂ H =
        let F = I.from in
        let z : suc (d - p) ≡ d + 1 - p = omega arith in
        record {
          from = omega arith;
          upto = omega arith;
          holds = subst (λ (m : ℕ). RowsAre (raise_times p m (control_in r₀)) (d + 1 + 1) (length r₀) r₂) z next;
        }
      where
        next : RowsAre (raise_times p (suc (d - p)) (control_in r₀)) (d + 1 + 1) (length r₀) r₂
        next =
            let F = I.from in
            let z : d ≡ p + (d - p) = omega arith in
            record {
              long = H.long ∙ I.holds.long;
              rows = λ i b. H.rows i (omega arith) ∙ (raise-cong d (control_in r₁) (raise_times p (d - p) (control_in r₀)) I.holds.rows i
                  ∙ ap (λ (k : ℕ). raise_once k (raise_times p (d - p) (control_in r₀)) i) z);
            }

-- ---- controls stored one by one
module _ (h : ℕ → Control) (l : ℕ) where
  pub hold-more : (r₁ : List Float) (i : ℕ) → RowsAre h i l r₁ → i * 4 + 3 < l → (q : Control) → q ≡ h i → (r₂ : List Float) → r₂ ≡ row_put true r₁ i q → RowsAre h (i + 1) l r₂
  hold-more r₁ i I b q Q r₂ E =
      let L = I.long in
      record {
        long = row-long i q r₁ r₂ E ∙ L;
        rows = below_more (λ j. control_in r₂ j ≡ h j) i
            (λ j k. row-else i q r₁ r₂ E (omega arith) j (inl k) ∙ I.rows j k) (row_here i q r₁ r₂ E (omega arith) ∙ Q);
      }
