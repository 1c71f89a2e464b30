-- Over fractions, the control at a break that was not full stands twice once it is: so the segments on both sides of it share a control.
-- Assumes nothing.
use Prim.Native.Nat.{ℕ, zero, suc, ◌+◌, ◌-◌, ◌≤◌, ◌<◌}
use mathlib.Core.Bool.{Bool, true, false, not, cond}
use mathlib.Core.Path.{◌≡◌, refl, sym, ◌∙◌, ap, ap₂, subst}
use mathlib.Core.Logic.{⊎_elim}
use mathlib.Core.List.{List, [], ◌∷◌, ◌++◌}
use native.Mathlib.Omega.{arith}
use borrow.Author.Tests.{ltb-false}
use lib.ListN.{length, replicate}
use lib.Ieee.{Float, lt, eq}
use Rattle.exact.specs.Rational.{ℚ, ◌*q◌, ◌/q◌}
use Rattle.exact.specs.Boehm.{inserted, inserted_point, inserted_all, inserted_point_all}
use Rattle.exact.proofs.Shares.{ins-low, ins-break}
use Rattle.doubles.specs.Run.{at, val_at}
use Rattle.doubles.specs.Value.{val}
use Rattle.doubles.proofs.TestedOrder.{lt_irrefl, lt-asym, lt_trans, ge_trans, lt-ge-trans, le-gives}
use Rattle.knots.specs.Knots.{ValidKnots}
use Rattle.knots.specs.Span.{span_of}
use Rattle.knots.proofs.Valid.{sorted}
use Rattle.runs.proofs.Tabulated.{at-tabulate}
use Rattle.runs.proofs.Cases.{lt-or-ge}
use Rattle.edits.specs.Counts.{bit, multiplicity_of, below_of}
use Rattle.insertion.specs.Insert.{knot_at, more_knots, inserted_knots, inserted_points, inserted_weights, insert_refusal}
use Rattle.insertion.specs.Fold.{insert_all}
use Rattle.edits.specs.Outcome.{gives, refuses}
use Rattle.insertion.specs.Placed.{placed, Each}
use Rattle.insertion.proofs.Storing.{knot-low, knot-here}
use Rattle.insertion.proofs.Grown.{count-run}
use Rattle.insertion.proofs.KnotCounts.{not-both, count-within, count-early, lt-not-eq, level-eq, eq-level, eq_self, below_rest, below-not}
use Rattle.insertion.proofs.EqualKnots.{equal-value}
use Rattle.insertion.proofs.Folds.{inserted-valid}
use Rattle.insertion.proofs.ListResult.{count_in, each_append, each-replicate, each_map, by_number, others, one-counts, made, made-below}
use Rattle.insertion.proofs.Domain.{Spot, spot}
use Rattle.insertion.proofs.ExactList.{spot-values}
use Rattle.elevation.specs.Breaks.{is_full, missing_all}
use Rattle.elevation.proofs.Breaks.{Rising, each-zip}
use Rattle.elevation.proofs.Missing.{missing-each, count-none-in}

-- two neighbours are the same control
pub record Twice (w P : ℕ → ℚ) (r : ℕ) : Type 0 where
  pub weight : w (suc r) ≡ w r
  pub point : P (suc r) ≡ P r

-- the exact weights and one coordinate of the points after a list
abbrev pub after_w : ℕ → ℕ → List Float → List Float → (ℕ → ℚ) → ℕ → ℚ
after_w p n ks ts w = inserted_all (val_at ks) p (placed p n ks ts) w

abbrev pub after_p : ℕ → ℕ → List Float → List Float → (ℕ → ℚ) → (ℕ → ℚ) → ℕ → ℚ
after_p p n ks ts w P = inserted_point_all (val_at ks) p (placed p n ks ts) w P

-- ---- one knot t that is not refused, which goes to place k
module _ (p n : ℕ) (ks ps : List Float) (g : Bool) (ws : List Float) (t : Float) (v : ValidKnots p n ks) (z : (insert_refusal p n ks ps g ws t).number ≡ 0) where
  abbrev k : ℕ
  k = span_of p n ks t

  abbrev K : List Float
  K = more_knots k t ks

  S : Spot p n ks t
  S = spot p n ks ps g ws t v z

  inner : k < n
  inner = S.span.below

  under : lt t (at ks k) ≡ false
  under = let L = v.long in le-gives (at ks k) t (v.finites k (omega (arith, inner))) S.number (S.span.inside S.high).0

  over : lt t (at ks (k + 1)) ≡ true
  over = (S.span.inside S.high).1

  -- the knots up to it stay
  kept : (j : ℕ) → j ≤ k → at K j ≡ at ks j
  unfolding more_knots
  kept j h = let L = v.long in at-tabulate (length ks + 1) (knot_at k t ks) j (omega (arith, inner)) ∙ sym (knot-low k t ks j h)

  here : at K (k + 1) ≡ t
  unfolding more_knots
  here = let L = v.long in at-tabulate (length ks + 1) (knot_at k t ks) (k + 1) (omega (arith, inner)) ∙ sym (knot-here k t ks)

  -- it is behind every knot below it
  past : (j : ℕ) → j < length ks → lt (at ks j) t ≡ true → j ≤ k
  past j l h = ⊎_elim (λ (b : k < j). let L = v.long in absurd (not-both (lt (at ks j) (at ks (k + 1))) (lt_trans (at ks j) t (at ks (k + 1)) h over) (sorted p n ks v (k + 1) j (omega arith) l)))
      (λ (b : j ≤ k). b) (lt-or-ge k j)

  -- the last of the knots that equal it
  last : k + 1 ≡ below_of ks t + multiplicity_of ks t
  unfolding below_of multiplicity_of
  last =
      let L = v.long in
      let a = inner in
      let up = count-within (λ i. lt (at ks i) t) (λ i. eq (at ks i) t) (λ i. not (lt t (at ks i))) (length ks) (λ i l e. lt-not-eq (at ks i) t e) (λ i l e. ap not (lt-asym (at ks i) t e))
      (λ i l e. ap not (eq-level (at ks i) t (v.finites i l) S.number e).1) in
      let most = count-early (λ i. not (lt t (at ks i))) (k + 1) (length ks) (λ i x y. ap not (lt-ge-trans t (at ks (k + 1)) (at ks i) (v.finites i y) over (sorted p n ks v (k + 1) i x y))) in
      let low : below_of ks t ≤ k + 1 = below-not p n ks v t (k + 1) (omega arith) (lt-asym t (at ks (k + 1)) over) in
      let run = count-run (λ i. eq (at ks i) t) (below_of ks t) (k + 1 - below_of ks t) (length ks) (omega arith)
      (λ i x y. level-eq (at ks i) t (v.finites i (omega arith)) S.number (below_rest p n ks v t i (omega arith) x)
      (ge_trans t (at ks k) (at ks i) (v.finites k (omega arith)) under (sorted p n ks v i k (omega arith) (omega arith)))) in
      omega arith

  -- it is not below itself, and equals itself
  below-same : below_of K t ≡ below_of ks t
  unfolding below_of inserted_knots
  below-same = one-counts p n ks ps g ws t v z (λ x. lt x t) ∙ rw (lt_irrefl t) (omega arith)

  times_more : multiplicity_of K t ≡ multiplicity_of ks t + 1
  unfolding multiplicity_of inserted_knots
  times_more = one-counts p n ks ps g ws t v z (λ x. eq x t) ∙ rw (eq_self t S.number) refl

  -- the exact controls with it more
  abbrev next_w : (ℕ → ℚ) → ℕ → ℚ
  next_w w = inserted (val_at ks) (val t) k p w

  abbrev next_p : (ℕ → ℚ) → (ℕ → ℚ) → ℕ → ℚ
  next_p w P = inserted_point (val_at ks) (val t) k p w P

  module _ (w P : ℕ → ℚ) (r : ℕ) where
    -- then the rest of a list
    twice-more : (ts : List Float) → Twice (after_w p (n + 1) K ts (next_w w)) (after_p p (n + 1) K ts (next_w w) (next_p w P)) r → Twice (after_w p n ks (t ∷ ts) w) (after_p p n ks (t ∷ ts) w P) r
    unfolding placed inserted_all inserted_point_all
    twice-more ts h =
        let l = placed p (n + 1) K ts in
        subst (λ (W : ℕ → ℚ). Twice (inserted_all W p l (next_w w)) (inserted_point_all W p l (next_w w) (next_p w P)) r) (spot-values p n ks ps g ws t v z) h

    same-controls : ((c : ℕ → ℚ) → c (suc r) ≡ c r → next_w c (suc r) ≡ next_w c r) → Twice w P r → Twice (next_w w) (next_p w P) r
    unfolding inserted_point
    same-controls h T = record { weight = h w T.weight; point = ap₂ ◌/q◌ (h (λ j. w j *q P j) (ap₂ ◌*q◌ T.weight T.point)) (h w T.weight) }

    -- far enough before it they stay
    twice-low : suc r + p ≤ k → Twice w P r → Twice (next_w w) (next_p w P) r
    twice-low h = same-controls (λ c e. ins-low (val_at ks) (val t) k p c (suc r) h ∙ e ∙ sym (ins-low (val_at ks) (val t) k p c r (omega arith)))

    -- where it stands p times, the control before its first place is the one there
    twice-full : suc r ≡ below_of ks t → multiplicity_of ks t ≡ p → Twice (next_w w) (next_p w P) r
    unfolding inserted_point
    twice-full e m = record { weight = at-break w; point = ap₂ ◌/q◌ (at-break (λ j. w j *q P j)) (at-break w) }
      where
        at-break : (c : ℕ → ℚ) → next_w c (suc r) ≡ next_w c r
        at-break c = ins-break (val_at ks) (val t) k p c r (omega (arith, last)) (λ i a b. equal-value p n ks v t S.number i (omega arith) (omega (arith, last)))

-- ---- they stay where every knot that follows is above the knot p places on
keep : (p : ℕ) (g : Bool) (n : ℕ) (ks ps ws us ks' ps' ws' : List Float) → ValidKnots p n ks → insert_all p g n ks ps ws us ≡ gives ks' ps' ws' → (w P : ℕ → ℚ) (r : ℕ)
    → suc r + p < length ks → Each (λ x. lt (at ks (suc r + p)) x ≡ true) us → Twice w P r → Twice (after_w p n ks us w) (after_p p n ks us w P) r
unfolding insert_all placed inserted_all inserted_point_all inserted_knots
keep p g n ks ps ws [] ks' ps' ws' v e w P r l h T = T
keep p g n ks ps ws (x ∷ us) ks' ps' ws' v e w P r l h T =
    let R = insert_refusal p n ks ps g ws x in
    by_number R.number (λ b. cond b (others p g n ks ps ws x us) (refuses R) ≡ gives ks' ps' ws' → Twice (after_w p n ks (x ∷ us) w) (after_p p n ks (x ∷ us) w P) r)
    (λ z f.
    let N = inserted-valid p n ks ps g ws x z in
    let a = past p n ks ps g ws x v z (suc r + p) l h.0 in
    let L = N.long in
    let L₀ = v.long in
    twice-more p n ks ps g ws x v z w P r us
    (keep p g (n + 1) (inserted_knots p n ks ps g ws x) (inserted_points p n ks ps g ws x) (inserted_weights p n ks ps g ws x) us ks' ps' ws' N f
    (next_w p n ks ps g ws x v z w) (next_p p n ks ps g ws x v z w P) r (omega arith)
    (subst (λ (y : Float). Each (λ u. lt y u ≡ true) us) (sym (kept p n ks ps g ws x v z (suc r + p) a)) h.1)
    (twice-low p n ks ps g ws x v z w P r a T)))
    (λ z f. let q : ◌≡◌ {A = ℕ} 0 1 = cc in absurd (omega arith)) e

-- ---- t is inserted until it is full, and then greater knots us
joint : (p : ℕ) (g : Bool) (n : ℕ) (ks ps ws : List Float) (m : ℕ) (t : Float) (us ks' ps' ws' : List Float) → ValidKnots p n ks
    → insert_all p g n ks ps ws (replicate (suc m) t ++ us) ≡ gives ks' ps' ws'
    → multiplicity_of ks t + m ≡ p → Each (λ x. lt t x ≡ true) us → (w P : ℕ → ℚ) (r : ℕ) → suc r ≡ below_of ks t
    → Twice (after_w p n ks (replicate (suc m) t ++ us) w) (after_p p n ks (replicate (suc m) t ++ us) w P) r
unfolding insert_all inserted_knots
joint p g n ks ps ws zero t us ks' ps' ws' v e q h w P r b =
    let R = insert_refusal p n ks ps g ws t in
    by_number R.number (λ y. cond y (others p g n ks ps ws t us) (refuses R) ≡ gives ks' ps' ws' → Twice (after_w p n ks (t ∷ us) w) (after_p p n ks (t ∷ us) w P) r)
    (λ z f.
    let N = inserted-valid p n ks ps g ws t z in
    let L = N.long in
    let L₀ = v.long in
    let i = inner p n ks ps g ws t v z in
    let a : span_of p n ks t + 1 ≡ suc r + p = omega (arith, last p n ks ps g ws t v z) in
    twice-more p n ks ps g ws t v z w P r us
    (keep p g (n + 1) (inserted_knots p n ks ps g ws t) (inserted_points p n ks ps g ws t) (inserted_weights p n ks ps g ws t) us ks' ps' ws' N f
    (next_w p n ks ps g ws t v z w) (next_p p n ks ps g ws t v z w P) r (omega arith)
    (subst (λ (y : Float). Each (λ u. lt y u ≡ true) us) (sym (ap (at (more_knots (span_of p n ks t) t ks)) (sym a) ∙ here p n ks ps g ws t v z)) h)
    (twice-full p n ks ps g ws t v z w P r b (omega arith))))
    (λ z f. let q : ◌≡◌ {A = ℕ} 0 1 = cc in absurd (omega arith)) e
joint p g n ks ps ws (suc m) t us ks' ps' ws' v e q h w P r b =
    let R = insert_refusal p n ks ps g ws t in
    let ts = replicate (suc m) t ++ us in
    by_number R.number (λ y. cond y (others p g n ks ps ws t ts) (refuses R) ≡ gives ks' ps' ws' → Twice (after_w p n ks (t ∷ ts) w) (after_p p n ks (t ∷ ts) w P) r)
    (λ z f.
    twice-more p n ks ps g ws t v z w P r ts
    (joint p g (n + 1) (inserted_knots p n ks ps g ws t) (inserted_points p n ks ps g ws t) (inserted_weights p n ks ps g ws t) m t us ks' ps' ws' (inserted-valid p n ks ps g ws t z) f
    (omega (arith, times_more p n ks ps g ws t v z)) h (next_w p n ks ps g ws t v z w) (next_p p n ks ps g ws t v z w P) r (omega (arith, below-same p n ks ps g ws t v z))))
    (λ z f. let q : ◌≡◌ {A = ℕ} 0 1 = cc in absurd (omega arith)) e

-- ---- every break that was not full, of a list bs whose breaks are made full one after the other; ks₀ is the curve's first knots
module _ (p : ℕ) (g : Bool) (ks₀ : List Float) where
  abbrev pub Joined : List Float → List Float → (ℕ → ℚ) → (ℕ → ℚ) → Type 0
  Joined bs ks' w P = Each (λ u. is_full p ks₀ u ≡ false → (r : ℕ) → suc r ≡ below_of ks' u → Twice w P r) bs

  abbrev Run : List Float → List Float → Type 0
  Run us bs = (n : ℕ) (ks ps ws ks' ps' ws' : List Float) → ValidKnots p n ks → Each (λ u. multiplicity_of ks u ≡ multiplicity_of ks₀ u) bs
      → insert_all p g n ks ps ws us ≡ gives ks' ps' ws' → (w P : ℕ → ℚ) → Joined bs ks' (after_w p n ks us w) (after_p p n ks us w P)

  through : (t : Float) (us bs : List Float) → Each (λ u. lt t u ≡ true) bs → Run us bs → (m : ℕ) → Run (replicate m t ++ us) bs
  unfolding insert_all inserted_knots multiplicity_of
  through t us bs h H zero n ks ps ws ks' ps' ws' v E e w P = H n ks ps ws ks' ps' ws' v E e w P
  through t us bs h H (suc m) n ks ps ws ks' ps' ws' v E e w P =
      let R = insert_refusal p n ks ps g ws t in
      let ts = replicate m t ++ us in
      by_number R.number (λ y. cond y (others p g n ks ps ws t ts) (refuses R) ≡ gives ks' ps' ws' → Joined bs ks' (after_w p n ks (t ∷ ts) w) (after_p p n ks (t ∷ ts) w P))
      (λ z f.
      let K = inserted_knots p n ks ps g ws t in
      each_map (λ u. is_full p ks₀ u ≡ false → (r : ℕ) → suc r ≡ below_of ks' u
      → Twice (after_w p (n + 1) K ts (next_w p n ks ps g ws t v z w)) (after_p p (n + 1) K ts (next_w p n ks ps g ws t v z w) (next_p p n ks ps g ws t v z w P)) r)
      (λ u. is_full p ks₀ u ≡ false → (r : ℕ) → suc r ≡ below_of ks' u → Twice (after_w p n ks (t ∷ ts) w) (after_p p n ks (t ∷ ts) w P) r)
      (λ u x y r b. twice-more p n ks ps g ws t v z w P r ts (x y r b)) bs
      (through t us bs h H m (n + 1) K (inserted_points p n ks ps g ws t) (inserted_weights p n ks ps g ws t) ks' ps' ws' (inserted-valid p n ks ps g ws t z)
      (each_map (λ u. (lt t u ≡ true) × (multiplicity_of ks u ≡ multiplicity_of ks₀ u)) (λ u. multiplicity_of K u ≡ multiplicity_of ks₀ u)
      (λ u x. let a = x.1 in let y = one-counts p n ks ps g ws t v z (λ i. eq i u) in let o : bit (eq t u) ≡ 0 = ap bit (lt-not-eq t u x.0) in omega arith) bs
      (each-zip (λ u. lt t u ≡ true) (λ u. multiplicity_of ks u ≡ multiplicity_of ks₀ u) bs h E)) f (next_w p n ks ps g ws t v z w) (next_p p n ks ps g ws t v z w P)))
      (λ z f. let q : ◌≡◌ {A = ℕ} 0 1 = cc in absurd (omega arith)) e

  pub joints : (bs : List Float) → Rising bs → Run (missing_all p ks₀ bs) bs
  unfolding missing_all is_full
  joints [] R n ks ps ws ks' ps' ws' v E e w P = tt
  joints (t ∷ bs) R n ks ps ws ks' ps' ws' v E e w P =
      (first, through t us bs R.0 (joints bs R.1) (p + 1 - multiplicity_of ks₀ t) n ks ps ws ks' ps' ws' v E.1 e w P)
    where
      us : List Float
      us = missing_all p ks₀ bs

      list : List Float
      list = replicate (p + 1 - multiplicity_of ks₀ t) t ++ us

      above : Each (λ x. lt t x ≡ true) us
      above = missing-each (λ x. lt t x ≡ true) p ks₀ bs R.0

      none : count_in (λ x. lt x t) list ≡ 0
      none = count-none-in (λ x. lt x t) list (each_append (λ x. lt x t ≡ false) (replicate (p + 1 - multiplicity_of ks₀ t) t) us
          (each-replicate (λ x. lt x t ≡ false) (p + 1 - multiplicity_of ks₀ t) t (lt_irrefl t)) (each_map (λ x. lt t x ≡ true) (λ x. lt x t ≡ false) (λ x h. lt-asym t x h) us above))

      first : is_full p ks₀ t ≡ false → (r : ℕ) → suc r ≡ below_of ks' t → Twice (after_w p n ks list w) (after_p p n ks list w P) r
      first q r b =
          let a = ltb-false p (multiplicity_of ks₀ t) q in
          let x : p + 1 - multiplicity_of ks₀ t ≡ suc (p - multiplicity_of ks₀ t) = omega arith in
          let y : list ≡ replicate (suc (p - multiplicity_of ks₀ t)) t ++ us = ap (λ (i : ℕ). replicate i t ++ us) x in
          let B = made-below p g n ks ps ws list ks' ps' ws' v (made p g n ks ps ws list ks' ps' ws' v e) t in
          subst (λ (i : List Float). Twice (after_w p n ks i w) (after_p p n ks i w P) r) (sym y)
          (joint p g n ks ps ws (p - multiplicity_of ks₀ t) t us ks' ps' ws' v (ap (insert_all p g n ks ps ws) (sym y) ∙ e) (omega (arith, E.0)) above w P r (omega (arith, none)))
