-- A curve goes into a run, and out of it.
-- Assumes nothing.
use Prim.Native.Nat.{ℕ, zero, suc, ◌+◌, ◌-◌, ◌*◌, ◌/◌, ◌%◌, ◌≤◌, ◌<◌}
use mathlib.Core.Bool.{Bool, true, false, cond}
use mathlib.Core.Path.{◌≡◌, refl, sym, ◌∙◌, ap, ap₂, subst}
use mathlib.Core.Logic.{◌⊎◌, inl, inr}
use mathlib.Core.List.{List, ◌++◌}
use native.Mathlib.Omega.{arith}
use lib.ListN.{length, set, take, drop, length-set, length-take, length-drop, length-append}
use borrow.Author.Count.{below_more}
use lib.Seq.{get_or-set_same, get_or-set_other, get_or-take, get_or-drop, ext_get_or}
use lib.Ieee.{Float, nan}
use Rattle.doubles.specs.Run.{at}
use Rattle.doubles.specs.Value.{one+}
use Rattle.knots.specs.Clear.{zeros}
use Rattle.knots.specs.Curve.{count_of}
use Rattle.runs.specs.Tabulate.{tabulate}
use Rattle.runs.proofs.Tabulated.{length-tabulate, tabulate-at, tabulate-cong}
use Rattle.runs.specs.Lent.{padded}
use Rattle.runs.specs.declared.vector.Vector.{Vector}
use Rattle.runs.proofs.Overlays.{store-more}
use Rattle.edits.specs.Rows.{given, axis}
use Rattle.edits.specs.Work.{knots_from, points_from, weights_from}
use Rattle.edits.specs.Control.{vector_of}
use Rattle.runs.specs.Weight.{weight_at}
use Rattle.edits.specs.Passes.{row_of, given_row, RowsLaid, KnotsLaid, CurveIn}
use Rattle.edits.specs.declared.control.Control.{Control}
use Rattle.runs.proofs.Cleared.{front-taken}
use Rattle.edits.proofs.RowReads.{row-axis}
use Rattle.edits.proofs.RowStores.{rows_same}

-- ---- knots to place a and on: i of them are there
pub record InKnots (a : ℕ) (ks w₀ w₁ : List Float) (i : ℕ) : Type 0 where
  pub upto : i ≤ length ks
  pub long : length w₁ ≡ length w₀
  pub knots : (j : ℕ) → j < i → at w₁ (a + j) ≡ at ks j
  pub rest : (j : ℕ) → (j < a) ⊎ (a + i ≤ j) → at w₁ j ≡ at w₀ j

module _ (a : ℕ) (ks w₀ : List Float) where
  pub knots-start : InKnots a ks w₀ w₀ 0
  knots-start = record { upto = omega arith; long = refl; knots = λ j l. absurd (omega arith); rest = λ j u. refl }

  module _ (w₁ : List Float) (i : ℕ) (I : InKnots a ks w₀ w₁ i) where
    pub knots-more : i < length ks → a + length ks ≤ length w₀ → InKnots a ks w₀ (set w₁ (a + i) (at ks i)) (i + 1)
    knots-more b l =
        let L = I.long in
        record {
          upto = omega arith;
          long = length-set w₁ (a + i) (at ks i) ∙ I.long;
          knots = below_more (λ j. at (set w₁ (a + i) (at ks i)) (a + j) ≡ at ks j) i
              (λ j k. get_or-set_other w₁ (a + i) (a + j) (at ks i) nan (λ e. omega arith) ∙ I.knots j k)
              (get_or-set_same w₁ (a + i) (at ks i) nan (omega arith));
          rest = others;
        }
      where
        others : (j : ℕ) → (j < a) ⊎ (a + (i + 1) ≤ j) → at (set w₁ (a + i) (at ks i)) j ≡ at w₀ j
        others j (inl u) = get_or-set_other w₁ (a + i) j (at ks i) nan (λ e. omega arith) ∙ I.rest j (inl u)
        others j (inr u) = get_or-set_other w₁ (a + i) j (at ks i) nan (λ e. omega arith) ∙ I.rest j (inr (omega arith))

    pub knots-end : length ks ≤ i → a + length ks ≤ length w₀ → KnotsLaid a ks w₀ w₁
    knots-end b l =
        let U = I.upto in
        let L = I.long in
        let e : i ≡ length ks = omega arith in
        let m : length (take (length ks) (drop a w₁)) ≡ length ks = length-take (length ks) (drop a w₁) ∙ omega (arith, length-drop a w₁) in
        record {
          knots = ext_get_or nan (take (length ks) (drop a w₁)) ks m
              (λ j c. get_or-take (length ks) (drop a w₁) j nan (omega (arith, m)) ∙ (get_or-drop a w₁ j nan ∙ I.knots j (omega (arith, m))));
          rest = subst (λ (k : ℕ). (j : ℕ) → (j < a) ⊎ (a + k ≤ j) → at w₁ j ≡ at w₀ j) e I.rest;
        }

-- ---- points and weights of rows to the front of two runs: i of them are there
weights-more : (g : Bool) (i : ℕ) (f : ℕ → Float) (d xs : List Float) (x : Float) → (g ≡ true → i < length d) → xs ≡ tabulate (given g i) f ++ drop (given g i) d → (g ≡ true → x ≡ f i)
    → cond g (set xs i x) xs ≡ tabulate (given g (i + 1)) f ++ drop (given g (i + 1)) d
weights-more true i f d xs x l e h = store-more i f d xs x (l refl) e (h refl)
weights-more false i f d xs x l e h = e

weights-long : (g : Bool) (i : ℕ) (xs : List Float) (x : Float) → length (cond g (set xs i x) xs) ≡ length xs
weights-long true i xs x = length-set xs i x
weights-long false i xs x = refl

module _ (g : Bool) (n : ℕ) (rs p₀ w₀ : List Float) where
  abbrev points : ℕ → Float
  points j = at rs (j / 3 * 4 + j % 3)

  abbrev weights : ℕ → Float
  weights i = at rs (i * 4 + 3)

  pub record InTake (p₁ w₁ : List Float) (i : ℕ) : Type 0 where
    pub upto : i ≤ n
    pub long-points : length p₁ ≡ length p₀
    pub long-weights : length w₁ ≡ length w₀
    pub points-are : p₁ ≡ tabulate (i * 3) points ++ drop (i * 3) p₀
    pub weights-are : w₁ ≡ tabulate (given g i) weights ++ drop (given g i) w₀

  module _ (p₁ w₁ : List Float) (i : ℕ) (I : InTake p₁ w₁ i) where
    pub take_more : i < n → n * 3 ≤ length p₀ → (g ≡ true → n ≤ length w₀) → (q : Control) → q ≡ row_of g rs i → (v : Vector) → v ≡ vector_of q → (p₂ w₂ : List Float)
        → p₂ ≡ set (set (set p₁ (i * 3) v.x) (i * 3 + 1) v.y) (i * 3 + 2) v.z → w₂ ≡ cond g (set w₁ i q.w) w₁ → InTake p₂ w₂ (i + 1)
    take_more b P W q Q v X p₂ w₂ E F =
        let A : v ≡ vector_of (row_of g rs i) = X ∙ ap vector_of Q in
        let one = store-more (i * 3) points p₀ p₁ v.x (omega arith) I.points-are (ap (axis 0) A ∙ place 0 (i * 3) (omega arith) (omega arith)) in
        let two = store-more (i * 3 + 1) points p₀ _ v.y (omega arith) one (ap (axis 1) A ∙ place 1 (i * 3 + 1) (omega arith) (omega arith)) in
        let three = store-more (i * 3 + 1 + 1) points p₀ _ v.z (omega arith) two (ap (axis 2) A ∙ place 2 (i * 3 + 1 + 1) (omega arith) (omega arith)) in
        let n1 : i * 3 + 1 + 1 + 1 ≡ (i + 1) * 3 = omega arith in
        let n2 : i * 3 + 2 ≡ i * 3 + 1 + 1 = omega arith in
        record {
          upto = omega arith;
          long-points = ap length E ∙ simp length-set I.long-points;
          long-weights = ap length F ∙ (weights-long g i w₁ q.w ∙ I.long-weights);
          points-are = E ∙ (ap (λ (k : ℕ). set (set (set p₁ (i * 3) v.x) (i * 3 + 1) v.y) k v.z) n2
              ∙ subst (λ (k : ℕ). set (set (set p₁ (i * 3) v.x) (i * 3 + 1) v.y) (i * 3 + 1 + 1) v.z ≡ tabulate k points ++ drop k p₀) n1 three);
          weights-are = F ∙ weights-more g i weights w₀ w₁ q.w (λ t. room (W t)) I.weights-are (λ t. ap (λ (x : Control). x.w) Q ∙ ap (λ (c : Bool). cond c (at rs (i * 4 + 3)) one+) t);
        }
      where
        room : n ≤ length w₀ → i < length w₀
        room l = omega arith

        place : (c j : ℕ) → j ≡ i * 3 + c → c < 3 → axis c (vector_of (row_of g rs i)) ≡ points j
        place c j J l =
            let e : j / 3 * 4 + j % 3 ≡ i * 4 + c = omega arith in
            sym (row-axis g n rs i c l) ∙ ap (at rs) (sym e)

-- ---- both
pub curve-in : (a : ℕ) (ks ps : List Float) (g : Bool) (ws w₀ w₁ w₂ : List Float) → count_of ps * 4 ≤ a → RowsLaid g (given_row ps g ws) (count_of ps) w₀ w₁ → KnotsLaid a ks w₁ w₂
    → CurveIn a ks ps g ws w₀ w₂
curve-in a ks ps g ws w₀ w₁ w₂ l R K = record {
  rows = λ i b. rows_same g w₂ w₁ i (λ c d. K.rest (i * 4 + c) (inl (omega arith))) ∙ R.rows i b;
  knots = K.knots;
  rest = λ j u o. K.rest j o ∙ R.rest j u;
}

-- ---- what is read from a run in which a curve stands
pub given-axis : (ps : List Float) (g : Bool) (ws : List Float) (j i c : ℕ) → j ≡ i * 3 + c → c < 3 → axis c (vector_of (given_row ps g ws i)) ≡ at ps j
given-axis ps g ws j i zero e l = ap (at ps) (sym e)
given-axis ps g ws j i (suc zero) e l = ap (at ps) (sym e)
given-axis ps g ws j i (suc (suc zero)) e l = ap (at ps) (sym e)
given-axis ps g ws j i (suc (suc (suc c))) e l = absurd (omega arith)

module _ (a : ℕ) (ks ps : List Float) (g : Bool) (ws w₀ w₁ : List Float) (C : CurveIn a ks ps g ws w₀ w₁) where
  pub points-back : length ps ≡ count_of ps * 3 → points_from (count_of ps) w₁ ≡ ps
  points-back L =
      tabulate-cong (count_of ps * 3) (λ j. at w₁ (j / 3 * 4 + j % 3)) (at ps)
      (λ j b. row-axis g (count_of ps) w₁ (j / 3) (j % 3) (omega arith) ∙ (ap (λ (q : Control). axis (j % 3) (vector_of q)) (C.rows (j / 3) (omega arith)) ∙ given-axis ps g ws j
      (j / 3) (j % 3) (omega arith) (omega arith)))
      ∙ (ap (λ (n : ℕ). tabulate n (at ps)) (sym L) ∙ tabulate-at ps)

  pub weights-back : (b : Bool) → b ≡ g → (b ≡ true → length ws ≡ count_of ps) → weights_from b (count_of ps) w₁ ≡ cond b ws (tabulate 0 (at ws))
  unfolding weight_at
  weights-back true e L =
      tabulate-cong (count_of ps) (λ i. at w₁ (i * 4 + 3)) (at ws)
      (λ i l. ap (λ (c : Bool). cond c (at w₁ (i * 4 + 3)) one+) e ∙ (ap (λ (q : Control). q.w) (C.rows i l) ∙ ap (λ (c : Bool). cond c (at ws i) one+) (sym e)))
      ∙ (ap (λ (n : ℕ). tabulate n (at ws)) (sym (L refl)) ∙ tabulate-at ws)
  weights-back false e L = refl

  pub knots-back : (p n : ℕ) → length ks ≡ n + p + 1 → knots_from a p n w₁ ≡ ks
  knots-back p n L = ap (λ (m : ℕ). take m (drop a w₁)) (sym L) ∙ C.knots

-- ---- parts of a run
pub slice_is : (a m : ℕ) (xs : List Float) → take (a + m - a) (drop a xs) ≡ take m (drop a xs)
slice_is a m xs = let e : a + m - a ≡ m = omega arith in ap (λ (i : ℕ). take i (drop a xs)) e

pub stored-front : (m c : ℕ) (xs x₀ x₁ x₂ : List Float) → c ≡ m → length xs ≡ m → x₁ ≡ xs ++ drop m x₀ → length x₁ ≡ length x₀ → x₂ ≡ take c x₁ ++ zeros (length x₁ - c) → x₂ ≡ padded (length x₀) xs
unfolding padded
stored-front m c xs x₀ x₁ x₂ C M E L F =
    F ∙ (ap (λ (k : ℕ). take k x₁ ++ zeros (length x₁ - k)) (C ∙ sym M)
    ∙ ap₂ (λ (y : List Float) (k : ℕ). y ++ zeros (k - length xs)) (front-taken (length xs) xs (drop m x₀) x₁ refl E) L)

-- what is taken from the rows from place f on
module _ (g : Bool) (m f : ℕ) (work : List Float) (W : take (length work - f) (drop f work) ≡ drop f work) where
  pub points-stored : (x₀ ys x₂ : List Float) → m * 3 ≤ length x₀ → ys ≡ points_from m (take (length work - f) (drop f work))
      → x₂ ≡ take (m * 3) (ys ++ drop (m * 3) x₀) ++ zeros (length (ys ++ drop (m * 3) x₀) - m * 3) → x₂ ≡ padded (length x₀) (points_from m (drop f work))
  points-stored x₀ ys x₂ b Y F =
      let y : length ys ≡ m * 3 = ap length Y ∙ length-tabulate (m * 3) _ in
      let d = length-drop (m * 3) x₀ in
      stored-front (m * 3) (m * 3) (points_from m (drop f work)) x₀ (ys ++ drop (m * 3) x₀) x₂ refl (length-tabulate (m * 3) _)
      (ap (λ (l : List Float). l ++ drop (m * 3) x₀) (Y ∙ ap (points_from m) W)) (length-append ys (drop (m * 3) x₀) ∙ omega arith) F

  pub weights-stored : (c : ℕ) → c ≡ given g m → (x₀ x₁ x₂ : List Float) → x₁ ≡ weights_from g m (take (length work - f) (drop f work)) ++ drop (given g m) x₀ → length x₁ ≡ length x₀
      → x₂ ≡ take c x₁ ++ zeros (length x₁ - c)
      → x₂ ≡ padded (length x₀) (weights_from g m (drop f work))
  weights-stored c C x₀ x₁ x₂ E L F =
      stored-front (given g m) c (weights_from g m (drop f work)) x₀ x₁ x₂ C (length-tabulate (given g m) _) (E ∙ ap (λ (xs : List Float). weights_from g m xs ++ drop (given g m) x₀) W) L F
