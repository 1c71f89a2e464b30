-- The cut of a curve that stands in scratch.
-- Assumes nothing.
use Rattle.std.specs.Prelude.{Result, Ok, Err}
use Prim.Native.Nat.{ℕ, ◌+◌, ◌*◌, ◌/◌, ◌%◌, ◌≤◌, ◌<◌}
use mathlib.Core.Bool.{Bool, true, false}
use mathlib.Core.Path.{◌≡◌, refl, sym, ◌∙◌, ap, subst}
use mathlib.Core.List.{List, []}
use native.Mathlib.Omega.{arith}
use borrow.Author.Tests.{eq-eqb, eqb-true, eqb-false}
use lib.ListN.{length, take, drop, length-take, length-drop}
use lib.Seq.{get_or-take, get_or-drop, ext_get_or}
use lib.Dec.{eqb}
use lib.Ieee.{Float, nan}
use Rattle.doubles.specs.Run.{at}
use Rattle.knots.specs.Refusal.{checked}
use Rattle.knots.specs.Knots.{ValidKnots}
use Rattle.knots.specs.Curve.{count_of, formed_refusal, ValidCurve}
use Rattle.knots.specs.declared.refusal.Refusal.{Refusal}
use Rattle.knots.proofs.Refusals.{refused}
use Rattle.runs.proofs.Tabulated.{length-tabulate, at-tabulate}
use Rattle.runs.specs.Lent.{padded, left_in}
use Rattle.runs.proofs.Overlays.{take-padded}
use Rattle.edits.specs.Counts.{missing_of, below_of}
use Rattle.edits.specs.Rows.{given}
use Rattle.insertion.specs.Fold.{insert_all}
use Rattle.edits.specs.Outcome.{Outcome}
use Rattle.edits.specs.Whole.{given_of}
use Rattle.edits.specs.Work.{laid, knots_from, points_from, weights_from, refusal_of, work_in}
use Rattle.edits.specs.Passes.{OutMeets}
use Rattle.edits.specs.declared.answer.FormedCurve.{FormedCurve}
use Rattle.edits.proofs.RowReads.{knot-from}
use Rattle.edits.proofs.Starting.{thirds}
use Rattle.edits.proofs.RunWithCurve.{laid-long}
use Rattle.insertion.proofs.ListResult.{made}
use Rattle.insertion.proofs.Repeated.{ends-long}
use Rattle.insertion.proofs.Chained.{knots-are, points-are, weights-are, refused-is, given_is}
use Rattle.edits.proofs.Outcomes.{edit-unique, checked-none}
use Rattle.trimming.specs.Trim.{ends_of, kept_of, cut_refusal, cut_curve, cut_of, trim_outcome, TrimMeets}
use Rattle.trimming.specs.Passes.{CutDone}
use Rattle.trimming.proofs.Ends.{given-long}

-- ---- what is taken from a run is the cut of what stands there
module _ (a p n f m : ℕ) (g : Bool) (xs ks ps ws : List Float) (b : f + m ≤ n) where
  pub cut-knots : knots_from a p n xs ≡ ks → a + (n + p + 1) ≤ length xs → knots_from (a + f) p m xs ≡ take (m + p + 1) (drop f ks)
  cut-knots K l = ext_get_or nan (knots_from (a + f) p m xs) (take (m + p + 1) (drop f ks)) (left ∙ sym right)
      (λ j c.
      let C : j < m + p + 1 = omega (arith, left) in
      let e : a + f + j ≡ a + (f + j) = omega arith in
      knot-from (a + f) p m xs j C
      ∙ (ap (at xs) e ∙ (sym (knot-from a p n xs (f + j) (omega arith)) ∙ (ap (λ (l : List Float). at l (f + j)) K ∙ (sym (get_or-drop f ks j nan) ∙ sym (get_or-take (m + p + 1) (drop f ks) j nan C))))))
    where
      left : length (knots_from (a + f) p m xs) ≡ m + p + 1
      left = length-take (m + p + 1) (drop (a + f) xs) ∙ omega (arith, length-drop (a + f) xs)

      long : length ks ≡ n + p + 1
      long = ap length (sym K) ∙ (length-take (n + p + 1) (drop a xs) ∙ omega (arith, length-drop a xs))

      right : length (take (m + p + 1) (drop f ks)) ≡ m + p + 1
      right = length-take (m + p + 1) (drop f ks) ∙ omega (arith, length-drop f ks, long)

  pub cut-points : points_from n xs ≡ ps → points_from m (drop (f * 4) xs) ≡ take (m * 3) (drop (f * 3) ps)
  cut-points P = ext_get_or nan (points_from m (drop (f * 4) xs)) (take (m * 3) (drop (f * 3) ps)) (left ∙ sym right)
      (λ j c.
      let C : j < m * 3 = omega (arith, left) in
      let e : f * 4 + (j / 3 * 4 + j % 3) ≡ (f * 3 + j) / 3 * 4 + (f * 3 + j) % 3 = omega arith in
      at-tabulate (m * 3) (λ i. at (drop (f * 4) xs) (i / 3 * 4 + i % 3)) j C
      ∙ (get_or-drop (f * 4) xs (j / 3 * 4 + j % 3) nan ∙ (ap (at xs) e ∙ (sym (at-tabulate (n * 3) (λ i. at xs (i / 3 * 4 + i % 3)) (f * 3 + j) (omega arith))
      ∙ (ap (λ (l : List Float). at l (f * 3 + j)) P ∙ (sym (get_or-drop (f * 3) ps j nan) ∙ sym (get_or-take (m * 3) (drop (f * 3) ps) j nan C)))))))
    where
      left : length (points_from m (drop (f * 4) xs)) ≡ m * 3
      left = length-tabulate (m * 3) _

      long : length ps ≡ n * 3
      long = ap length (sym P) ∙ length-tabulate (n * 3) _

      right : length (take (m * 3) (drop (f * 3) ps)) ≡ m * 3
      right = length-take (m * 3) (drop (f * 3) ps) ∙ omega (arith, length-drop (f * 3) ps, long)

  weights-cut : weights_from true n xs ≡ ws → weights_from true m (drop (f * 4) xs) ≡ take m (drop f ws)
  weights-cut W = ext_get_or nan (weights_from true m (drop (f * 4) xs)) (take m (drop f ws)) (left ∙ sym right)
      (λ j c.
      let C : j < m = omega (arith, left) in
      let e : f * 4 + (j * 4 + 3) ≡ (f + j) * 4 + 3 = omega arith in
      at-tabulate m (λ i. at (drop (f * 4) xs) (i * 4 + 3)) j C
      ∙ (get_or-drop (f * 4) xs (j * 4 + 3) nan ∙ (ap (at xs) e ∙ (sym (at-tabulate n (λ i. at xs (i * 4 + 3)) (f + j) (omega arith))
      ∙ (ap (λ (l : List Float). at l (f + j)) W ∙ (sym (get_or-drop f ws j nan) ∙ sym (get_or-take m (drop f ws) j nan C)))))))
    where
      left : length (weights_from true m (drop (f * 4) xs)) ≡ m
      left = length-tabulate m _

      long : length ws ≡ n
      long = ap length (sym W) ∙ length-tabulate n _

      right : length (take m (drop f ws)) ≡ m
      right = length-take m (drop f ws) ∙ omega (arith, length-drop f ws, long)

pub cut-weights : (n f m : ℕ) (g : Bool) (xs ws : List Float) → f + m ≤ n → weights_from g n xs ≡ ws → weights_from g m (drop (f * 4) xs) ≡ take (given g m) (drop f ws)
cut-weights n f m true xs ws b W = weights-cut 0 0 n f m true xs [] [] ws b W
cut-weights n f m false xs ws b W = refl

-- ---- the cut of an outcome
module _ (a p n f m : ℕ) (g : Bool) (w₀ : List Float) (b : f + m ≤ n) (x : n * 4 ≤ a) (y : a + (n + p + 1) ≤ length w₀) (A B C : ℕ) (k₁ p₁ w₁ : List Float) (r : Result Unit Refusal) where
  pub cut-formed : (ks ps ws xs : List Float) → ValidKnots p n ks → length ps ≡ n * 3 → length ws ≡ given g n → xs ≡ laid a w₀ ks ps g ws
      → CutDone p m g (knots_from (a + f) p m xs) (points_from m (drop (f * 4) xs)) (weights_from g m (drop (f * 4) xs)) A B C k₁ p₁ w₁ r → OutMeets A B C (cut_curve p g f m ks ps ws) k₁ p₁ w₁ r
  unfolding cut_curve cut_refusal OutMeets
  cut-formed ks ps ws xs v P W E D = go (eqb (cut_refusal p g f m ks ps ws).number 0) refl
    where
      n0 : n + 0 ≡ n
      n0 = omega arith

      K : knots_from (a + f) p m xs ≡ take (m + p + 1) (drop f ks)
      K =
          ap (knots_from (a + f) p m) E
          ∙ cut-knots a p n f m g (laid a w₀ ks ps g ws) ks ps ws b (knots-are a p n g w₀ ks ps ws v P W 0 nan (omega arith) (omega arith)) (long-enough)
        where
          long-enough : a + (n + p + 1) ≤ length (laid a w₀ ks ps g ws)
          long-enough = omega (arith, laid-long a w₀ ks ps g ws)

      Q : points_from m (drop (f * 4) xs) ≡ take (m * 3) (drop (f * 3) ps)
      Q =
          ap (λ (u : List Float). points_from m (drop (f * 4) u)) E
          ∙ cut-points a p n f m g (laid a w₀ ks ps g ws) ks ps ws b (points-are a p n g w₀ ks ps ws v P W 0 nan (omega arith) (omega arith))

      V' : weights_from g m (drop (f * 4) xs) ≡ take (given g m) (drop f ws)
      V' =
          ap (λ (u : List Float). weights_from g m (drop (f * 4) u)) E
          ∙ cut-weights n f m g (laid a w₀ ks ps g ws) ws b (weights-are a p n g w₀ ks ps ws v P W 0 nan (omega arith) (omega arith))

      R : r ≡ checked (cut_refusal p g f m ks ps ws)
      R = D.refusal ∙ ap checked (moved K Q V')
        where
          moved : {i i' j j' h h' : List Float} → i ≡ i' → j ≡ j' → h ≡ h' → formed_refusal p m i j g h ≡ formed_refusal p m i' j' g h'
          moved I J H = rw (I, J, H)

      go : (t : Bool) → eqb (cut_refusal p g f m ks ps ws).number 0 ≡ t → OutMeets A B C (cut_curve p g f m ks ps ws) k₁ p₁ w₁ r
      go true e = rw e ((R ∙ checked-none _ (eqb-true _ 0 e), D.knots ∙ ap (padded A) K, D.points ∙ ap (padded B) Q, D.weights ∙ ap (padded C) V'))
      go false e = rw e (R ∙ sym (refused _ (eqb-false _ 0 e)))

-- ---- what `cut` leaves
pub cut-done : (p m : ℕ) (g : Bool) (a f : ℕ) (xs k₁ p₁ w₁ : List Float) (A B C : ℕ) (q : Refusal) (r : Result Unit Refusal) → q.number ≡ 0 → a + (f + m + p + 1) ≤ length xs
    → k₁ ≡ left_in q A (knots_from (a + f) p m xs) → p₁ ≡ left_in q B (points_from m (drop (f * 4) xs)) → w₁ ≡ left_in q C (weights_from g m (drop (f * 4) xs))
    → r ≡ checked (formed_refusal p m (take (m + p + 1) k₁) (take (m * 3) p₁) g (take (given g m) w₁))
    → CutDone p m g (knots_from (a + f) p m xs) (points_from m (drop (f * 4) xs)) (weights_from g m (drop (f * 4) xs)) A B C k₁ p₁ w₁ r
unfolding left_in
cut-done p m g a f xs k₁ p₁ w₁ A B C q r z l K P W R =
    let e = eq-eqb q.number 0 z in
    let k : k₁ ≡ padded A (knots_from (a + f) p m xs) = K ∙ simp e in
    let x : p₁ ≡ padded B (points_from m (drop (f * 4) xs)) = P ∙ simp e in
    let w : w₁ ≡ padded C (weights_from g m (drop (f * 4) xs)) = W ∙ simp e in
    let kl : length (knots_from (a + f) p m xs) ≡ m + p + 1 = length-take (m + p + 1) (drop (a + f) xs) ∙ omega (arith, length-drop (a + f) xs) in
    record {
      refusal =
          R
          ∙ ap checked (moved
          (take-padded (m + p + 1) A (knots_from (a + f) p m xs) k₁ kl k) (take-padded (m * 3) B (points_from m (drop (f * 4) xs)) p₁ (length-tabulate (m * 3) _) x)
          (take-padded (given g m) C (weights_from g m (drop (f * 4) xs)) w₁ (length-tabulate (given g m) _) w));
      knots = k;
      points = x;
      weights = w;
    }
  where
    moved : {i i' j j' h h' : List Float} → i ≡ i' → j ≡ j' → h ≡ h' → formed_refusal p m i j g h ≡ formed_refusal p m i' j' g h'
    moved I J H = rw (I, J, H)

-- ---- the cut of what the ends leave
module _ (p : ℕ) (ks ps : List Float) (g : Bool) (ws : List Float) (v : ValidCurve p ks ps g ws) (lo hi : Float) where
  abbrev aim : Outcome
  aim = insert_all p g (count_of ps) ks ps (given_of g ws) (ends_of p ks lo hi)

  abbrev F : ℕ
  F = below_of ks lo

  abbrev M : ℕ
  M = kept_of p ks lo hi

  abbrev N : ℕ
  N = count_of ps + (missing_of p ks lo + missing_of p ks hi)

  module _ (A B C : ℕ) (k₁ p₁ w₁ : List Float) where
    pub into-refused : (r : Refusal) → Err r ≡ checked (refusal_of aim) → OutMeets A B C (cut_of p g F M aim) k₁ p₁ w₁ (Err r)
    unfolding OutMeets
    into-refused r e = rw (refused-is p g (count_of ps) ks ps (given_of g ws) (ends_of p ks lo hi) r e) refl

    pub into-cut : (a : ℕ) (w₀ : List Float) (f m : ℕ) → f ≡ F → m ≡ M → F + M ≤ N → N * 4 ≤ a → a + (N + p + 1) ≤ length w₀ → Ok tt ≡ checked (refusal_of aim) →
        (xs : List Float) → xs ≡ work_in a g w₀ aim
        → (r : Result Unit Refusal)
        → CutDone p m g (knots_from (a + f) p m xs) (points_from m (drop (f * 4) xs)) (weights_from g m (drop (f * 4) xs)) A B C k₁ p₁ w₁ r → OutMeets A B C (cut_of p g F M aim) k₁ p₁ w₁ r
    unfolding ends_of
    into-cut a w₀ f m f≡ m≡ b x y Q xs E r D =
        let G = given_is p g (count_of ps) ks ps (given_of g ws) (ends_of p ks lo hi) Q in
        let e = G.is in
        let d = made p g (count_of ps) ks ps (given_of g ws) (ends_of p ks lo hi) G.knots G.points G.weights v.knots e in
        let s : count_of ps + length (ends_of p ks lo hi) ≡ N = ap (λ (i : ℕ). count_of ps + i) (ends-long p ks lo hi) in
        let D₁ = subst (λ (i : ℕ). CutDone p i g (knots_from (a + f) p i xs) (points_from i (drop (f * 4) xs)) (weights_from g i (drop (f * 4) xs)) A B C k₁ p₁ w₁ r) m≡ D in
        let D₂ = subst (λ (i : ℕ). CutDone p M g (knots_from (a + i) p M xs) (points_from M (drop (i * 4) xs)) (weights_from g M (drop (i * 4) xs)) A B C k₁ p₁ w₁ r) f≡ D₁ in
        rw e (cut-formed a p N F M g w₀ b x y A B C k₁ p₁ w₁ r G.knots G.points G.weights xs (subst (λ (i : ℕ). ValidKnots p i G.knots) s d.valid)
        (d.points (thirds v.triples) ∙ ap (λ (i : ℕ). i * 3) s) (d.weights (given-long g (count_of ps) ws v.controls.weights) ∙ ap (given g) s) (E ∙ ap (work_in a g w₀) e) D₂)

-- any two outcomes that the contract permits coincide
pub trim-unique : (p : ℕ) (ks ps : List Float) (g : Bool) (ws : List Float) (lo hi : Float) (a b c d : ℕ) (k₁ p₁ w₁ s₁ k₂ p₂ w₂ s₂ : List Float) (r q : Result FormedCurve Refusal)
    → TrimMeets p ks ps g ws lo hi a b c d k₁ p₁ w₁ s₁ r → TrimMeets p ks ps g ws lo hi a b c d k₂ p₂ w₂ s₂ q → (r ≡ q) × (k₁ ≡ k₂) × (p₁ ≡ p₂) × (w₁ ≡ w₂) × (s₁ ≡ s₂)
trim-unique p ks ps g ws lo hi a b c d k₁ p₁ w₁ s₁ k₂ p₂ w₂ s₂ r q M N =
    edit-unique p (kept_of p ks lo hi) (trim_outcome p ks ps g ws lo hi a b c d) a b c d k₁ p₁ w₁ s₁ k₂ p₂ w₂ s₂ r q M N
