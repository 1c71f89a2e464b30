-- Insertions one after the other into a curve that stands in a run: what the calls answer and leave is what the fold says.
-- Assumes nothing.
use Rattle.std.specs.Prelude.{Result, Ok, Err}
use Prim.Native.Nat.{ℕ, ◌+◌, ◌*◌, ◌≤◌}
use mathlib.Core.Bool.{Bool, true, false, cond}
use mathlib.Core.Path.{◌≡◌, refl, sym, ◌∙◌, ap, subst}
use mathlib.Core.List.{List, [], ◌∷◌}
use native.Mathlib.Omega.{arith}
use borrow.Author.Tests.{eqb-false, eq-eqb}
use lib.ListN.{length, replicate, length-replicate}
use lib.Dec.{eqb}
use lib.Ieee.{Float}
use Rattle.knots.specs.Refusal.{checked}
use Rattle.knots.specs.Clear.{zeros}
use Rattle.knots.specs.Curve.{count_of}
use Rattle.knots.specs.Knots.{knot_refusal, ValidKnots}
use Rattle.knots.specs.declared.refusal.Refusal.{Refusal}
use Rattle.knots.proofs.Refusals.{let_by, stopped_by}
use Rattle.knots.proofs.Valid.{not-refused}
use Rattle.edits.specs.Rows.{given}
use Rattle.insertion.specs.Insert.{inserted_knots, inserted_points, inserted_weights, insert_refusal}
use Rattle.insertion.specs.Fold.{insert_all}
use Rattle.edits.specs.Outcome.{Outcome, gives, refuses}
use Rattle.edits.specs.Whole.{given_of}
use Rattle.edits.specs.Work.{row_number, laid_at, laid, knots_from, points_from, weights_from, refusal_of, work_in}
use Rattle.insertion.specs.Times.{times_start, times_outcome}
use Rattle.edits.specs.Passes.{CurveIn}
use Rattle.edits.proofs.IntoRun.{knots-back, points-back, weights-back}
use Rattle.insertion.proofs.Outputs.{goal-is}
use Rattle.edits.proofs.RunWithCurve.{laid-long, laid_in, laid-laid}
use Rattle.edits.proofs.WorkCalls.{work-fits}
use Rattle.insertion.proofs.ListResult.{made}

abbrev refusal_number : Outcome → ℕ
refusal_number (gives ks ps ws) = 0
refusal_number (refuses r) = r.number

abbrev is_given : Outcome → ℕ
is_given (gives ks ps ws) = 0
is_given (refuses r) = 1

empty-gives : (p : ℕ) (g : Bool) (n : ℕ) (ks ps ws : List Float) → gives ks ps ws ≡ insert_all p g n ks ps ws []
unfolding insert_all
empty-gives p g n ks ps ws = refl

-- a fold that refuses has a number
pub refuses-some : (p : ℕ) (g : Bool) (n : ℕ) (ks ps ws ts : List Float) (r : Refusal) → insert_all p g n ks ps ws ts ≡ refuses r → r.number ≡ 0 → ⊥
unfolding insert_all
refuses-some p g n ks ps ws [] r e z = let y : ◌≡◌ {A = ℕ} 0 1 = ap is_given (empty-gives p g n ks ps ws ∙ e) in omega arith
refuses-some p g n ks ps ws (t ∷ ts) r e z =
    go (eqb (insert_refusal p n ks ps g ws t).number 0) refl (refuses-some p g (n + 1) (inserted_knots p n ks ps g ws t) (inserted_points p n ks ps g ws t) (inserted_weights p n ks ps g ws t) ts r)
  where
    R : Refusal
    R = insert_refusal p n ks ps g ws t

    next : Outcome
    next = insert_all p g (n + 1) (inserted_knots p n ks ps g ws t) (inserted_points p n ks ps g ws t) (inserted_weights p n ks ps g ws t) ts

    go : (b : Bool) → eqb R.number 0 ≡ b → (next ≡ refuses r → r.number ≡ 0 → ⊥) → ⊥
    go true f h = h (ap (λ (b : Bool). cond b next (refuses R)) (sym f) ∙ e) z
    go false f h = eqb-false R.number 0 f (ap refusal_number (ap (λ (b : Bool). cond b next (refuses R)) (sym f) ∙ e) ∙ z)

-- weights that are not given do not count
pub laid-given : (a : ℕ) (d ks ps : List Float) (g : Bool) (ws : List Float) → laid a d ks ps g ws ≡ laid a d ks ps g (given_of g ws)
unfolding laid laid_at row_number
laid-given a d ks ps true ws = refl
laid-given a d ks ps false ws = refl

-- ---- one call
module _ (a p n : ℕ) (g : Bool) (d ks ps ws : List Float) (v : ValidKnots p n ks) (P : length ps ≡ n * 3) (W : length ws ≡ given g n) (m : ℕ) (t : Float)
    (x : (n + m) * 4 ≤ a) (y : a + (n + m + p + 1) ≤ length d) where
  abbrev goal : Outcome
  goal = insert_all p g n ks ps ws (replicate m t)

  abbrev L : List Float
  L = laid a d ks ps g ws

  count : count_of ps ≡ n
  count = omega arith

  curve : CurveIn a ks ps g ws d L
  curve = laid_in a d ks ps g ws (omega (arith, count)) (omega (arith, v.long))

  pub knots-are : knots_from a p n L ≡ ks
  knots-are = knots-back a ks ps g ws d L curve p n v.long

  pub points-are : points_from n L ≡ ps
  points-are = subst (λ (k : ℕ). points_from k L ≡ ps) count (points-back a ks ps g ws d L curve (omega (arith, count)))

  weights-all : (b : Bool) → b ≡ g → length ws ≡ given b n → weights_from b n L ≡ ws
  weights-all true e w = subst (λ (k : ℕ). weights_from true k L ≡ ws) count (weights-back a ks ps g ws d L curve true e (λ z. w ∙ sym count))
  weights-all false e w = none ws w
    where
      none : (l : List Float) → length l ≡ 0 → [] ≡ l
      none [] f = refl
      none (z ∷ l) f = absurd (omega arith)

  pub weights-are : weights_from g n L ≡ ws
  weights-are = weights-all g refl W

  opens : (times_start p n m a L).number ≡ 0
  unfolding times_start
  opens =
      let long = laid-long a d ks ps g ws in
      let e = work-fits (n + m) (n + m + p + 1) a (length L) x (omega (arith, long)) in
      simp (ap (λ (r : Refusal). eqb r.number 0) (sym e)) (ap (λ (l : List Float). (knot_refusal p n l).number) knots-are ∙ ap (λ (r : Refusal). r.number) (not-refused p n ks v))

  times-goal : times_outcome p n m a L g t ≡ goal
  unfolding times_outcome
  times-goal = simp (eq-eqb (times_start p n m a L).number 0 opens) (goal-is p g n (replicate m t) knots-are points-are weights-are)

  over : (o : Outcome) → goal ≡ o → work_in a g L o ≡ work_in a g d o
  over (gives ls qs vs) e =
      let M = made p g n ks ps ws (replicate m t) ls qs vs v e in
      let l = length-replicate m t in
      let q = M.points P in
      let k = M.valid.long in
      laid-laid a d ks ps g ws ls qs vs (omega (arith, count)) (omega (arith, v.long)) (omega arith) (omega arith)
  over (refuses r) e = ap zeros (laid-long a d ks ps g ws)

  pub chained : (w w₁ : List Float) (r : Result Unit Refusal) → w ≡ L → r ≡ checked (refusal_of (times_outcome p n m a w g t)) → w₁ ≡ work_in a g w (times_outcome p n m a w g t)
      → (r ≡ checked (refusal_of goal)) × (w₁ ≡ work_in a g d goal)
  chained w w₁ r e R Z = (
    R ∙ (ap (λ (l : List Float). checked (refusal_of (times_outcome p n m a l g t))) e ∙ ap (λ (o : Outcome). checked (refusal_of o)) times-goal),
    Z ∙ (ap (λ (l : List Float). work_in a g l (times_outcome p n m a l g t)) e ∙ (ap (work_in a g L) times-goal ∙ over goal refl)),
  )

-- ---- what an outcome says, by its refusal
pub refused-is : (p : ℕ) (g : Bool) (n : ℕ) (ks ps ws ts : List Float) (r : Refusal) → Err r ≡ checked (refusal_of (insert_all p g n ks ps ws ts)) → insert_all p g n ks ps ws ts ≡ refuses r
unfolding checked
refused-is p g n ks ps ws ts r e = go (insert_all p g n ks ps ws ts) refl
  where
    go : (o : Outcome) → insert_all p g n ks ps ws ts ≡ o → insert_all p g n ks ps ws ts ≡ refuses r
    go (gives ls qs vs) f = let no = e ∙ ap (λ (o : Outcome). checked (refusal_of o)) f in cc
    go (refuses x) f = f ∙ ap refuses (sym (stopped_by x (e ∙ ap (λ (o : Outcome). checked (refusal_of o)) f)).0)

pub record Given (p : ℕ) (g : Bool) (n : ℕ) (ks ps ws ts : List Float) : Type 0 where
  pub knots : List Float
  pub points : List Float
  pub weights : List Float
  pub is : insert_all p g n ks ps ws ts ≡ gives knots points weights

pub given_is : (p : ℕ) (g : Bool) (n : ℕ) (ks ps ws ts : List Float) → Ok tt ≡ checked (refusal_of (insert_all p g n ks ps ws ts)) → Given p g n ks ps ws ts
given_is p g n ks ps ws ts e = go (insert_all p g n ks ps ws ts) refl
  where
    go : (o : Outcome) → insert_all p g n ks ps ws ts ≡ o → Given p g n ks ps ws ts
    go (gives ls qs vs) f = record { knots = ls; points = qs; weights = vs; is = f }
    go (refuses x) f = absurd (refuses-some p g n ks ps ws ts x f (let_by x (e ∙ ap (λ (o : Outcome). checked (refusal_of o)) f)))
