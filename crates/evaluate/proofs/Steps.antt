-- What no refusal of a step or of an evaluation says, and what a call that checks first answers. A step on runs of fitting lengths reads nothing outside them, and a valid curve has such runs.
-- Assumes nothing.
use Prim.Native.Nat.{ℕ, ◌+◌, ◌*◌, ◌≤◌, ◌<◌}
use mathlib.Core.Bool.{Bool, true, cond}
use mathlib.Core.Path.{◌≡◌, sym, ap, subst}
use mathlib.Core.List.{List}
use native.Mathlib.Omega.{arith}
use lib.ListN.{length}
use lib.Dec.{eqb}
use lib.Ieee.{Float}
use lib.Ieee.Scale.{finite}
use borrow.Author.Tests.{eq-eqb}
use Rattle.std.specs.Prelude.{Result, Err}
use Rattle.knots.specs.Refusal.{checked}
use Rattle.knots.specs.declared.refusal.Refusal.{Refusal}
use Rattle.knots.specs.Curve.{count_of, curve_refusal, ValidCurve}
use Rattle.knots.specs.Span.{searched, span_of, domain_refusal}
use Rattle.knots.proofs.Refusals.{or_else-none, stop, stopped_by}
use Rattle.knots.proofs.Curves.{valid-curve}
use Rattle.knots.specs.Shape.{degree_refusal, curve_shape}
use Rattle.knots.proofs.Shapes.{degree-open, Fitting, shaped, shape-none}
use Rattle.evaluate.specs.Curve.{parameter_refusal, step_refusal, eval_refusal, looked}
use Rattle.knots.proofs.Searches.{searched-in, searched-is}
use Rattle.knots.proofs.Answers.{domain-open}

module _ (p n : ℕ) (ks : List Float) where
  -- where the search ends, whatever the knots are
  pub record Found (s : ℕ) : Type 0 where
    pub from : p ≤ s
    pub below : s < n
    pub reach : s + p < length ks

  pub found : Fitting p n ks → (v : Float) → Found (searched p n ks v)
  found f v =
      let c = f.count in
      let l = f.long in
      let r = searched-in ks v p n c (omega arith) in
      let b = r.1 in
      record { from = r.0; below = b; reach = omega arith }

module _ (c : Bool) (p n : ℕ) (ks : List Float) (t : Float) where
  pub parameter-open : (parameter_refusal c p n ks t).number ≡ 0 → (p ≤ 64) × (finite t ≡ true)
  unfolding parameter_refusal
  parameter-open h = let a = or_else-none (degree_refusal p) (domain_refusal c p n ks t) h in (degree-open p a.0, (domain-open p n ks t c a.1).0)

module _ (p : ℕ) (ks ps : List Float) (g : Bool) (ws : List Float) where
  -- what is read of runs that fit each other, on the span that the search finds, lies in them
  pub found-reach : p ≤ 64 → (curve_shape p ks ps g ws).number ≡ 0 → (v : Float) (s : ℕ) → s ≡ searched p (count_of ps) ks v
      → (0 < p) × ((p ≤ 64) × ((p ≤ s) × ((s + p < length ks) × ((s * 3 + 2 < length ps) × (g ≡ true → s < length ws)))))
  found-reach H h v s e =
      let o = shaped p ks ps g ws h in
      let f = subst (Found p (count_of ps) ks) (sym e) (found p (count_of ps) ks o.knots v) in
      let l = o.triples in
      let b = f.below in
      (o.knots.degree, (H, (f.from, (f.reach, (omega arith, λ q. let w = o.weights q in omega arith)))))

  module _ (c : Bool) (t : Float) where
    -- where nothing is refused the runs fit
    abbrev Fits : Type 0
    Fits = (p ≤ 64) × ((curve_shape p ks ps g ws).number ≡ 0)

    pub step_fits : (step_refusal c p ks ps g ws t).number ≡ 0 → Fits
    unfolding step_refusal
    step_fits h =
        let a = or_else-none (curve_shape p ks ps g ws) (parameter_refusal c p (count_of ps) ks t) h in
        ((parameter-open c p (count_of ps) ks t a.1).0, a.0)

    record EvalOpen : Type 0 where
      curve : ValidCurve p ks ps g ws
      high : p ≤ 64
      parameter : finite t ≡ true

    eval-open : (eval_refusal c p ks ps g ws t).number ≡ 0 → EvalOpen
    unfolding eval_refusal
    eval-open h =
        let a = or_else-none (curve_refusal p ks ps g ws) (parameter_refusal c p (count_of ps) ks t) h in
        let b = parameter-open c p (count_of ps) ks t a.1 in
        record { curve = valid-curve p ks ps g ws a.0; high = b.0; parameter = b.1 }

    pub eval-fits : (eval_refusal c p ks ps g ws t).number ≡ 0 → Fits
    eval-fits h = let o = eval-open h in (o.high, ap (λ (x : Refusal). x.number) (shape-none p ks ps g ws o.curve))

    -- and the search has found the span
    pub open_span : (eval_refusal c p ks ps g ws t).number ≡ 0 → searched p (count_of ps) ks (looked p ks ps t) ≡ span_of p (count_of ps) ks (looked p ks ps t)
    open_span h = let o = eval-open h in searched-is p (count_of ps) ks t o.curve.knots o.parameter

-- ---- a call answers the refusal of its check, or else what it finds
pub handed_on : {A : Type 0} (a : Refusal) (x : Result A Refusal) {r : Refusal} → Err r ≡ checked a → Err r ≡ cond (eqb a.number 0) x (Err a)
handed_on a x h = rw (stop a h) (ap Err (stopped_by a h).0)

pub passed_on : {A : Type 0} (a : Refusal) (x y : Result A Refusal) → a.number ≡ 0 → x ≡ y → x ≡ cond (eqb a.number 0) y (Err a)
passed_on a x y n e = rw (eq-eqb a.number 0 n) e
