-- The calls on a curve in a lent run: their refusals, and what they leave.
-- Assumes nothing.
use Rattle.std.specs.Prelude.{Result, Ok, Err}
use Prim.Native.Nat.{ℕ, ◌+◌, ◌*◌, ◌≤◌, ◌<◌}
use mathlib.Core.Bool.{Bool}
use mathlib.Core.Path.{◌≡◌, sym, ◌∙◌, ap, subst}
use mathlib.Core.Logic.{◌⊎◌, inl, inr, ⊎_elim}
use mathlib.Core.List.{List}
use native.Mathlib.Omega.{arith}
use lib.ListN.{length, take}
use lib.Dec.{eqb}
use lib.Ieee.{Float}
use borrow.Author.Tests.{eq-eqb}
use Rattle.knots.specs.Refusal.{refuse, accepted, checked}
use Rattle.knots.specs.declared.refusal.Reason.TheVariants.{LengthBad}
use Rattle.knots.specs.Clear.{zeros}
use Rattle.knots.specs.Curve.{count_of, formed_refusal}
use Rattle.knots.specs.declared.refusal.Refusal.{Refusal}
use Rattle.knots.proofs.Refusals.{or_else-none, stopped_by, stop, refused}
use Rattle.runs.proofs.Cases.{lt-or-ge}
use Rattle.knots.specs.Shape.{room_refusal}
use Rattle.knots.proofs.Shapes.{room_open}
use Rattle.edits.specs.Rows.{given}
use Rattle.edits.specs.Start.{out_room}
use Rattle.edits.specs.Outcome.{Outcome, gives, refuses}
use Rattle.edits.specs.Work.{laid, work_room, lay_refusal, lay_outcome, refusal_of, work_in, take_refusal, front_refusal}
use Rattle.edits.specs.Passes.{CurveIn}
use Rattle.edits.proofs.Starting.{room-none, room-short, out-fits}
use Rattle.edits.proofs.RunWithCurve.{laid_in}

-- ---- 30
module _ (n m a l : ℕ) where
  pub work-short : (a < n * 4) ⊎ (l < a + m) → refuse LengthBad ≡ work_room n m a l
  unfolding work_room
  work-short (inl b) = simp (room-short a (n * 4) b)
  work-short (inr b) = ⊎_elim (λ (c : a < n * 4). simp (room-short a (n * 4) c)) (λ (c : n * 4 ≤ a). simp (room-none a (n * 4) c, room-short l (a + m) b)) (lt-or-ge a (n * 4))

  pub work-fits : n * 4 ≤ a → a + m ≤ l → accepted ≡ work_room n m a l
  unfolding work_room
  work-fits b c = simp (room-none a (n * 4) b, room-none l (a + m) c)

  pub work-open : (work_room n m a l).number ≡ 0 → (n * 4 ≤ a) × (a + m ≤ l)
  unfolding work_room
  work-open h = let u = or_else-none (room_refusal a (n * 4)) (room_refusal l (a + m)) h in (room_open a (n * 4) u.0, room_open l (a + m) u.1)

-- ---- an outcome and the run that it leaves
module _ (a : ℕ) (g : Bool) (d w₁ : List Float) where
  pub ends-refused : (goal : Outcome) (r : Refusal) → goal ≡ refuses r → (r.number ≡ 0 → ⊥) → w₁ ≡ zeros (length d) → (Err r ≡ checked (refusal_of goal)) × (w₁ ≡ work_in a g d goal)
  ends-refused goal r e n z = (refused r n ∙ ap (λ (o : Outcome). checked (refusal_of o)) (sym e), z ∙ ap (work_in a g d) (sym e))

  pub ends-formed : (goal : Outcome) (ks ps ws : List Float) → goal ≡ gives ks ps ws → w₁ ≡ laid a d ks ps g ws → (Ok tt ≡ checked (refusal_of goal)) × (w₁ ≡ work_in a g d goal)
  unfolding checked
  ends-formed goal ks ps ws e z = (ap (λ (o : Outcome). checked (refusal_of o)) (sym e), z ∙ ap (work_in a g d) (sym e))

-- ---- a curve is laid
module _ (ks ps : List Float) (g : Bool) (ws : List Float) (a l : ℕ) where
  pub lay-refuses : {r : Refusal} → Err r ≡ checked (lay_refusal ks ps g ws a l) → lay_outcome ks ps g ws a l ≡ refuses r
  unfolding lay_outcome
  lay-refuses {r} e = let s = (stopped_by _ e).0 in simp (stop _ e) (ap refuses (sym s))

  pub lay-gives : (lay_refusal ks ps g ws a l).number ≡ 0 → lay_outcome ks ps g ws a l ≡ gives ks ps ws
  unfolding lay_outcome
  lay-gives z = simp (eq-eqb (lay_refusal ks ps g ws a l).number 0 z)

  pub lay-open : (lay_refusal ks ps g ws a l).number ≡ 0 → (given g (count_of ps) ≤ length ws) × ((count_of ps * 4 ≤ a) × (a + length ks ≤ l))
  unfolding lay_refusal
  lay-open z =
      let u = or_else-none (room_refusal (length ws) (given g (count_of ps))) (work_room (count_of ps) (length ks) a l) z in
      let v = work-open (count_of ps) (length ks) a l u.1 in
      (room_open (length ws) (given g (count_of ps)) u.0, v)

  pub lay-fits : given g (count_of ps) ≤ length ws → count_of ps * 4 ≤ a → a + length ks ≤ l → lay_outcome ks ps g ws a l ≡ gives ks ps ws
  unfolding lay_refusal
  lay-fits w x y =
      lay-gives (simp (room-none (length ws) (given g (count_of ps)) w) (ap (λ (r : Refusal). r.number) (sym (work-fits (count_of ps) (length ks) a l x y))))

-- ---- a curve goes to outputs
module _ (p m f : ℕ) (g : Bool) (a l b c d : ℕ) where
  pub take_short : (a < (f + m) * 4) ⊎ (l < a + (f + m + p + 1)) → refuse LengthBad ≡ take_refusal p m f g a l b c d
  unfolding take_refusal
  take_short h = let e = work-short (f + m) (f + m + p + 1) a l h in simp (ap (λ (r : Refusal). eqb r.number 0) (sym e)) e

  pub take-fits : (f + m) * 4 ≤ a → a + (f + m + p + 1) ≤ l → out_room p m g b c d ≡ take_refusal p m f g a l b c d
  unfolding take_refusal
  take-fits x y = simp (ap (λ (r : Refusal). eqb r.number 0) (sym (work-fits (f + m) (f + m + p + 1) a l x y)))

  pub take_open : (take_refusal p m f g a l b c d).number ≡ 0 → ((f + m) * 4 ≤ a) × ((a + (f + m + p + 1) ≤ l) × ((out_room p m g b c d).number ≡ 0))
  unfolding take_refusal
  take_open h =
      let u = or_else-none (work_room (f + m) (f + m + p + 1) a l) (out_room p m g b c d) h in
      let v = work-open (f + m) (f + m + p + 1) a l u.0 in
      (v.0, (v.1, u.1))

-- ---- a curve at the front of three runs
module _ (p n : ℕ) (g : Bool) (ks ps ws : List Float) where
  pub front-is : n + p + 1 ≤ length ks → n * 3 ≤ length ps → given g n ≤ length ws → front_refusal p n g ks ps ws ≡ formed_refusal p n (take (n + p + 1) ks) (take (n * 3) ps) g (take (given g n) ws)
  unfolding front_refusal
  front-is x y z = simp (ap (λ (r : Refusal). eqb r.number 0) (sym (out-fits p n g (length ks) (length ps) (length ws) x y z)))

-- ---- where there is room
pub laid-curve : (ks ps : List Float) (g : Bool) (ws : List Float) (a l : ℕ) (w₀ : List Float) → length w₀ ≡ l → given g (count_of ps) ≤ length ws → count_of ps * 4 ≤ a → a + length ks ≤ l
    → (r : Result Unit Refusal) (w₁ : List Float) → r ≡ checked (refusal_of (lay_outcome ks ps g ws a l)) → w₁ ≡ work_in a g w₀ (lay_outcome ks ps g ws a l) → (r ≡ Ok tt) × CurveIn a ks ps g ws w₀ w₁
unfolding checked
laid-curve ks ps g ws a l w₀ L W A b r w₁ R Z =
    let o : lay_outcome ks ps g ws a l ≡ gives ks ps ws =
    lay-fits ks ps g ws a l W A b in (
      R ∙ ap (λ (o : Outcome). checked (refusal_of o)) o,
      subst (CurveIn a ks ps g ws w₀) (sym (Z ∙ ap (work_in a g w₀) o)) (laid_in a w₀ ks ps g ws A (omega arith)),
    )

pub take_none : (p m f : ℕ) (g : Bool) (a l b c d : ℕ) → (f + m) * 4 ≤ a → a + (f + m + p + 1) ≤ l → m + p + 1 ≤ b → m * 3 ≤ c → given g m ≤ d → (take_refusal p m f g a l b c d).number ≡ 0
take_none p m f g a l b c d x y u v w = ap (λ (z : Refusal). z.number) (sym (out-fits p m g b c d u v w ∙ take-fits p m f g a l b c d x y))
