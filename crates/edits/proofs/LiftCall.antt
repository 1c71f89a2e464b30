-- Rows that become controls: the refusals of the call, and what it leaves.
-- Assumes nothing.
use Prim.Native.Nat.{ℕ, ◌+◌, ◌*◌, ◌/◌, ◌%◌, ◌≤◌, ◌<◌}
use mathlib.Core.Bool.{Bool, true, false, cond}
use mathlib.Core.Path.{◌≡◌, refl, sym, ◌∙◌, ap, ap₂, subst}
use mathlib.Core.Logic.{inl, inr, ⊎_elim}
use mathlib.Core.List.{List}
use native.Mathlib.Omega.{arith}
use borrow.Author.Tests.{lt-ltb, le-ltb, eq-eqb, ne_eqb, eqb-true, eqb-false}
use lib.ListN.{length}
use lib.Seq.{ext_get_or}
use lib.Dec.{eqb}
use lib.Ieee.{Float, nan}
use Rattle.doubles.specs.Run.{at}
use Rattle.doubles.specs.Value.{one+}
use Rattle.knots.specs.Below.{all_below}
use Rattle.knots.specs.Refusal.{refuse, accepted}
use Rattle.knots.specs.declared.refusal.Reason.TheVariants.{LengthBad, ControlBad}
use Rattle.knots.specs.Clear.{zeros}
use Rattle.knots.specs.declared.refusal.Refusal.{Refusal}
use Rattle.runs.specs.Tabulate.{tabulate}
use Rattle.runs.proofs.Tabulated.{length-tabulate, at-tabulate}
use Rattle.runs.proofs.Cases.{lt-or-ge}
use Rattle.runs.specs.declared.vector.Vector.{Vector}
use Rattle.edits.specs.Control.{vector_of, is_lifted}
use Rattle.edits.specs.Rows.{axis, lift_at}
use Rattle.edits.specs.Work.{points_from, weights_from, controls, lift_refusal, control_at, lifted_run}
use Rattle.edits.specs.Passes.{row_of, Untouched, LiftDone}
use Rattle.runs.proofs.Outside.{at_out}
use Rattle.edits.proofs.LiftLoop.{lift-stored}
use Rattle.edits.proofs.RowStores.{control-is}
use Rattle.edits.specs.declared.control.Control.{Control}
use Rattle.edits.proofs.RowReads.{row-axis, row-point}
use Rattle.edits.proofs.Starting.{room-none, room-short}

module _ (m : Float) (n : ℕ) (g : Bool) (xs : List Float) where
  pub lift-short : length xs < n * 4 → refuse LengthBad ≡ lift_refusal m n g xs
  unfolding lift_refusal
  lift-short b = simp (room-short (length xs) (n * 4) b)

  lift-late : n * 4 ≤ length xs → cond (all_below (λ i. is_lifted (controls m n g xs i)) n) accepted (refuse ControlBad) ≡ lift_refusal m n g xs
  unfolding lift_refusal
  lift-late b = simp (room-none (length xs) (n * 4) b)

  pub lift-zeros : (r : Refusal) → r ≡ lift_refusal m n g xs → (r.number ≡ 0 → ⊥) → (w₁ : List Float) → w₁ ≡ zeros (length xs) → w₁ ≡ lifted_run m n g xs
  unfolding lifted_run
  lift-zeros r e h w₁ W = simp (ne_eqb (lift_refusal m n g xs).number 0 (λ z. h (ap (λ (x : Refusal). x.number) e ∙ z))) W

  module _ (b : n * 4 ≤ length xs) (w₁ : List Float) (x : Bool) (D : LiftDone g (controls m n g xs) n xs w₁ x) where
    pub lift-19 : x ≡ false → refuse ControlBad ≡ lift_refusal m n g xs
    lift-19 e = ap (λ (y : Bool). cond y accepted (refuse ControlBad)) (sym e ∙ D.answer) ∙ lift-late b

    pub lift-none : x ≡ true → accepted ≡ lift_refusal m n g xs
    lift-none e = ap (λ (y : Bool). cond y accepted (refuse ControlBad)) (sym e ∙ D.answer) ∙ lift-late b

    lifted-at : x ≡ true → (j : ℕ) → j < length xs → at w₁ j ≡ control_at m n g xs j
    unfolding control_at
    lifted-at e j l = ⊎_elim (λ (u : j < n * 4). number u (eqb (j % 4) 3) refl ∙ simp (lt-ltb j (n * 4) u)) (λ (u : n * 4 ≤ j). D.rest j (inl u) ∙ simp (le-ltb j (n * 4) u)) (lt-or-ge j (n * 4))
      where
        H : ℕ → Control
        H = controls m n g xs

        weight : (c : Bool) → c ≡ g → j < n * 4 → j % 4 ≡ 3 → at w₁ j ≡ cond c (H (j / 4)).w (at xs j)
        weight true f u v =
            let z : j ≡ j / 4 * 4 + 3 = omega arith in
            ap (at w₁) z ∙ (ap (λ (c : Bool). cond c (at w₁ (j / 4 * 4 + 3)) one+) f ∙ ap (λ (q : Control). q.w) (D.rows e (j / 4) (omega arith)))
        weight false f u v = D.rest j (inr (sym f, v))

        number : j < n * 4 → (c : Bool) → eqb (j % 4) 3 ≡ c → at w₁ j ≡ cond (eqb (j % 4) 3) (cond g (H (j / 4)).w (at xs j)) (axis (j % 4) (vector_of (H (j / 4))))
        number u true f = simp f (weight g refl u (eqb-true (j % 4) 3 f))
        number u false f =
            let z : j ≡ j / 4 * 4 + j % 4 = omega arith in
            simp f (ap (at w₁) z ∙ (row-axis g n w₁ (j / 4) (j % 4) (few (eqb-false (j % 4) 3 f)) ∙ ap (λ (q : Control). axis (j % 4) (vector_of q)) (D.rows e (j / 4) (omega arith))))
          where
            few : (j % 4 ≡ 3 → ⊥) → j % 4 < 3
            few h = ⊎_elim (λ (y : j % 4 < 3). y) (λ (y : 3 ≤ j % 4). absurd (h (omega arith))) (lt-or-ge (j % 4) 3)

    pub lift-run : x ≡ true → length w₁ ≡ length xs → w₁ ≡ lifted_run m n g xs
    unfolding lifted_run
    lift-run e L =
        let z : (lift_refusal m n g xs).number ≡ 0 = ap (λ (r : Refusal). r.number) (sym (lift-none e)) in
        simp (eq-eqb (lift_refusal m n g xs).number 0 z)
        (ext_get_or nan w₁ (tabulate (length xs) (control_at m n g xs)) (L ∙ sym (length-tabulate (length xs) (control_at m n g xs)))
        (λ j c. let C : j < length xs = omega arith in lifted-at e j C ∙ sym (at-tabulate (length xs) (control_at m n g xs) j C)))

  -- relative to the first point, however it is read
  pub lift-moved : (o : Vector) (w₁ : List Float) (x : Bool) → 0 < n → o ≡ vector_of (row_of g xs 0) → LiftDone g (lift_at m o (points_from n xs) g (weights_from g n xs)) n xs w₁ x
      → LiftDone g (controls m n g xs) n xs w₁ x
  lift-moved o w₁ x l O D = subst (λ (v : Vector). LiftDone g (lift_at m v (points_from n xs) g (weights_from g n xs)) n xs w₁ x) (O ∙ sym (row-point g n xs 0 l)) D

-- no rows: nothing is done
pub lift-empty : (m : Float) (g : Bool) (xs : List Float) → LiftDone g (controls m 0 g xs) 0 xs xs true
unfolding all_below
lift-empty m g xs = record { answer = refl; rows = λ e i l. absurd (omega arith); rest = λ j u. refl }

pub positive : {n : ℕ} → (n ≡ 0 → ⊥) → 0 < n
positive {n} h = ⊎_elim (λ (l : 0 < n). l) (λ (l : n ≤ 0). absurd (h (omega arith))) (lt-or-ge 0 n)

pub lift-none-at : (m : Float) (n : ℕ) (g : Bool) (xs : List Float) → n ≡ 0 → (accepted ≡ lift_refusal m n g xs) × (xs ≡ lifted_run m n g xs)
lift-none-at m n g xs e =
    let D : LiftDone g (controls m n g xs) n xs xs true = subst (λ (k : ℕ). LiftDone g (controls m k g xs) k xs xs true) (sym e) (lift-empty m g xs) in
    (lift-none m n g xs (omega arith) xs true D refl, lift-run m n g xs (omega arith) xs true D refl refl)

-- ---- what the call says of each control
module _ (m : Float) (n : ℕ) (g : Bool) (xs : List Float) (b : n * 4 ≤ length xs) where
  abbrev all : Bool
  all = all_below (λ i. is_lifted (controls m n g xs i)) n

  by_all : (c : Bool) → all ≡ c → lift_refusal m n g xs ≡ cond c accepted (refuse ControlBad)
  by_all c e = sym (lift-late m n g xs b) ∙ ap (λ (y : Bool). cond y accepted (refuse ControlBad)) e

  pub lifted-bad : ((lift_refusal m n g xs).number ≡ 0 → ⊥) → (lift_refusal m n g xs ≡ refuse ControlBad) × (all ≡ false)
  lifted-bad h = go all refl
    where
      go : (c : Bool) → all ≡ c → (lift_refusal m n g xs ≡ refuse ControlBad) × (all ≡ false)
      go true e = absurd (h (ap (λ (x : Refusal). x.number) (by_all true e)))
      go false e = (by_all false e, e)

  lifted-all : (lift_refusal m n g xs).number ≡ 0 → all ≡ true
  lifted-all z = go all refl
    where
      go : (c : Bool) → all ≡ c → all ≡ true
      go true e = e
      go false e = let q : ◌≡◌ {A = ℕ} 19 0 = sym (ap (λ (x : Refusal). x.number) (by_all false e)) ∙ z in absurd (omega arith)

  module _ (z : (lift_refusal m n g xs).number ≡ 0) (w₁ : List Float) (W : w₁ ≡ lifted_run m n g xs) where
    run_is : w₁ ≡ tabulate (length xs) (control_at m n g xs)
    unfolding lifted_run
    run_is = W ∙ simp (eq-eqb (lift_refusal m n g xs).number 0 z)

    at-is : (j : ℕ) → j < length xs → at w₁ j ≡ control_at m n g xs j
    at-is j l = ap (λ (l : List Float). at l j) run_is ∙ at-tabulate (length xs) (control_at m n g xs) j l

    axis-is : (i c : ℕ) → i < n → c < 3 → at w₁ (i * 4 + c) ≡ axis c (vector_of (controls m n g xs i))
    unfolding control_at
    axis-is i c l k =
        let d : (i * 4 + c) / 4 ≡ i = omega arith in
        let e : (i * 4 + c) % 4 ≡ c = omega arith in
        at-is (i * 4 + c) (omega arith)
        ∙ (simp (lt-ltb (i * 4 + c) (n * 4) (omega arith), ne_eqb ((i * 4 + c) % 4) 3 (λ q. omega arith)) (ap₂ (λ (y x : ℕ). axis x (vector_of (controls m n g xs y))) d e))

    weight_is : (c : Bool) → c ≡ g → (i : ℕ) → i < n → cond c (at w₁ (i * 4 + 3)) one+ ≡ cond c (controls m n g xs i).w one+
    unfolding control_at
    weight_is true f i l =
        let d : (i * 4 + 3) / 4 ≡ i = omega arith in
        at-is (i * 4 + 3) (omega arith)
        ∙ (simp
        (lt-ltb (i * 4 + 3) (n * 4) (omega arith), eq-eqb ((i * 4 + 3) % 4) 3 (omega arith))
        (ap (λ (y : Bool). cond y (controls m n g xs ((i * 4 + 3) / 4)).w (at xs (i * 4 + 3))) (sym f) ∙ ap (λ (y : ℕ). (controls m n g xs y).w) d))
    weight_is false f i l = refl

    others : (j : ℕ) → Untouched g n j → at w₁ j ≡ at xs j
    unfolding control_at
    others j u = ⊎_elim (λ (l : j < length xs). at-is j l ∙ go l u) (λ (l : length xs ≤ j). out w₁ (ap length run_is ∙ length-tabulate (length xs) _) l ∙ sym (out xs refl l)) (lt-or-ge j (length xs))
      where
        out : (ys : List Float) → length ys ≡ length xs → length xs ≤ j → at ys j ≡ nan
        out ys e l = at_out ys j (omega arith)

        go : j < length xs → Untouched g n j → control_at m n g xs j ≡ at xs j
        go l (inl k) = simp (le-ltb j (n * 4) k)
        go l (inr k) = ⊎_elim (λ (h : j < n * 4). simp (lt-ltb j (n * 4) h, eq-eqb (j % 4) 3 k.1, k.0)) (λ (h : n * 4 ≤ j). simp (le-ltb j (n * 4) h)) (lt-or-ge j (n * 4))

    pub lifted-done : LiftDone g (controls m n g xs) n xs w₁ true
    lifted-done = record {
      answer = sym (lifted-all z);
      rows = λ e i l.
          let z4 : i * 4 + 0 ≡ i * 4 = omega arith in
          control-is _ _ _ _ (controls m n g xs i).x (controls m n g xs i).y (controls m n g xs i).z (cond g (controls m n g xs i).w one+)
          (ap (at w₁) (sym z4) ∙ axis-is i 0 l (omega arith)) (axis-is i 1 l (omega arith)) (axis-is i 2 l (omega arith)) (weight_is g refl i l)
          ∙ lift-stored m _ (points_from n xs) g (weights_from g n xs) i;
      rest = others;
    }
