-- What no refusal says before anything is formed, and the curve put into cleared runs.
-- Assumes nothing.
use Prim.Native.Nat.{ℕ, ◌+◌, ◌-◌, ◌*◌, ◌/◌, ◌≤◌, ◌<◌}
use mathlib.Core.Bool.{Bool, true, false, cond}
use mathlib.Core.Path.{◌≡◌, refl, sym, ◌∙◌, ap}
use mathlib.Core.List.{List, [], ◌∷◌}
use native.Mathlib.Omega.{arith}
use borrow.Author.Tests.{lt-ltb, le-ltb}
use lib.ListN.{length, take, drop, length-drop}
use lib.Ieee.{Float}
use Rattle.doubles.specs.Run.{at}
use Rattle.knots.specs.Refusal.{refuse, accepted}
use Rattle.knots.specs.declared.refusal.Reason.TheVariants.{LengthBad, EndsUnclamped}
use Rattle.knots.specs.Curve.{count_of, curve_refusal, ValidCurve}
use Rattle.knots.proofs.Refusals.{or_else-none}
use Rattle.knots.proofs.Curves.{valid-curve}
use Rattle.knots.specs.Shape.{room_refusal}
use Rattle.knots.proofs.Shapes.{room_open}
use Rattle.edits.specs.Counts.{all_equal}
use Rattle.edits.specs.Rows.{given}
use Rattle.edits.specs.Start.{clamped_ends, edit_start, out_room, scratch_room}

-- ---- the whole of a run, and of what is left of it
take_all : (xs : List Float) → take (length xs) xs ≡ xs
take_all [] = refl
take_all (x ∷ xs) = ap (λ (t : List Float). x ∷ t) (take_all xs)

pub rest_all : (n : ℕ) (xs : List Float) → take (length xs - n) (drop n xs) ≡ drop n xs
rest_all n xs = ap (λ (i : ℕ). take i (drop n xs)) (sym (length-drop n xs)) ∙ take_all (drop n xs)

-- ---- clamped ends
module _ (p n : ℕ) (ks : List Float) where
  pub clamped-no : all_equal (take (p + 1) ks) (at ks p) ≡ false → false ≡ clamped_ends p n ks
  unfolding clamped_ends
  clamped-no e = simp e

  pub clamped-rest : all_equal (take (p + 1) ks) (at ks p) ≡ true → (r : Bool) → r ≡ all_equal (take (length ks - n) (drop n ks)) (at ks n) → r ≡ clamped_ends p n ks
  unfolding clamped_ends
  clamped-rest e r h = simp e (h ∙ ap (λ (xs : List Float). all_equal xs (at ks n)) (rest_all n ks))

-- ---- 17, and 30 with no sum formed
module _ (p : ℕ) (ks ps : List Float) (g : Bool) (ws : List Float) where
  -- a curve that may be edited
  pub edit-open : (edit_start p ks ps g ws).number ≡ 0 → ValidCurve p ks ps g ws × (clamped_ends p (count_of ps) ks ≡ true)
  unfolding edit_start
  edit-open h =
      let y = or_else-none (curve_refusal p ks ps g ws) _ h in
      (valid-curve p ks ps g ws y.0, clamped (clamped_ends p (count_of ps) ks) y.1)
    where
      clamped : (b : Bool) → (cond b accepted (refuse EndsUnclamped)).number ≡ 0 → b ≡ true
      clamped true e = refl
      clamped false e = absurd (omega arith)

pub room-none : (a n : ℕ) → n ≤ a → room_refusal a n ≡ accepted
unfolding room_refusal
room-none a n l = simp (le-ltb a n l)

pub room-short : (a n : ℕ) → a < n → room_refusal a n ≡ refuse LengthBad
unfolding room_refusal
room-short a n l = simp (lt-ltb a n l)

module _ (p n : ℕ) (g : Bool) (a b c : ℕ) where
  pub out-knots : a < n + p + 1 → refuse LengthBad ≡ out_room p n g a b c
  unfolding out_room
  out-knots l = simp (room-short a (n + p + 1) l)

  pub out-points : n + p + 1 ≤ a → b < n * 3 → refuse LengthBad ≡ out_room p n g a b c
  unfolding out_room
  out-points k l = simp (room-none a (n + p + 1) k, room-short b (n * 3) l)

  pub out-weights : n + p + 1 ≤ a → n * 3 ≤ b → room_refusal c (given g n) ≡ out_room p n g a b c
  unfolding out_room
  out-weights k l = simp (room-none a (n + p + 1) k, room-none b (n * 3) l)

module _ (p n d : ℕ) where
  pub scratch-short : d < 10 * n + 2 * (p + 1) → refuse LengthBad ≡ scratch_room p n d
  unfolding scratch_room
  scratch-short l = sym (room-short d (10 * n + 2 * (p + 1)) l)

  pub scratch-fits : 10 * n + 2 * (p + 1) ≤ d → accepted ≡ scratch_room p n d
  unfolding scratch_room
  scratch-fits l = sym (room-none d (10 * n + 2 * (p + 1)) l)

-- what they leave open
pub record OutOpen (p n : ℕ) (g : Bool) (a b c : ℕ) : Type 0 where
  pub knots : n + p + 1 ≤ a
  pub points : n * 3 ≤ b
  pub weights : given g n ≤ c

pub out-open : (p n : ℕ) (g : Bool) (a b c : ℕ) → (out_room p n g a b c).number ≡ 0 → OutOpen p n g a b c
unfolding out_room
out-open p n g a b c h =
    let u = or_else-none (room_refusal a (n + p + 1)) _ h in
    let v = or_else-none (room_refusal b (n * 3)) (room_refusal c (given g n)) u.1 in
    record { knots = room_open a (n + p + 1) u.0; points = room_open b (n * 3) v.0; weights = room_open c (given g n) v.1 }

pub scratch-open : (p n d : ℕ) → (scratch_room p n d).number ≡ 0 → 10 * n + 2 * (p + 1) ≤ d
unfolding scratch_room
scratch-open p n d h = room_open d (10 * n + 2 * (p + 1)) h

pub thirds : {m : ℕ} → m ≡ 3 * (m / 3) → m ≡ m / 3 * 3
thirds e = omega arith

pub out-fits : (p n : ℕ) (g : Bool) (a b c : ℕ) → n + p + 1 ≤ a → n * 3 ≤ b → given g n ≤ c → accepted ≡ out_room p n g a b c
unfolding out_room
out-fits p n g a b c x y z = simp (room-none a (n + p + 1) x, room-none b (n * 3) y, room-none c (given g n) z)
