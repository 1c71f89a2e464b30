-- Points are finite where their coordinates are, and the first that is not has the first coordinate that is not.
-- Assumes nothing.
use Prim.Native.Nat.{ℕ, zero, suc, ◌+◌, ◌*◌, ◌/◌, ◌%◌, ◌<◌}
use mathlib.Core.Bool.{Bool, true, false}
use mathlib.Core.Path.{◌≡◌, refl, sym, ◌∙◌, ap, ap₂}
use mathlib.Core.List.{List}
use native.Mathlib.Omega.{arith}
use lib.ListN.{length}
use lib.Ieee.{Float}
use lib.Ieee.Scale.{finite}
use Rattle.doubles.specs.Run.{at}
use Rattle.knots.specs.Below.{all_below, off_at}
use Rattle.knots.specs.Knots.{all_finite, non_finite_at}
use Rattle.knots.proofs.Below.{and-true, and_left, and_right, all-at, all_in, off-all, off-stops, first_off}
use Rattle.runs.specs.Tabulate.{tabulate}
use Rattle.runs.proofs.Tabulated.{length-tabulate, at-tabulate}
use Rattle.runs.specs.Point.{finite_vector}
use Rattle.runs.specs.declared.vector.Vector.{Vector}
use Rattle.edits.specs.Control.{lower_of}
use Rattle.edits.specs.Rows.{axis, lower_at}
use Rattle.edits.specs.declared.control.Control.{Control}

agree : (a b : Bool) → (a ≡ true → b ≡ true) → (b ≡ true → a ≡ true) → a ≡ b
agree true b f h = sym (f refl)
agree false true f h = h refl
agree false false f h = refl

-- ---- a test h of each of m places that is a test f of its three
module _ (f h : ℕ → Bool) (m : ℕ) (up : (i j : ℕ) → i < m → j / 3 ≡ i → h i ≡ true → f j ≡ true) (down : (i : ℕ) → i < m → ((j : ℕ) → j / 3 ≡ i → f j ≡ true) → h i ≡ true) where
  thirds-all : all_below f (m * 3) ≡ all_below h m
  thirds-all =
      agree _ _ (λ e. all_in h m (λ i l. down i l (λ j q. all-at f (m * 3) e j (omega arith))))
      (λ e. all_in f (m * 3) (λ j l. up (j / 3) j (omega arith) refl (all-at h m e (j / 3) (omega arith))))

  fails : (j : ℕ) → j / 3 < m → f j ≡ false → (t : Bool) → h (j / 3) ≡ t → t ≡ false
  fails j l e true H = sym (up (j / 3) j l refl H) ∙ e
  fails j l e false H = refl

  thirds-off : off_at f (m * 3) / 3 ≡ off_at h m
  thirds-off = go (all_below f (m * 3)) refl
    where
      go : (t : Bool) → all_below f (m * 3) ≡ t → off_at f (m * 3) / 3 ≡ off_at h m
      go true F =
          let whole : m * 3 / 3 ≡ m = omega arith in
          ap (λ (k : ℕ). k / 3) (off-all f (m * 3) F) ∙ (whole ∙ sym (off-all h m (sym thirds-all ∙ F)))
      go false F =
          let r = first_off f (m * 3) F in
          let j = off_at f (m * 3) in
          let l : j / 3 < m = omega (arith, r.0) in
          sym (off-stops h m (j / 3) l (all_in h (j / 3) (λ i k. down i (omega arith) (λ n q. r.2 n (omega arith)))) (fails j l r.1 (h (j / 3)) refl))

axis-finite : (v : Vector) (r : ℕ) → finite_vector v ≡ true → finite (axis r v) ≡ true
unfolding finite_vector
axis-finite v zero h = and_left (finite v.x) _ h
axis-finite v (suc zero) h = and_left (finite v.y) _ (and_right (finite v.x) _ h)
axis-finite v (suc (suc r)) h = and_right (finite v.y) _ (and_right (finite v.x) _ h)

pub lower-is : (o : Vector) (h : ℕ → Control) (k r i : ℕ) → i / 3 ≡ k → i % 3 ≡ r → axis r (lower_of o (h k)) ≡ lower_at o h i
unfolding lower_at
lower-is o h k r i K R = ap₂ (λ (x y : ℕ). axis y (lower_of o (h x))) (sym K) (sym R)

-- ---- m points in a run, x, y, z of each
module _ (o : Vector) (h : ℕ → Control) (m : ℕ) where
  abbrev run : List Float
  run = tabulate (m * 3) (lower_at o h)

  abbrev sound : ℕ → Bool
  sound i = finite_vector (lower_of o (h i))

  one : (i r j : ℕ) → i < m → r < 3 → j ≡ i * 3 + r → finite (axis r (lower_of o (h i))) ≡ finite (at run j)
  one i r j l b J = ap finite (lower-is o h i r j (omega arith) (omega arith) ∙ sym (at-tabulate (m * 3) (lower_at o h) j (omega arith)))

  up : (i j : ℕ) → i < m → j / 3 ≡ i → sound i ≡ true → finite (at run j) ≡ true
  up i j l e H = sym (one i (j % 3) j l (omega arith) (omega arith)) ∙ axis-finite (lower_of o (h i)) (j % 3) H

  down : (i : ℕ) → i < m → ((j : ℕ) → j / 3 ≡ i → finite (at run j) ≡ true) → sound i ≡ true
  unfolding finite_vector
  down i l F = and-true _ _ (each 0 (omega arith)) (and-true _ _ (each 1 (omega arith)) (each 2 (omega arith)))
    where
      each : (r : ℕ) → r < 3 → finite (axis r (lower_of o (h i))) ≡ true
      each r b = one i r (i * 3 + r) l b refl ∙ F (i * 3 + r) (omega arith)

  long : length run ≡ m * 3
  long = length-tabulate (m * 3) (lower_at o h)

  pub points-finite : all_finite run ≡ all_below sound m
  unfolding all_finite
  points-finite = ap (all_below (λ j. finite (at run j))) long ∙ thirds-all (λ j. finite (at run j)) sound m up down

  pub points-place : non_finite_at run / 3 ≡ off_at sound m
  points-place = ap (λ (n : ℕ). off_at (λ j. finite (at run j)) n / 3) long ∙ thirds-off (λ j. finite (at run j)) sound m up down
