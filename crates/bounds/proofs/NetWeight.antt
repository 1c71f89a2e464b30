-- The least and the largest weight of a net, row by row. Assumes nothing.
use mathlib.Core.Path.{◌≡◌, sym, subst}
use mathlib.Core.Bool.{false}
use mathlib.Core.Logic.{inl, inr}
use Prim.Native.Nat.{ℕ, zero, suc, ◌<◌}
use native.Mathlib.Nat.{eq-or-lt_of_le, le_of_suc-le-suc}
use native.Mathlib.Omega.{arith}
use lib.Dec.{T}
use lib.Ieee.{Float, inf}
use lib.Ieee.Scale.{finite}
use Rattle.doubles.specs.Value.{val}
use Rattle.exact.proofs.Field.{≤_trans}
use Rattle.exact.specs.Rational.{q0, ◌≤q◌, ◌<q◌}
use Rattle.bounds.specs.Start.{max_from, min_from}
use Rattle.bounds.specs.Surface.{max_rows, min_rows}
use Rattle.bounds.proofs.WeightIn.{max-from, min-from, least}

pub record Largest₂ (w : ℕ → ℕ → Float) (k m : ℕ) (x : Float) : Type 0 where
  pub held : T (finite x)
  pub all : (i j : ℕ) → i < m → j < k → val (w i j) ≤q val x

pub record Least₂ (w : ℕ → ℕ → Float) (k m : ℕ) (x : Float) : Type 0 where
  pub held : T (finite x)
  pub all : (i j : ℕ) → i < m → j < k → val x ≤q val (w i j)
  pub positive : q0 <q val x

pub largest₂ : (w : ℕ → ℕ → Float) (k m : ℕ) → ((i j : ℕ) → i < m → j < k → T (finite (w i j))) → Largest₂ w k m (max_rows w k m)
unfolding max_rows
largest₂ w k zero f = record { held = tt; all = λ i j l h. absurd (omega arith) }
largest₂ w k (suc m) f = go (largest₂ w k m (λ i j l h. f i j (omega arith) h))
  where
    go : Largest₂ w k m (max_rows w k m) → Largest₂ w k (suc m) (max_from (max_rows w k m) (w m) k)
    go r =
        let x = max-from (max_rows w k m) (w m) k r.held (λ j l. f m j (omega arith) l) in
        record {
          held = x.held;
          all =
              λ i j l h. elim (eq-or-lt_of_le (le_of_suc-le-suc l))
              [ inl e ↦ subst (λ a. val (w a j) ≤q val (max_from (max_rows w k m) (w m) k)) (sym e) (x.all j h) | inr g ↦ ≤_trans (r.all i j g h) x.first ];
        }

pub least₂ : (w : ℕ → ℕ → Float) (k m : ℕ) → ((i j : ℕ) → i < suc m → j < suc k → T (finite (w i j))) → ((i j : ℕ) → i < suc m → j < suc k → q0 <q val (w i j))
    → Least₂ w (suc k) (suc m) (min_rows w (suc k) (suc m))
unfolding min_rows
least₂ w k zero f p =
    let x = least (w 0) k (λ j l. f 0 j (omega arith) l) (λ j l. p 0 j (omega arith) l) in
    record {
      held = x.held;
      all = λ i j l h. let e : 0 ≡ i = omega arith in subst (λ a. val (min_from (inf false) (w 0) (suc k)) ≤q val (w a j)) e (x.all j h);
      positive = x.positive;
    }
least₂ w k (suc m) f p = go (least₂ w k m (λ i j l h. f i j (omega arith) h) (λ i j l h. p i j (omega arith) h))
  where
    go : Least₂ w (suc k) (suc m) (min_rows w (suc k) (suc m)) → Least₂ w (suc k) (suc (suc m)) (min_from (min_rows w (suc k) (suc m)) (w (suc m)) (suc k))
    go r =
        let x = min-from (min_rows w (suc k) (suc m)) (w (suc m)) (suc k) r.held (λ j l. f (suc m) j (omega arith) l) (λ j l. p (suc m) j (omega arith) l) in
        record {
          held = x.held;
          all =
              λ i j l h. elim (eq-or-lt_of_le (le_of_suc-le-suc l))
              [ inl e ↦ subst (λ a. val (min_from (min_rows w (suc k) (suc m)) (w (suc m)) (suc k)) ≤q val (w a j)) (sym e) (x.all j h) | inr g ↦ ≤_trans x.first (r.all i j g h) ];
          positive = x.positive r.positive;
        }
