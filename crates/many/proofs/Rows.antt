-- Rows stored one after the other at the front of a run, at any type: each turn of a loop stores one more.
-- Assumes nothing.
use Rattle.std.specs.Prelude.{Ok, Err}
use Prim.Native.Nat.{ℕ, ◌+◌, ◌-◌, ◌*◌, ◌≤◌}
use mathlib.Core.Bool.{Bool}
use mathlib.Core.Path.{◌≡◌, refl, sym, ◌∙◌, ap, ap₂}
use mathlib.Core.List.{List, [], ◌∷◌, ◌++◌, append_assoc, append-nil}
use native.Mathlib.Omega.{arith}
use native.Mathlib.Nat.{mul-le-mul}
use lib.ListN.{length, take, drop, replicate, length-append}
use lib.Seq.{sets, sets-eq, length-sets, take_at, drop-append-add, drop-drop}
use Rattle.knots.specs.declared.refusal.Refusal.{Refusal}
use Rattle.knots.proofs.Fill.{drop-replicate}
use borrow.Author.Tests.{eq-eqb}
use Rattle.knots.specs.Refusal.{checked}
use Rattle.knots.proofs.Refusals.{stop, stopped_by, or_else-none}
use lib.Ieee.{Float}
use Rattle.doubles.specs.Value.{zero+}
use Rattle.knots.specs.Clear.{zeros}
use Rattle.knots.specs.Curve.{curve_refusal, ValidCurve}
use Rattle.knots.proofs.Curves.{valid-curve}
use Rattle.knots.specs.Shape.{degree_refusal, room_refusal}
use Rattle.knots.proofs.Shapes.{room_open}
use Rattle.many.specs.Rows.{rows_by, left, RowsMeet}
use Rattle.many.specs.Start.{table_refusal, rooms_refusal}

module _ {X Y : Type 0} (f : X → List Y) where
  rows_snoc : (xs : List X) (x : X) → rows_by f (xs ++ x ∷ []) ≡ rows_by f xs ++ f x
  unfolding rows_by
  rows_snoc [] x = append-nil (f x)
  rows_snoc (y ∷ xs) x = ap (λ (l : List Y). f y ++ l) (rows_snoc xs x) ∙ sym (append_assoc (f y) (rows_by f xs) (f x))

  pub length-rows : (w : ℕ) → ((x : X) → length (f x) ≡ w) → (xs : List X) → length (rows_by f xs) ≡ length xs * w
  unfolding rows_by
  length-rows w e [] = omega arith
  length-rows w e (x ∷ xs) =
      let h : length (f x) ≡ w = e x in
      let t = length-rows w e xs in
      length-append (f x) (rows_by f xs) ∙ (ap₂ (λ (a b : ℕ). a + b) h t ∙ omega arith)

-- the rows of xs, each of w, stand before place k, and behind them the run is as it was
pub record InRows {X Y : Type 0} (f : X → List Y) (w : ℕ) (d : List Y) (xs : List X) (k : ℕ) (now : List Y) : Type 0 where
  pub place : k ≡ length xs * w
  pub long : length now ≡ length d
  pub front : now ≡ rows_by f xs ++ drop k d

module _ {X Y : Type 0} (f : X → List Y) (w : ℕ) (fits : (x : X) → length (f x) ≡ w) (d : List Y) where
  pub in_start : InRows f w d [] 0 d
  unfolding rows_by
  in_start = record { place = omega arith; long = refl; front = refl }

  pub in-more : (xs ys : List X) (x : X) (k j : ℕ) (now v : List Y) → InRows f w d xs k now → v ≡ f x → k + w ≤ length d → j ≡ k + w → ys ≡ xs ++ x ∷ [] → InRows f w d ys j (sets now k v)
  in-more xs ys x k j now v I e l q s =
      record {
        place = q ∙ (ap (λ (a : ℕ). a + w) I.place ∙ (sym grown ∙ ap (λ (l : List X). length l * w) (sym s)));
        long = length-sets now k v ∙ I.long;
        front =
            sets-eq v now k room
            ∙ (ap₂ (λ (a b : List Y). (a ++ v) ++ b) before behind
            ∙ (ap (λ (a : List Y). (rows_by f xs ++ a) ++ drop j d) e
            ∙ (ap (λ (a : List Y). a ++ drop j d) (sym (rows_snoc f xs x))
            ∙ ap (λ (l : List X). rows_by f l ++ drop j d) (sym s))));
      }
    where
      grown : length (xs ++ x ∷ []) * w ≡ length xs * w + w
      grown = ap (λ (a : ℕ). a * w) (length-append xs (x ∷ [])) ∙ omega arith

      wide : length v ≡ w
      wide = ap length e ∙ fits x

      front_long : length (rows_by f xs) ≡ k
      front_long = length-rows f w fits xs ∙ sym I.place

      room : k + length v ≤ length now
      room = let a = I.long in omega (arith, a, wide, l)

      before : take k now ≡ rows_by f xs
      before = ap (take k) I.front ∙ take_at (rows_by f xs) (drop k d) k front_long

      behind : drop (k + length v) now ≡ drop j d
      behind =
          let h : k + length v ≡ length (rows_by f xs) + w = omega (arith, wide, front_long) in
          ap₂ (λ (a : ℕ) (b : List Y). drop a b) h I.front
          ∙ (drop-append-add (rows_by f xs) (drop k d) w ∙ (drop-drop w k d ∙ ap (λ (a : ℕ). drop a d) (sym q)))

  -- what is left of a run that was cleared before
  pub in_end : (xs : List X) (k : ℕ) (now : List Y) (z : Y) (n : ℕ) (r : Refusal) → k ≡ length xs * w → now ≡ rows_by f xs ++ drop k d → d ≡ replicate n z → r.number ≡ 0
      → now ≡ left z r n (rows_by f xs)
  unfolding left
  in_end xs k now z n r p e c h =
      let m : length (rows_by f xs) ≡ k = length-rows f w fits xs ∙ sym p in
      simp (eq-eqb r.number 0 h) (e ∙ ap (λ (l : List Y). rows_by f xs ++ l) (ap (drop k) c ∙ (drop-replicate k n z ∙ ap (λ (a : ℕ). replicate (n - a) z) (sym m))))

-- ---- the whole call: both runs were cleared before, so their lengths are a and b
module _ {X : Type 0} (f : X → List ℕ) (u : ℕ) (fits : (x : X) → length (f x) ≡ u) (h : X → List Float) (w : ℕ) (fits' : (x : X) → length (h x) ≡ w) (xs : List X)
    (a b : ℕ) (n₀ : List ℕ) (r₀ : List Float) (cn : n₀ ≡ replicate a 0) (cr : r₀ ≡ zeros b) (s : Refusal) where
  pub meets-refused : (r : Refusal) → Err r ≡ checked s → RowsMeet s xs f h a b n₀ r₀ (Err r)
  unfolding left
  meets-refused r e = let n = stop s e in record {
    answered = simp n (ap Err (stopped_by s e).0);
    numbers = simp n cn;
    rows = simp n cr;
  }

  pub meets-answered : s.number ≡ 0 → (m k j : ℕ) (n₁ : List ℕ) (r₁ : List Float) → m ≡ length xs → k ≡ length xs * u → j ≡ length xs * w
      → n₁ ≡ rows_by f xs ++ drop k n₀ → r₁ ≡ rows_by h xs ++ drop j r₀ → RowsMeet s xs f h a b n₁ r₁ (Ok m)
  meets-answered q m k j n₁ r₁ em ek ej en er = record {
    answered = simp (eq-eqb s.number 0 q) (ap Ok em);
    numbers = in_end f u fits n₀ xs k n₁ 0 a s ek en cn q;
    rows = in_end h w fits' r₀ xs j r₁ zero+ b s ej er cr q;
  }

-- ---- refusals that are none
pub table-open : (p : ℕ) (ks ps : List Float) (g : Bool) (ws : List Float) → (table_refusal p ks ps g ws).number ≡ 0 → ValidCurve p ks ps g ws
unfolding table_refusal
table-open p ks ps g ws h = valid-curve p ks ps g ws (or_else-none (curve_refusal p ks ps g ws) (degree_refusal p) h).0

pub rooms-open : (a m b n : ℕ) → (rooms_refusal a m b n).number ≡ 0 → (m ≤ a) × (n ≤ b)
unfolding rooms_refusal
rooms-open a m b n h = let z = or_else-none (room_refusal a m) (room_refusal b n) h in (room_open a m z.0, room_open b n z.1)

-- a product that cannot wrap
pub small_product : (n w : ℕ) → n ≤ 1048576 → w ≤ 18 → n * w ≤ 1048576 * 18
small_product n w a b = mul-le-mul a b
