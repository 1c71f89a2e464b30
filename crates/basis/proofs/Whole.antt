-- The table of derivatives, place by place: what `basis_derivatives` leaves in a cleared run of 195 numbers, and how it is read.
-- Assumes nothing.
use Prim.Native.Nat.{ℕ, zero, suc, ◌+◌, ◌*◌, ◌/◌, ◌%◌, ◌≤◌, ◌<◌}
use mathlib.Core.Bool.{true, false}
use mathlib.Core.Path.{◌≡◌, sym, ◌∙◌, ap, ap₂, subst}
use mathlib.Core.Logic.{◌⊎◌, inl, inr}
use mathlib.Core.List.{List}
use native.Mathlib.Omega.{arith}
use lib.ListN.{length, length-replicate, get_or-replicate}
use lib.Seq.{ext_get_or}
use lib.Dec.{leb, ltb}
use lib.Ieee.{Float, nan, of_bits}
use native.Mathlib.Nat.{div-add-mod'}
use borrow.Author.Tests.{lt-ltb, le-ltb, le-leb, lt-leb, eq-eqb, ltb-true, leb-true, eqb-true}
use Rattle.exact.specs.Scheme.{ders_of}
use Rattle.doubles.specs.Run.{at}
use Rattle.doubles.specs.Value.{zero+}
use Rattle.knots.specs.Clear.{zeros}
use Rattle.knots.proofs.Below.{and_left, and_right}
use Rattle.basis.specs.Floats.{floats}
use Rattle.basis.specs.Basis.{cell, left_of, right_of}
use Rattle.runs.specs.Tabulate.{tabulate}
use Rattle.runs.proofs.Tabulated.{length-tabulate, at-tabulate}
use Rattle.basis.specs.Ders.{in_reach, ders_at, ders_table, basis_table, DersDone}
use Rattle.runs.proofs.Cases.{lt-or-ge}

-- the tests, one by one
pub record Reach (m p n : ℕ) (ks : List Float) (s : ℕ) : Type 0 where
  pub degree : 0 < p
  pub high : p ≤ 64
  pub orders : n ≤ 2
  pub low : p ≤ s
  pub long : s + p < length ks
  pub room : m ≡ 195

pub reached : (m p n : ℕ) (ks : List Float) (s : ℕ) → in_reach m p n ks s ≡ true → Reach m p n ks s
unfolding in_reach
reached m p n ks s h =
    let a = and_right (ltb 0 p) _ h in
    let b = and_right (leb p 64) _ a in
    let c = and_right (leb n 2) _ b in
    let d = and_right (leb p s) _ c in
    record {
      degree = ltb-true 0 p (and_left (ltb 0 p) _ h);
      high = leb-true p 64 (and_left (leb p 64) _ a);
      orders = leb-true n 2 (and_left (leb n 2) _ b);
      low = leb-true p s (and_left (leb p s) _ c);
      long = ltb-true (s + p) (length ks) (and_left (ltb (s + p) (length ks)) _ d);
      room = eqb-true m 195 (and_right (ltb (s + p) (length ks)) _ d);
    }

pub in_reach-true : (m p n : ℕ) (ks : List Float) (s : ℕ) → Reach m p n ks s → in_reach m p n ks s ≡ true
unfolding in_reach
in_reach-true m p n ks s r =
    simp (lt-ltb 0 p r.degree, le-leb p 64 r.high, le-leb n 2 r.orders, le-leb p s r.low, lt-ltb (s + p) (length ks) r.long, eq-eqb m 195 r.room)

module _ (p n : ℕ) (ks : List Float) (s : ℕ) (u : Float) where
  number : ℕ → Float
  number i = ders_at p n ks s u (i / 65) (i % 65)

  -- the derivatives in a table that was cleared before
  module _ (P : p ≤ 64) (after : List Float) (D : DersDone p n (left_of ks s u) (right_of ks s u) (zeros 195) after) where
    still : (k j : ℕ) → k ≤ 2 → j < 65 → (p < j) ⊎ ((n < k) ⊎ (p < k)) → cell after k j ≡ zero+
    still k j K J o = D.rest k j J o ∙ get_or-replicate 195 (k * 65 + j) zero+ nan (omega arith)

    inner : (k j : ℕ) → k ≤ n → k ≤ 2 → j ≤ p → cell after k j ≡ ders_of floats (left_of ks s u) (right_of ks s u) p k j
    unfolding ders_of of_bits
    inner zero j K T J = D.functions j J
    inner (suc k) j K T J = elim (lt-or-ge p (suc k)) [
      | inl h ↦ simp (lt-ltb p (suc k) h) (still (suc k) j T (omega arith) (inr (inr h)))
      | inr g ↦ simp (le-ltb p (suc k) g) (D.rows (suc k) j (omega arith) K g J)
    ]

    put : (k j : ℕ) → k ≤ 2 → j < 65 → cell after k j ≡ ders_at p n ks s u k j
    unfolding ders_at
    put k j K J = elim (lt-or-ge n k) [
      | inl h ↦ simp (lt-leb k n h) (still k j K J (inr (inl h)))
      | inr a ↦ elim (lt-or-ge p j) [
        | inl h ↦ simp (le-leb k n a, lt-leb j p h) (still k j K J (inl h))
        | inr b ↦ simp (le-leb k n a, le-leb j p b) (inner k j a K b)
      ]
    ]

    pub table_is : after ≡ ders_table p n ks s u
    unfolding ders_table number
    table_is = ext_get_or nan after (tabulate 195 number) (D.long ∙ sym (length-tabulate 195 number)) each
      where
        each : (i : ℕ) → i < length after → at after i ≡ at (tabulate 195 number) i
        each i h =
            let L : i < 195 = subst (λ (m : ℕ). i < m) D.long h in
            let e : i ≡ i / 65 * 65 + i % 65 = sym (div-add-mod' i 65) in
            ap (at after) e ∙ (put (i / 65) (i % 65) (omega arith) (omega arith) ∙ sym (at-tabulate 195 number i L))

  pub table_at : p ≤ 64 → n ≤ 2 → (k j : ℕ) → k ≤ n → j ≤ p → cell (ders_table p n ks s u) k j ≡ ders_of floats (left_of ks s u) (right_of ks s u) p k j
  unfolding ders_table ders_at number
  table_at P N k j K J =
      let a : (k * 65 + j) / 65 ≡ k = omega arith in
      let b : (k * 65 + j) % 65 ≡ j = omega arith in
      at-tabulate 195 number (k * 65 + j) (omega arith) ∙ (ap₂ (ders_at p n ks s u) a b ∙ simp (le-leb k n K, le-leb j p J))

  -- a caller's table, on inputs that pass the tests
  pub basis-at : (m : ℕ) → Reach m p n ks s → (k j : ℕ) → k ≤ n → j ≤ p → cell (basis_table m p n ks s u) k j ≡ ders_of floats (left_of ks s u) (right_of ks s u) p k j
  unfolding basis_table
  basis-at m r k j K J = simp (in_reach-true m p n ks s r) (table_at r.high r.orders k j K J)

  pub answer-none : (m : ℕ) → in_reach m p n ks s ≡ false → zeros m ≡ basis_table m p n ks s u
  unfolding basis_table
  answer-none m h = simp h

  pub answer-some : (m : ℕ) (before after : List Float) → in_reach m p n ks s ≡ true → before ≡ zeros m
      → DersDone p n (left_of ks s u) (right_of ks s u) before after → after ≡ basis_table m p n ks s u
  unfolding basis_table
  answer-some m before after h e D =
      let r = reached m p n ks s h in
      simp h (table_is r.high after (subst (λ (t : List Float). DersDone p n (left_of ks s u) (right_of ks s u) t after) (e ∙ ap zeros r.room) D))

-- a run of 195 numbers is as long after it was cleared
pub cleared-long : (m : ℕ) (t : List Float) → t ≡ zeros m → m ≡ 195 → length t ≡ 195
cleared-long m t e h = ap length e ∙ (length-replicate m zero+ ∙ h)
