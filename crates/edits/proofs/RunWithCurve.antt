-- A run with a curve laid over it: place by place, what is read from it, and one curve over another.
-- Assumes nothing.
use Prim.Native.Nat.{ℕ, ◌+◌, ◌-◌, ◌*◌, ◌/◌, ◌%◌, ◌≤◌, ◌<◌}
use mathlib.Core.Bool.{Bool, true, false, cond}
use mathlib.Core.Path.{◌≡◌, refl, sym, ◌∙◌, ap, ap₂, subst}
use mathlib.Core.Logic.{◌⊎◌, inl, inr, ⊎_elim}
use mathlib.Core.List.{List}
use native.Mathlib.Omega.{arith}
use borrow.Author.Tests.{lt-ltb, le-ltb, le-leb, lt-leb, eq-eqb, ne_eqb, eqb-true, eqb-false}
use lib.ListN.{length, take, drop, length-take, length-drop, get_or-eq_default}
use lib.Seq.{get_or-take, get_or-drop, ext_get_or}
use lib.Dec.{eqb}
use lib.Ieee.{Float, nan}
use Rattle.doubles.specs.Run.{at}
use Rattle.doubles.specs.Value.{one+}
use Rattle.knots.specs.Curve.{count_of}
use Rattle.runs.proofs.Tabulated.{length-tabulate, at-tabulate}
use Rattle.runs.proofs.Cases.{lt-or-ge}
use Rattle.runs.specs.Coordinate.{coordinate}
use Rattle.edits.specs.Control.{vector_of}
use Rattle.edits.specs.Rows.{axis}
use Rattle.edits.specs.Work.{row_number, laid_at, laid, weights_from}
use Rattle.runs.specs.Weight.{weight_at}
use Rattle.edits.specs.Passes.{row_of, given_row, Untouched, CurveIn, Stands}
use Rattle.edits.specs.declared.control.Control.{Control}
use Rattle.edits.proofs.RowReads.{row-axis, point_at, row-weight}
use Rattle.edits.proofs.RowStores.{control-is}
use Rattle.edits.proofs.IntoRun.{given-axis}

module _ (a : ℕ) (d ks ps : List Float) (g : Bool) (ws : List Float) where
  abbrev n : ℕ
  n = count_of ps

  pub laid-long : length (laid a d ks ps g ws) ≡ length d
  unfolding laid
  laid-long = length-tabulate (length d) (laid_at a d ks ps g ws)

  laid-at : (j : ℕ) → j < length d → at (laid a d ks ps g ws) j ≡ laid_at a d ks ps g ws j
  unfolding laid
  laid-at j l = at-tabulate (length d) (laid_at a d ks ps g ws) j l

  -- ---- the three kinds of places
  at_row : (j : ℕ) → j < n * 4 → row_number ps g ws (at d j) j ≡ laid_at a d ks ps g ws j
  unfolding laid_at
  at_row j l = simp (lt-ltb j (n * 4) l)

  at-knot : (j : ℕ) → n * 4 ≤ j → a ≤ j → j < a + length ks → at ks (j - a) ≡ laid_at a d ks ps g ws j
  unfolding laid_at
  at-knot j l x y = simp (le-ltb j (n * 4) l, le-leb a j x, lt-ltb j (a + length ks) y)

  at_rest : (j : ℕ) → n * 4 ≤ j → (j < a) ⊎ (a + length ks ≤ j) → at d j ≡ laid_at a d ks ps g ws j
  unfolding laid_at
  at_rest j l (inl x) = simp (le-ltb j (n * 4) l, lt-leb a j x)
  at_rest j l (inr x) = simp (le-ltb j (n * 4) l, le-leb a j (omega arith), le-ltb j (a + length ks) x)

  at-axis : (x : Float) (j : ℕ) → (j % 4 ≡ 3 → ⊥) → coordinate ps (j / 4) (j % 4) ≡ row_number ps g ws x j
  unfolding row_number
  at-axis x j h = simp (ne_eqb (j % 4) 3 h)

  at-weight : (x : Float) (j : ℕ) → j % 4 ≡ 3 → cond g (at ws (j / 4)) x ≡ row_number ps g ws x j
  unfolding row_number
  at-weight x j h = simp (eq-eqb (j % 4) 3 h)

  -- ---- a run in which the curve stands
  pub laid-is : (w₁ : List Float) → length w₁ ≡ length d → n * 4 ≤ a → a + length ks ≤ length d → CurveIn a ks ps g ws d w₁ → w₁ ≡ laid a d ks ps g ws
  unfolding weight_at
  laid-is w₁ L r l C = ext_get_or nan w₁ (laid a d ks ps g ws) (L ∙ sym laid-long) (λ j b. let B : j < length d = omega arith in place j B (lt-or-ge j (n * 4)) ∙ sym (laid-at j B))
    where
      row : (j i c : ℕ) → j ≡ i * 4 + c → c < 3 → i < n → at w₁ j ≡ at ps (i * 3 + c)
      row j i c e x y = ap (at w₁) e ∙ (row-axis g n w₁ i c x ∙ (ap (λ (q : Control). axis c (vector_of q)) (C.rows i y) ∙ given-axis ps g ws (i * 3 + c) i c refl x))

      weight : (b : Bool) → b ≡ g → (j : ℕ) → j < n * 4 → j % 4 ≡ 3 → at w₁ j ≡ cond b (at ws (j / 4)) (at d j)
      weight true e j x y =
          let z : j ≡ j / 4 * 4 + 3 = omega arith in
          ap (at w₁) z
          ∙ (ap (λ (c : Bool). cond c (at w₁ (j / 4 * 4 + 3)) one+) e ∙ (ap (λ (q : Control). q.w) (C.rows (j / 4) (omega arith)) ∙ ap (λ (c : Bool). cond c (at ws (j / 4)) one+) (sym e)))
      weight false e j x y = C.rest j (inr (sym e, y)) (inl (omega arith))

      number : (j : ℕ) → j < n * 4 → (b : Bool) → eqb (j % 4) 3 ≡ b → at w₁ j ≡ row_number ps g ws (at d j) j
      number j x true e = let z = eqb-true (j % 4) 3 e in weight g refl j x z ∙ at-weight (at d j) j z
      number j x false e =
          let z = eqb-false (j % 4) 3 e in
          row j (j / 4) (j % 4) (omega arith) (few z) (omega arith) ∙ at-axis (at d j) j z
        where
          few : (j % 4 ≡ 3 → ⊥) → j % 4 < 3
          few h = ⊎_elim (λ (u : j % 4 < 3). u) (λ (u : 3 ≤ j % 4). absurd (h (omega arith))) (lt-or-ge (j % 4) 3)

      knot : (j : ℕ) → a ≤ j → j < a + length ks → at w₁ j ≡ at ks (j - a)
      knot j x y =
          let z : j ≡ a + (j - a) = omega arith in
          ap (at w₁) z ∙ (sym (get_or-drop a w₁ (j - a) nan) ∙ (sym (get_or-take (length ks) (drop a w₁) (j - a) nan (omega arith)) ∙ ap (λ (xs : List Float). at xs (j - a)) C.knots))

      place : (j : ℕ) → j < length d → (j < n * 4) ⊎ (n * 4 ≤ j) → at w₁ j ≡ laid_at a d ks ps g ws j
      place j b (inl x) = number j x (eqb (j % 4) 3) refl ∙ at_row j x
      place j b (inr x) = ⊎_elim (λ (u : j < a). C.rest j (inl x) (inl u) ∙ at_rest j x (inl u))
          (λ (u : a ≤ j). ⊎_elim (λ (v : j < a + length ks). knot j u v ∙ at-knot j x u v) (λ (v : a + length ks ≤ j). C.rest j (inl x) (inr v) ∙ at_rest j x (inr v)) (lt-or-ge j (a + length ks)))
          (lt-or-ge j a)

  -- ---- and the curve stands in it
  pub laid_in : n * 4 ≤ a → a + length ks ≤ length d → CurveIn a ks ps g ws d (laid a d ks ps g ws)
  unfolding weight_at
  laid_in r l = record { rows = rows; knots = knots; rest = rest }
    where
      R : List Float
      R = laid a d ks ps g ws

      axes : (i c : ℕ) → i < n → c < 3 → at R (i * 4 + c) ≡ at ps (i * 3 + c)
      axes i c x y =
          let e : (i * 4 + c) / 4 ≡ i = omega arith in
          let f : (i * 4 + c) % 4 ≡ c = omega arith in
          laid-at (i * 4 + c) (omega arith)
          ∙ (sym (at_row (i * 4 + c) (omega arith)) ∙ (sym (at-axis (at d (i * 4 + c)) (i * 4 + c) (λ z. omega arith)) ∙ ap₂ (coordinate ps) e f))

      last : (b : Bool) → b ≡ g → (i : ℕ) → i < n → cond b (at R (i * 4 + 3)) one+ ≡ cond b (at ws i) one+
      last true e i x =
          let f : (i * 4 + 3) / 4 ≡ i = omega arith in
          laid-at (i * 4 + 3) (omega arith)
          ∙ (sym (at_row (i * 4 + 3) (omega arith))
          ∙ (sym (at-weight (at d (i * 4 + 3)) (i * 4 + 3) (omega arith)) ∙ (ap (λ (b : Bool). cond b (at ws ((i * 4 + 3) / 4)) (at d (i * 4 + 3))) (sym e) ∙ ap (at ws) f)))
      last false e i x = refl

      rows : (i : ℕ) → i < n → row_of g R i ≡ given_row ps g ws i
      rows i x =
          let z : i * 4 + 0 ≡ i * 4 = omega arith in
          control-is _ _ _ _ (at ps (i * 3 + 0)) (at ps (i * 3 + 1)) (at ps (i * 3 + 2)) (cond g (at ws i) one+)
          (ap (at R) (sym z) ∙ axes i 0 x (omega arith)) (axes i 1 x (omega arith)) (axes i 2 x (omega arith)) (last g refl i x)

      long : length (take (length ks) (drop a R)) ≡ length ks
      long = length-take (length ks) (drop a R) ∙ omega (arith, length-drop a R, laid-long)

      knots : take (length ks) (drop a R) ≡ ks
      knots = ext_get_or nan (take (length ks) (drop a R)) ks long
          (λ j b.
          let B : j < length ks = omega (arith, long) in
          let e : a + j - a ≡ j = omega arith in
          get_or-take (length ks) (drop a R) j nan B ∙ (get_or-drop a R j nan ∙ (laid-at (a + j) (omega arith) ∙ (sym (at-knot (a + j) (omega arith) (omega arith) (omega arith)) ∙ ap (at ks) e))))

      rest : (j : ℕ) → Untouched g n j → (j < a) ⊎ (a + length ks ≤ j) → at R j ≡ at d j
      rest j u o =
          ⊎_elim (λ (b : j < length d). inside j u o b) (λ (b : length d ≤ j). get_or-eq_default R nan (omega (arith, laid-long)) ∙ sym (get_or-eq_default d nan b)) (lt-or-ge j (length d))
        where
          slot : (b : Bool) → b ≡ g → (j : ℕ) → b ≡ false → cond b (at ws (j / 4)) (at d j) ≡ at d j
          slot true e j f = let y : ◌≡◌ {A = ℕ} 0 1 = cc in absurd (omega arith)
          slot false e j f = refl

          inside : (j : ℕ) → Untouched g n j → (j < a) ⊎ (a + length ks ≤ j) → j < length d → at R j ≡ at d j
          inside j (inl u) o b = laid-at j b ∙ sym (at_rest j u o)
          inside j (inr u) o b = ⊎_elim
              (λ (x : j < n * 4). laid-at j b ∙ (sym (at_row j x) ∙ (sym (at-weight (at d j) j u.1) ∙ slot g refl j u.0)))
              (λ (x : n * 4 ≤ j). laid-at j b ∙ sym (at_rest j x o))
              (lt-or-ge j (n * 4))

-- ---- what an insertion leaves is its curve, laid over what was there
pub laid-holds : (a p n : ℕ) (g : Bool) (ks ps ws w₀ w₁ : List Float) → length w₁ ≡ length w₀ → n * 4 ≤ a → a + (n + p + 1) ≤ length w₀ → Stands a p n g ks ps ws w₀ w₁ → w₁ ≡ laid a w₀ ks ps g ws
unfolding weight_at
laid-holds a p n g ks ps ws w₀ w₁ L r l H = laid-is a w₀ ks ps g ws w₁ L (omega (arith, count)) (omega (arith, long)) (record { rows = rows; knots = knots; rest = rest })
  where
    many : length ps ≡ n * 3
    many = ap length (sym H.points) ∙ length-tabulate (n * 3) _

    count : count_of ps ≡ n
    count = let m = many in omega arith

    long : length ks ≡ n + p + 1
    long = ap length (sym H.knots) ∙ (length-take (n + p + 1) (drop a w₁) ∙ omega (arith, length-drop a w₁))

    axes : (i c : ℕ) → i < n → c < 3 → at w₁ (i * 4 + c) ≡ at ps (i * 3 + c)
    axes i c x y = sym (point_at g n w₁ i c x y) ∙ ap (λ (xs : List Float). at xs (i * 3 + c)) H.points

    last : (b : Bool) → b ≡ g → (i : ℕ) → i < n → cond b (at w₁ (i * 4 + 3)) one+ ≡ cond b (at ws i) one+
    last true e i x = sym (row-weight n w₁ i x) ∙ (ap (λ (b : Bool). at (weights_from b n w₁) i) e ∙ ap (λ (xs : List Float). at xs i) H.weights)
    last false e i x = refl

    rows : (i : ℕ) → i < count_of ps → row_of g w₁ i ≡ given_row ps g ws i
    rows i x =
        let y : i < n = omega (arith, count) in
        let z : i * 4 + 0 ≡ i * 4 = omega arith in
        control-is _ _ _ _ (at ps (i * 3 + 0)) (at ps (i * 3 + 1)) (at ps (i * 3 + 2)) (cond g (at ws i) one+)
        (ap (at w₁) (sym z) ∙ axes i 0 y (omega arith)) (axes i 1 y (omega arith)) (axes i 2 y (omega arith)) (last g refl i y)

    knots : take (length ks) (drop a w₁) ≡ ks
    knots = ap (λ (m : ℕ). take m (drop a w₁)) long ∙ H.knots

    rest : (j : ℕ) → Untouched g (count_of ps) j → (j < a) ⊎ (a + length ks ≤ j) → at w₁ j ≡ at w₀ j
    rest j u o = H.rest j (subst (λ (m : ℕ). Untouched g m j) count u) (subst (λ (m : ℕ). (j < a) ⊎ (a + m ≤ j)) long o)

-- ---- one curve over another that has no more points
pub laid-laid : (a : ℕ) (d ks ps : List Float) (g : Bool) (ws ls qs vs : List Float) → count_of ps ≤ count_of qs → length ks ≤ length ls → count_of qs * 4 ≤ a → a + length ls ≤ length d
    → laid a (laid a d ks ps g ws) ls qs g vs ≡ laid a d ls qs g vs
laid-laid a d ks ps g ws ls qs vs m k r l =
    laid-is a d ls qs g vs (laid a D ls qs g vs) (laid-long a D ls qs g vs ∙ laid-long a d ks ps g ws) r l (record {
      rows = C.rows;
      knots = C.knots;
      rest = λ j u o. C.rest j u o ∙ B.rest j (fewer j u) (outer j o);
    })
  where
    D : List Float
    D = laid a d ks ps g ws

    C : CurveIn a ls qs g vs D (laid a D ls qs g vs)
    C = laid_in a D ls qs g vs r (omega (arith, laid-long a d ks ps g ws))

    B : CurveIn a ks ps g ws d D
    B = laid_in a d ks ps g ws (omega arith) (omega arith)

    fewer : (j : ℕ) → Untouched g (count_of qs) j → Untouched g (count_of ps) j
    fewer j (inl u) = inl (omega arith)
    fewer j (inr u) = inr u

    outer : (j : ℕ) → (j < a) ⊎ (a + length ls ≤ j) → (j < a) ⊎ (a + length ks ≤ j)
    outer j (inl o) = inl o
    outer j (inr o) = inr (omega arith)
