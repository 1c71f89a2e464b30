-- Rows of a run, stored one after the other.
-- Assumes nothing.
use Prim.Native.Nat.{ℕ, ◌+◌, ◌-◌, ◌*◌, ◌/◌, ◌≤◌, ◌<◌}
use mathlib.Core.Bool.{Bool, true, false, cond}
use mathlib.Core.Path.{◌≡◌, refl, sym, ◌∙◌, ap, subst}
use mathlib.Core.Logic.{◌⊎◌, inl, inr, ⊎_elim}
use mathlib.Core.List.{List, ◌++◌}
use native.Mathlib.Omega.{arith}
use borrow.Author.Count.{below_more}
use lib.ListN.{length, set, take, drop, length-set, length-take, length-drop, length-append, get_or-append}
use lib.Seq.{get_or-set_same, get_or-set_other, get_or-take, get_or-drop, get_or-append-add}
use borrow.Author.Tests.{lt-ltb}
use lib.Dec.{ltb}
use lib.Ieee.{Float, nan}
use Rattle.doubles.specs.Run.{at}
use Rattle.doubles.specs.Value.{one+}
use Rattle.runs.proofs.Cases.{lt-or-ge}
use Rattle.edits.proofs.RowReads.{part_at}
use Rattle.edits.specs.Passes.{row_put, row_of, stored, Untouched, RowPut}
use Rattle.edits.specs.declared.control.Control.{Control}

pub control-is : (x y z w x' y' z' w' : Float) → x ≡ x' → y ≡ y' → z ≡ z' → w ≡ w'
    → ◌≡◌ {A = Control} (record { x = x; y = y; z = z; w = w }) (record { x = x'; y = y'; z = z'; w = w' })
control-is x y z w x' y' z' w' a b c d = rw (a, b, c, d)

-- ---- a row is stored
abbrev three : List Float → ℕ → Float → Float → Float → List Float
three xs a x y z = set (set (set xs a x) (a + 1) y) (a + 2) z

module _ (xs : List Float) (a : ℕ) (x y z : Float) where
  three-long : length (three xs a x y z) ≡ length xs
  three-long = simp length-set

  three-else : (b : ℕ) → (b ≡ a → ⊥) → (b ≡ a + 1 → ⊥) → (b ≡ a + 2 → ⊥) → at (three xs a x y z) b ≡ at xs b
  three-else b f g h =
      get_or-set_other (set (set xs a x) (a + 1) y) (a + 2) b z nan h
      ∙ (get_or-set_other (set xs a x) (a + 1) b y nan g ∙ get_or-set_other xs a b x nan f)

  module _ (l : a + 2 < length xs) where
    first : at (three xs a x y z) a ≡ x
    first =
        get_or-set_other (set (set xs a x) (a + 1) y) (a + 2) a z nan (λ e. omega arith)
        ∙ (get_or-set_other (set xs a x) (a + 1) a y nan (λ e. omega arith) ∙ get_or-set_same xs a x nan (omega arith))

    second : at (three xs a x y z) (a + 1) ≡ y
    second =
        let n = length-set xs a x in
        get_or-set_other (set (set xs a x) (a + 1) y) (a + 2) (a + 1) z nan (λ e. omega arith) ∙ get_or-set_same (set xs a x) (a + 1) y nan (omega arith)

    third : at (three xs a x y z) (a + 2) ≡ z
    third =
        let n : length (set (set xs a x) (a + 1) y) ≡ length xs = simp length-set in
        get_or-set_same (set (set xs a x) (a + 1) y) (a + 2) z nan (omega arith)

module _ (i : ℕ) (q : Control) (xs : List Float) (l : i * 4 + 3 < length xs) where
  abbrev stored3 : List Float
  stored3 = three xs (i * 4) q.x q.y q.z

  long3 : length stored3 ≡ length xs
  long3 = three-long xs (i * 4) q.x q.y q.z

  put-plain' : (ys : List Float) → ys ≡ stored3 → RowPut false i q xs ys
  put-plain' ys E = record {
    row = ap (λ (zs : List Float). row_of false zs i) E
        ∙ control-is
        _ _ _ one+ q.x q.y q.z one+ (first xs (i * 4) q.x q.y q.z (omega arith)) (second xs (i * 4) q.x q.y q.z (omega arith))
        (third xs (i * 4) q.x q.y q.z (omega arith)) refl;
    rest = λ j u. ap (λ (zs : List Float). at zs j) E ∙ else j u;
  }
    where
      else : (j : ℕ) → (j < i * 4) ⊎ Untouched false (i + 1) j → at stored3 j ≡ at xs j
      else j (inl u) = three-else xs (i * 4) q.x q.y q.z j (λ e. omega arith) (λ e. omega arith) (λ e. omega arith)
      else j (inr (inl u)) = three-else xs (i * 4) q.x q.y q.z j (λ e. omega arith) (λ e. omega arith) (λ e. omega arith)
      else j (inr (inr u)) = let v = u.1 in three-else xs (i * 4) q.x q.y q.z j (λ e. omega arith) (λ e. omega arith) (λ e. omega arith)

  put-weighted' : (ys : List Float) → ys ≡ set stored3 (i * 4 + 3) q.w → RowPut true i q xs ys
  put-weighted' ys E = record {
    row = ap (λ (zs : List Float). row_of true zs i) E ∙ control-is _ _ _ _ q.x q.y q.z q.w
        (get_or-set_other stored3 (i * 4 + 3) (i * 4) q.w nan (λ e. omega arith) ∙ first xs (i * 4) q.x q.y q.z (omega arith))
        (low 1 (omega arith) ∙ second xs (i * 4) q.x q.y q.z (omega arith)) (low 2 (omega arith) ∙ third xs (i * 4) q.x q.y q.z (omega arith))
        (get_or-set_same stored3 (i * 4 + 3) q.w nan (omega (arith, long3)));
    rest = λ j u. ap (λ (zs : List Float). at zs j) E ∙ else j u;
  }
    where
      low : (c : ℕ) → c < 3 → at (set stored3 (i * 4 + 3) q.w) (i * 4 + c) ≡ at stored3 (i * 4 + c)
      low c b = get_or-set_other stored3 (i * 4 + 3) (i * 4 + c) q.w nan (λ e. omega arith)

      else : (j : ℕ) → (j < i * 4) ⊎ Untouched true (i + 1) j → at (set stored3 (i * 4 + 3) q.w) j ≡ at xs j
      else j (inl u) = get_or-set_other stored3 (i * 4 + 3) j q.w nan (λ e. omega arith)
          ∙ three-else xs (i * 4) q.x q.y q.z j (λ e. omega arith) (λ e. omega arith) (λ e. omega arith)
      else j (inr (inl u)) = get_or-set_other stored3 (i * 4 + 3) j q.w nan (λ e. omega arith)
          ∙ three-else xs (i * 4) q.x q.y q.z j (λ e. omega arith) (λ e. omega arith) (λ e. omega arith)
      else j (inr (inr u)) = let z : ◌≡◌ {A = ℕ} 0 1 = cc in absurd (omega arith)

  pub row_put-done : (g : Bool) (ys : List Float) → ys ≡ row_put g xs i q → RowPut g i q xs ys
  unfolding row_put
  row_put-done true ys E = put-weighted' ys (E ∙ simp (lt-ltb i (length xs / 4) (omega arith)))
  row_put-done false ys E = put-plain' ys (E ∙ simp (lt-ltb i (length xs / 4) (omega arith)))

pub row-put-long : (g : Bool) (xs : List Float) (i : ℕ) (q : Control) → length (row_put g xs i q) ≡ length xs
unfolding row_put
row-put-long true xs i q = go (ltb i (length xs / 4))
  where
    go : (b : Bool) → length (cond b (set (three xs (i * 4) q.x q.y q.z) (i * 4 + 3) q.w) xs) ≡ length xs
    go true = simp length-set
    go false = refl
row-put-long false xs i q = go (ltb i (length xs / 4))
  where
    go : (b : Bool) → length (cond b (three xs (i * 4) q.x q.y q.z) xs) ≡ length xs
    go true = simp length-set
    go false = refl

-- ---- rows that are the same where the places are
pub rows_same : (g : Bool) (xs ys : List Float) (i : ℕ) → ((c : ℕ) → c < 4 → at xs (i * 4 + c) ≡ at ys (i * 4 + c)) → row_of g xs i ≡ row_of g ys i
rows_same g xs ys i e =
    let z : i * 4 + 0 ≡ i * 4 = omega arith in
    control-is _ _ _ _ (at ys (i * 4)) (at ys (i * 4 + 1)) (at ys (i * 4 + 2)) (cond g (at ys (i * 4 + 3)) one+)
    (subst (λ (k : ℕ). at xs k ≡ at ys k) z (e 0 (omega arith))) (e 1 (omega arith)) (e 2 (omega arith)) (ap (λ (x : Float). cond g x one+) (e 3 (omega arith)))

-- ---- numbers that were lent are back in their run
module _ (a k : ℕ) (xs ys : List Float) (L : length ys ≡ k) (b : a + k ≤ length xs) where
  abbrev back : List Float
  back = take a xs ++ (ys ++ drop k (drop a xs))

  front : length (take a xs) ≡ a
  front = length-take a xs ∙ omega arith

  back_low : (j : ℕ) → j < a → at back j ≡ at xs j
  back_low j l = get_or-append (take a xs) (ys ++ drop k (drop a xs)) nan j (omega (arith, front)) ∙ get_or-take a xs j nan l

  back_from : (m : ℕ) → at back (a + m) ≡ at (ys ++ drop k (drop a xs)) m
  back_from m = ap (λ (i : ℕ). at back (i + m)) (sym front) ∙ get_or-append-add (take a xs) (ys ++ drop k (drop a xs)) m nan

  back_in : (m : ℕ) → m < k → at back (a + m) ≡ at ys m
  back_in m l = back_from m ∙ get_or-append ys (drop k (drop a xs)) nan m (omega arith)

  back-high : (m : ℕ) → at back (a + (k + m)) ≡ at xs (a + (k + m))
  back-high m =
      back_from (k + m)
      ∙ (ap (λ (i : ℕ). at (ys ++ drop k (drop a xs)) (i + m)) (sym L)
      ∙ (get_or-append-add ys (drop k (drop a xs)) m nan ∙ (get_or-drop k (drop a xs) m nan ∙ get_or-drop a xs (k + m) nan)))

module _ (i : ℕ) (q : Control) (xs : List Float) (l : i * 4 + 3 < length xs) (g : Bool) where
  -- how long the part from i * 4 to i * 4 + 4 is, in the words of the logic
  abbrev k : ℕ
  k = i * 4 + 4 - i * 4

  abbrev part : List Float
  part = take k (drop (i * 4) xs)

  part-long : length part ≡ k
  part-long = length-take k (drop (i * 4) xs) ∙ omega (arith, length-drop (i * 4) xs)

  put-long : (ys : List Float) → ys ≡ row_put g part 0 q → length ys ≡ k
  put-long ys E = ap length E ∙ (row-put-long g part 0 q ∙ part-long)

  pub row-part-long : (ys : List Float) → ys ≡ row_put g part 0 q → length (take (i * 4) xs ++ (ys ++ drop k (drop (i * 4) xs))) ≡ length xs
  row-part-long ys E =
      let f = length-take (i * 4) xs in
      let m = length-append ys (drop k (drop (i * 4) xs)) in
      let p = put-long ys E in
      let d = length-drop k (drop (i * 4) xs) in
      let e = length-drop (i * 4) xs in
      length-append (take (i * 4) xs) (ys ++ drop k (drop (i * 4) xs)) ∙ omega arith

  pub row-put-part : (ys zs : List Float) → ys ≡ row_put g part 0 q → zs ≡ take (i * 4) xs ++ (ys ++ drop k (drop (i * 4) xs)) → RowPut g i q xs zs
  row-put-part ys zs E Z = subst (RowPut g i q xs) (sym Z) (record { row = row; rest = rest })
    where
      P : RowPut g 0 q part ys
      P = row_put-done 0 q part (omega (arith, part-long)) g ys E

      L : length ys ≡ k
      L = put-long ys E

      B : i * 4 + k ≤ length xs
      B = omega arith

      inside : (c : ℕ) → c < 4 → at (back (i * 4) k xs ys L B) (i * 4 + c) ≡ at ys c
      inside c b = back_in (i * 4) k xs ys L B c (omega arith)

      row : row_of g (back (i * 4) k xs ys L B) i ≡ stored g q
      row =
          let z : i * 4 + 0 ≡ i * 4 = omega arith in
          control-is _ _ _ _ (at ys 0) (at ys 1) (at ys 2) (cond g (at ys 3) one+) (subst (λ (j : ℕ). at (back (i * 4) k xs ys L B) j ≡ at ys 0) z (inside 0 (omega arith)))
          (inside 1 (omega arith)) (inside 2 (omega arith)) (ap (λ (x : Float). cond g x one+) (inside 3 (omega arith)))
          ∙ P.row

      high : (j : ℕ) → (i + 1) * 4 ≤ j → at (back (i * 4) k xs ys L B) j ≡ at xs j
      high j b =
          let e : i * 4 + (k + (j - (i + 1) * 4)) ≡ j = omega arith in
          subst (λ (m : ℕ). at (back (i * 4) k xs ys L B) m ≡ at xs m) e (back-high (i * 4) k xs ys L B (j - (i + 1) * 4))

      fourth : g ≡ false → at (back (i * 4) k xs ys L B) (i * 4 + 3) ≡ at xs (i * 4 + 3)
      fourth e = inside 3 (omega arith) ∙ (P.rest 3 (inr (inr (e, refl))) ∙ part_at xs i 3 (omega arith))

      rest : (j : ℕ) → (j < i * 4) ⊎ Untouched g (i + 1) j → at (back (i * 4) k xs ys L B) j ≡ at xs j
      rest j (inl b) = back_low (i * 4) k xs ys L B j b
      rest j (inr (inl b)) = high j b
      rest j (inr (inr u)) = ⊎_elim (back_low (i * 4) k xs ys L B j) (λ (b : i * 4 ≤ j). ⊎_elim (near b) (high j) (lt-or-ge j ((i + 1) * 4))) (lt-or-ge j (i * 4))
        where
          near : i * 4 ≤ j → j < (i + 1) * 4 → at (back (i * 4) k xs ys L B) j ≡ at xs j
          near b d =
              let m = u.1 in
              let e : i * 4 + 3 ≡ j = omega arith in
              subst (λ (n : ℕ). at (back (i * 4) k xs ys L B) n ≡ at xs n) e (fourth u.0)

pub untouched-row : (g : Bool) (i : ℕ) (xs ys : List Float) → ((j : ℕ) → Untouched g i j → at xs j ≡ at ys j) → row_of g xs i ≡ row_of g ys i
untouched-row g i xs ys h = rows_same g xs ys i (λ c b. h (i * 4 + c) (inl (omega arith)))

-- ---- rows one after the other: i of them are f
pub record InRows (g : Bool) (f : ℕ → Control) (r₀ r₁ : List Float) (i : ℕ) : Type 0 where
  pub long : length r₁ ≡ length r₀
  pub rows : (j : ℕ) → j < i → row_of g r₁ j ≡ f j
  pub rest : (j : ℕ) → Untouched g i j → at r₁ j ≡ at r₀ j

module _ (g : Bool) (f : ℕ → Control) (r₀ : List Float) where
  pub rows_start : InRows g f r₀ r₀ 0
  rows_start = record { long = refl; rows = λ j l. absurd (omega arith); rest = λ j u. refl }

  pub rows_more : (r₁ : List Float) (i : ℕ) → InRows g f r₀ r₁ i → (q : Control) → stored g q ≡ f i → (r₂ : List Float) → length r₂ ≡ length r₁ → RowPut g i q r₁ r₂ → InRows g f r₀ r₂ (i + 1)
  rows_more r₁ i I q Q r₂ L P = record {
    long = L ∙ I.long;
    rows = below_more (λ j. row_of g r₂ j ≡ f j) i (λ j k. rows_same g r₂ r₁ j (λ c b. P.rest (j * 4 + c) (inl (omega arith))) ∙ I.rows j k) (P.row ∙ Q);
    rest = λ j u. P.rest j (inr u) ∙ I.rest j (less j u);
  }
    where
      less : (j : ℕ) → Untouched g (i + 1) j → Untouched g i j
      less j (inl u) = inl (omega arith)
      less j (inr u) = inr u
