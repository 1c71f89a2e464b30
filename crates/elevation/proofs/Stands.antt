-- The segments of a raised curve, one after the other: where its knots and its controls stand. Segment j goes from the break a on, bs are the breaks after a, and st is
-- the place of its first control.
-- Assumes nothing.
use Prim.Native.Nat.{ℕ, zero, suc, ◌+◌, ◌-◌, ◌≤◌, ◌<◌}
use mathlib.Core.Bool.{Bool, true, false, not}
use mathlib.Core.Path.{◌≡◌, refl, sym, ◌∙◌, ap}
use mathlib.Core.List.{List, [], ◌∷◌, ◌++◌, append-nil, append_assoc}
use native.Mathlib.Omega.{arith}
use native.Mathlib.Nat.{add-zero, zero-add}
use lib.ListN.{length, drop, replicate, get_or, get_or-replicate, length-replicate, get_or-append}
use lib.Seq.{drop_at, drop-drop, get_or-drop}
use lib.Ieee.{Float, nan}
use Rattle.exact.specs.Bernstein.{Segment}
use Rattle.doubles.specs.Run.{at, val_at}
use Rattle.doubles.specs.Value.{val}
use Rattle.edits.specs.Counts.{bit}
use Rattle.edits.specs.declared.control.Control.{Control}
use Rattle.elevation.specs.Breaks.{is_full}
use Rattle.elevation.specs.Elevate.{break_knots, controls_of, segment_of, added_by, kept_from, kept_all}
use Rattle.elevation.specs.Joined.{part_of, joined_from, joined_all}

-- ---- the definition over doubles joins in this way
module _ (p e : ℕ) (ks : List Float) (h : ℕ → Control) where
  controls-part : (j i m : ℕ) → controls_of (segment_of p e h j) i m ≡ part_of p e ks (segment_of p e h) j i m
  unfolding controls_of part_of
  controls-part j i zero = refl
  controls-part j i (suc m) = ap (λ (l : List Control). segment_of p e h j i ∷ l) (controls-part j (i + 1) m)

  kept_from-joined : (j : ℕ) (bs : List Float) → kept_from p e ks h j bs ≡ joined_from p e ks (segment_of p e h) j bs
  unfolding kept_from joined_from added_by
  kept_from-joined j [] = refl
  kept_from-joined j (t ∷ bs) = rw (controls-part j (bit (not (is_full p ks t))) (e + bit (is_full p ks t)), kept_from-joined (j + 1) bs)

  pub kept-joined : (bs : List Float) → kept_all p e ks h bs ≡ joined_all p e ks (segment_of p e h) bs
  unfolding kept_all joined_all added_by
  kept-joined bs = rw (controls-part 0 0 (e + 1), kept_from-joined 1 bs)

-- ---- the controls
module _ {X : Type 0} (p e : ℕ) (ks : List Float) (seg : ℕ → ℕ → X) (d : X) (L : List X) where
  part-long : (j i m : ℕ) → length (part_of p e ks seg j i m) ≡ m
  unfolding part_of
  part-long j i zero = refl
  part-long j i (suc m) = ap suc (part-long j (i + 1) m)

  part_at : (j i m k : ℕ) → k < m → get_or (part_of p e ks seg j i m) k d ≡ seg j (i + k)
  unfolding part_of
  part_at j i zero k l = absurd (omega arith)
  part_at j i (suc m) zero l = ap (seg j) (sym (add-zero i))
  part_at j i (suc m) (suc k) l = part_at j (i + 1) m k (omega arith) ∙ ap (seg j) (omega arith)

  -- segment j stands at st, and the segments after it follow
  pub record OnControls (st j : ℕ) (bs : List Float) : Type 0 where
    pub here : (i : ℕ) → i ≤ e → get_or L (st + i) d ≡ seg j i
    pub rest : drop (st + e + 1) L ≡ joined_from p e ks seg (j + 1) bs

  pub controls-next : (st j : ℕ) (t : Float) (bs : List Float) → OnControls st j (t ∷ bs) → (is_full p ks t ≡ false → seg (j + 1) 0 ≡ seg j e) → OnControls (st + e + bit (is_full p ks t)) (j + 1) bs
  unfolding joined_from
  controls-next st j t bs O share = go (is_full p ks t) refl O.rest
    where
      added : (y : Bool) → List X
      added y = part_of p e ks seg (j + 1) (bit (not y)) (e + bit y)

      new : (y : Bool) → drop (st + e + 1) L ≡ added y ++ joined_from p e ks seg (j + 1 + 1) bs → (k : ℕ) → k < e + bit y → get_or L (st + e + 1 + k) d ≡ seg (j + 1) (bit (not y) + k)
      new y r k l =
          sym (get_or-drop (st + e + 1) L k d) ∙ ap (λ (l : List X). get_or l k d) r
          ∙ get_or-append (added y) (joined_from p e ks seg (j + 1 + 1) bs) d k (omega (arith, part-long (j + 1) (bit (not y)) (e + bit y))) ∙ part_at (j + 1) (bit (not y)) (e + bit y) k l

      after : (y : Bool) → drop (st + e + 1) L ≡ added y ++ joined_from p e ks seg (j + 1 + 1) bs → drop (st + e + bit y + e + 1) L ≡ joined_from p e ks seg (j + 1 + 1) bs
      after y r =
          let x : st + e + bit y + e + 1 ≡ st + e + 1 + (e + bit y) = omega arith in
          ap (λ (i : ℕ). drop i L) x ∙ sym (drop-drop (e + bit y) (st + e + 1) L) ∙ ap (drop (e + bit y)) r
          ∙ drop_at (added y) (joined_from p e ks seg (j + 1 + 1) bs) (e + bit y) (part-long (j + 1) (bit (not y)) (e + bit y))

      go : (y : Bool) → is_full p ks t ≡ y → drop (st + e + 1) L ≡ added y ++ joined_from p e ks seg (j + 1 + 1) bs → OnControls (st + e + bit y) (j + 1) bs
      go true q r = record {
        here = λ i l. new true r i (omega arith) ∙ ap (seg (j + 1)) (zero-add i);
        rest = after true r;
      }
      go false q r = record { here = λ i l. first i l; rest = after false r }
        where
          first : (i : ℕ) → i ≤ e → get_or L (st + e + 0 + i) d ≡ seg (j + 1) i
          first zero l = let x : st + e + 0 + 0 ≡ st + e = omega arith in ap (λ (i : ℕ). get_or L i d) x ∙ O.here e (omega arith) ∙ sym (share q)
          first (suc i) l = let x : st + e + 0 + suc i ≡ st + e + 1 + i = omega arith in ap (λ (i : ℕ). get_or L i d) x ∙ new false r i (omega arith) ∙ ap (seg (j + 1)) (omega arith)

pub controls-first : {X : Type 0} (p e : ℕ) (ks : List Float) (seg : ℕ → ℕ → X) (d : X) (bs : List Float) → OnControls p e ks seg d (joined_all p e ks seg bs) 0 0 bs
unfolding joined_all
controls-first p e ks seg d bs =
    let A = part_of p e ks seg 0 0 (e + 1) in
    let B = joined_from p e ks seg 1 bs in
    let L = part-long p e ks seg d (joined_all p e ks seg bs) 0 0 (e + 1) in
    record {
      here = λ i l.
          ap (λ (m : ℕ). get_or (A ++ B) m d) (zero-add i) ∙ get_or-append A B d i (omega arith)
          ∙ part_at p e ks seg d (joined_all p e ks seg bs) 0 0 (e + 1) i (omega arith) ∙ ap (seg 0) (zero-add i);
      rest = let x : 0 + e + 1 ≡ e + 1 = omega arith in ap (λ (m : ℕ). drop m (A ++ B)) x ∙ drop_at A B (e + 1) L;
    }

-- ---- the raised knots
module _ (p e : ℕ) (ks : List Float) (hi : Float) (ke : List Float) where
  -- e knots from st + 1 on are a, and the breaks after it follow
  pub record OnKnots (a : Float) (st : ℕ) (bs : List Float) : Type 0 where
    pub here : (i : ℕ) → 0 < i → i ≤ e → at ke (st + i) ≡ a
    pub rest : drop (st + e + 1) ke ≡ break_knots p e ks bs ++ replicate (e + 1) hi

  -- m times t stand at the front of what follows
  follows : (st m : ℕ) (t : Float) (xs : List Float) → drop (st + e + 1) ke ≡ replicate m t ++ xs → (i : ℕ) → i < m → at ke (st + e + 1 + i) ≡ t
  follows st m t xs r i l =
      sym (get_or-drop (st + e + 1) ke i nan) ∙ ap (λ (l : List Float). at l i) r ∙ get_or-append (replicate m t) xs nan i (omega (arith, length-replicate m t)) ∙ get_or-replicate m i t nan l

  follow : (st : ℕ) (t : Float) (bs : List Float) → drop (st + e + 1) ke ≡ break_knots p e ks (t ∷ bs) ++ replicate (e + 1) hi
      → drop (st + e + 1) ke ≡ replicate (e + bit (is_full p ks t)) t ++ (break_knots p e ks bs ++ replicate (e + 1) hi)
  unfolding break_knots
  follow st t bs r = r ∙ append_assoc (replicate (e + bit (is_full p ks t)) t) (break_knots p e ks bs) (replicate (e + 1) hi)

  segment-by : (a z : Float) (st : ℕ) → ((i : ℕ) → 0 < i → i ≤ e → at ke (st + i) ≡ a) → ((i : ℕ) → i < e → at ke (st + e + 1 + i) ≡ z) → Segment (val_at ke) (val a) (val z) e st
  segment-by a z st l r = record {
    left = λ i x y. ap val (l i x y);
    right = λ i x y. let q : st + i ≡ st + e + 1 + (i - (e + 1)) = omega arith in ap (val_at ke) q ∙ ap val (r (i - (e + 1)) (omega arith));
  }

  module _ (a : Float) (st : ℕ) where
    pub knots-last : OnKnots a st [] → Segment (val_at ke) (val a) (val hi) e st
    unfolding break_knots
    knots-last O = segment-by a hi st O.here (λ i l. follows st (e + 1) hi [] (O.rest ∙ tail) i (omega arith))
      where
        tail : replicate (e + 1) hi ≡ replicate (e + 1) hi ++ []
        tail = sym (append-nil (replicate (e + 1) hi))

    module _ (t : Float) (bs : List Float) (O : OnKnots a st (t ∷ bs)) where
      pub knots-one : Segment (val_at ke) (val a) (val t) e st
      knots-one = segment-by a t st O.here (λ i l. follows st (e + bit (is_full p ks t)) t (break_knots p e ks bs ++ replicate (e + 1) hi) (follow st t bs O.rest) i (omega arith))

      pub knots-next : OnKnots t (st + e + bit (is_full p ks t)) bs
      knots-next = go (is_full p ks t) (follow st t bs O.rest)
        where
          go : (y : Bool) → drop (st + e + 1) ke ≡ replicate (e + bit y) t ++ (break_knots p e ks bs ++ replicate (e + 1) hi) → OnKnots t (st + e + bit y) bs
          go y r = record {
            here = λ i x l.
                let q : st + e + bit y + i ≡ st + e + 1 + (bit y + i - 1) = omega arith in
                ap (at ke) q ∙ follows st (e + bit y) t (break_knots p e ks bs ++ replicate (e + 1) hi) r (bit y + i - 1) (omega arith);
            rest =
                let x : st + e + bit y + e + 1 ≡ st + e + 1 + (e + bit y) = omega arith in
                ap (λ (i : ℕ). drop i ke) x ∙ sym (drop-drop (e + bit y) (st + e + 1) ke) ∙ ap (drop (e + bit y)) r
                ∙ drop_at (replicate (e + bit y) t) (break_knots p e ks bs ++ replicate (e + 1) hi) (e + bit y) (length-replicate (e + bit y) t);
          }
