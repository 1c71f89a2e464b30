-- The rows that `bound_spans` and `bound_points` leave, read back: each is the answer on its span, so that its bounds hold the exact point, with its derivative or alone. Assumes nothing.
use Rattle.std.specs.Prelude.{Result, Ok, Err}
use Prim.Native.Nat.{ℕ, zero, suc, ◌+◌, ◌-◌, ◌*◌, ◌≤◌, ◌<◌}
use mathlib.Core.Bool.{Bool, true, false, cond}
use mathlib.Core.Path.{◌≡◌, refl, sym, ◌∙◌, ap, subst}
use mathlib.Core.List.{List, [], ◌∷◌, ◌++◌, append_assoc}
use native.Mathlib.Omega.{arith}
use native.Mathlib.Nat.{add-zero}
use lib.Dec.{eqb, ltb}
use lib.ListN.{length, get_or, replicate, get_or-append}
use lib.Seq.{get_or-append-add}
use lib.Ieee.{Float, nan}
use borrow.Author.Tests.{eqb-true}
use Rattle.exact.specs.Rational.{ℚ, ◌≤q◌}
use Rattle.doubles.specs.Run.{at}
use Rattle.doubles.specs.Value.{zero+, val}
use Rattle.knots.specs.Refusal.{refuse, accepted, numbered}
use Rattle.knots.specs.declared.refusal.Reason.TheVariants.{LengthBad, DegreeHigh}
use Rattle.knots.specs.Curve.{count_of, curve_refusal}
use Rattle.knots.specs.Shape.{degree_refusal, room_refusal}
use Rattle.knots.specs.Span.{nonempty}
use Rattle.knots.specs.declared.refusal.Refusal.{Refusal}
use Rattle.knots.proofs.Refusals.{row-both, or_else-none}
use Rattle.runs.specs.Fraction.{coordinate_value}
use Rattle.jets.specs.Three.{Three}
use Rattle.bounds.specs.Holds.{Holding, Boxed, PointBoxed, at-t, HoldsOn, NotIdle}
use Rattle.bounds.specs.Point.{point_only}
use Rattle.bounds.specs.Numbers.{six_of, bounded_refusal, bounded_values, point_refusal, point_values}
use Rattle.bounds.specs.Eighteen.{triple_by, bounds_by}
use Rattle.bounds.specs.declared.answer.Triple.{Triple}
use Rattle.bounds.specs.declared.answer.NurbsBounds.{NurbsBounds}
use Rattle.bounds.proofs.Idle.{Other, idle, or_else-other, curve-other, bound-idle}
use Rattle.bounds.proofs.Numbered.{Numbered, bound-numbered}
use Rattle.many.specs.Numbers.{many_answer_refusal}
use Rattle.many.specs.Rows.{rows_by, row_of, left, RowsMeet}
use Rattle.many.specs.Start.{table_refusal, rooms_refusal}
use Rattle.many.specs.Spans.{spans_from, spans_of, box_width, bound_in, mark_at, box_at, box_at_by, spans_start_by, BoxesMeet, SpansMeet, PointSpansMeet}
use Rattle.many.specs.RowsHold.{answer_at, answer_at_by, EachHolds, PointBoxHolds, RowsHold, PointRowsHold}
use Rattle.many.proofs.Said.{box-says}
use Rattle.many.proofs.Rows.{table-open}
use Rattle.many.proofs.Bounded.{row-holds, start-same}

-- number j of row i
rows_at : {X Y : Type 0} (f : X → List Y) (w : ℕ) → ((x : X) → length (f x) ≡ w) → (z : Y) (d : X) (xs : List X) (ys : List Y) (i j : ℕ) → i < length xs → j < w
    → get_or (rows_by f xs ++ ys) (i * w + j) z ≡ get_or (f (get_or xs i d)) j z
unfolding rows_by
rows_at f w e z d [] ys i j l m = absurd (omega arith)
rows_at {X} {Y} f w e z d (x ∷ xs) ys zero j l m =
    let h = e x in
    let k : zero * w + j ≡ j = omega arith in
    ap (λ (n : ℕ). get_or ((f x ++ rows_by f xs) ++ ys) n z) k
    ∙ (ap (λ (l : List Y). get_or l j z) (append_assoc (f x) (rows_by f xs) ys) ∙ get_or-append (f x) (rows_by f xs ++ ys) z j (omega (arith, h)))
rows_at {X} {Y} f w e z d (x ∷ xs) ys (suc i) j l m =
    let h = e x in
    let k : suc i * w + j ≡ length (f x) + (i * w + j) = omega (arith, h) in
    ap (λ (n : ℕ). get_or ((f x ++ rows_by f xs) ++ ys) n z) k
    ∙ (ap (λ (l : List Y). get_or l (length (f x) + (i * w + j)) z) (append_assoc (f x) (rows_by f xs) ys)
    ∙ (get_or-append-add (f x) (rows_by f xs ++ ys) (i * w + j) z ∙ rows_at f w e z d xs ys i j (omega arith) m))

-- each of the spans is one
pub record Spanned (ks : List Float) (from upto s : ℕ) : Type 0 where
  pub first : from ≤ s
  pub last : s < upto
  pub wide : nonempty ks s ≡ true

spans-in : (ks : List Float) (k s i : ℕ) → i < length (spans_from k ks s) → Spanned ks s (s + k) (get_or (spans_from k ks s) i 0)
unfolding spans_from
spans-in ks zero s i l = absurd (omega arith)
spans-in ks (suc k) s i l = go (nonempty ks s) refl i l (spans-in ks k (s + 1))
  where
    more : {x : ℕ} → Spanned ks (s + 1) (s + 1 + k) x → Spanned ks s (s + suc k) x
    more h = let a = h.first in let b = h.last in record { first = omega arith; last = omega arith; wide = h.wide }

    go : (b : Bool) → nonempty ks s ≡ b → (i : ℕ) → i < length (cond b (s ∷ []) [] ++ spans_from k ks (s + 1))
        → ((j : ℕ) → j < length (spans_from k ks (s + 1)) → Spanned ks (s + 1) (s + 1 + k) (get_or (spans_from k ks (s + 1)) j 0))
        → Spanned ks s (s + suc k) (get_or (cond b (s ∷ []) [] ++ spans_from k ks (s + 1)) i 0)
    go true e zero l rest = record { first = omega arith; last = omega arith; wide = e }
    go true e (suc i) l rest = more (rest i (omega arith))
    go false e i l rest = more (rest i l)

-- ---- a row read back
triple-same : (f g : ℕ → Float) (k : ℕ) → f k ≡ g k → f (k + 1) ≡ g (k + 1) → f (k + 2) ≡ g (k + 2) → f (k + 3) ≡ g (k + 3) → f (k + 4) ≡ g (k + 4) → f (k + 5) ≡ g (k + 5)
    → triple_by f k ≡ triple_by g k
triple-same f g k a b c d e h = rw (a, b, c, d, e, h)

bounds-same : (f g : ℕ → Float) → ((j : ℕ) → j < 18 → f j ≡ g j) → bounds_by f ≡ bounds_by g
bounds-same f g h =
    let p = triple-same f g 0 (h 0 (omega arith)) (h 1 (omega arith)) (h 2 (omega arith)) (h 3 (omega arith)) (h 4 (omega arith)) (h 5 (omega arith)) in
    let u = triple-same f g 6 (h 6 (omega arith)) (h 7 (omega arith)) (h 8 (omega arith)) (h 9 (omega arith)) (h 10 (omega arith)) (h 11 (omega arith)) in
    let v = triple-same f g 12 (h 12 (omega arith)) (h 13 (omega arith)) (h 14 (omega arith)) (h 15 (omega arith)) (h 16 (omega arith)) (h 17 (omega arith)) in
    rw (p, u, v)

-- what is asked of a row's answer, by the flag: that it holds vectors, and its number
abbrev RowBoxed : Bool → Result NurbsBounds Refusal → (ℕ → Three) → Type 0
RowBoxed true A e = PointBoxed (point_only A) (λ k. (e k).value)
RowBoxed false A e = Boxed A e

abbrev row_refusal : Bool → Result NurbsBounds Refusal → Refusal
row_refusal d A = cond d (point_refusal (point_only A)) (bounded_refusal A)

-- it holds what its answer holds, and has its number
pub record Back (d : Bool) (A B : Result NurbsBounds Refusal) : Type 0 where
  pub boxed : (e : ℕ → Three) → Boxed B e → RowBoxed d A e
  pub number : (bounded_refusal B).number ≡ (row_refusal d A).number

read_back : (d : Bool) (n : ℕ) (f : ℕ → Float) (A : Result NurbsBounds Refusal) → n ≡ (bounded_refusal A).number → Numbered A
    → ((j : ℕ) → j < box_width d → f j ≡ at (row_of (box_width d) (cond d (point_values (point_only A)) (bounded_values A))) j)
    → Back d (cond (eqb n 0) (Ok (bounds_by f)) (Err (numbered n))) A
read_back false n f (Ok b) e h same =
    subst (λ (k : ℕ). Back false (cond (eqb k 0) (Ok (bounds_by f)) (Err (numbered k))) (Ok b)) (sym e)
    (subst (λ (a : NurbsBounds). Back false (Ok a) (Ok b)) (sym (bounds-same f (at (bounded_values (Ok b))) same)) (record { boxed = λ e h. h; number = refl }))
read_back true n f (Ok b) e h same =
    let p = triple-same f (at (six_of b.point)) 0 (same 0 (omega arith)) (same 1 (omega arith)) (same 2 (omega arith)) (same 3 (omega arith)) (same 4 (omega arith)) (same 5 (omega arith)) in
    subst (λ (k : ℕ). Back true (cond (eqb k 0) (Ok (bounds_by f)) (Err (numbered k))) (Ok b)) (sym e)
    (record { boxed = λ e h. subst (λ (t : Triple). Holding t (λ k. (e k).value)) (sym p) h.point; number = refl })
read_back d n f (Err r) e h same = go d (eqb n 0) (eqb-true n 0)
  where
    go : (d b : Bool) → (b ≡ true → n ≡ 0) → Back d (cond b (Ok (bounds_by f)) (Err (numbered n))) (Err r)
    go d true z = absurd (h (sym e ∙ z refl))
    go true false z = record { boxed = λ e h. tt; number = sym e }
    go false false z = record { boxed = λ e h. tt; number = sym e }

-- ---- all rows
rooms-other : (a m b n : ℕ) → Other (rooms_refusal a m b n)
unfolding rooms_refusal room_refusal
rooms-other a m b n = or_else-other (room_refusal a m) (room_refusal b n) (row-both Other (ltb a m) (refuse LengthBad) accepted tt tt) (row-both Other (ltb b n) (refuse LengthBad) accepted tt tt)

table-other : (p : ℕ) (ks ps : List Float) (g : Bool) (ws : List Float) → Other (table_refusal p ks ps g ws)
unfolding table_refusal degree_refusal
table-other p ks ps g ws = or_else-other (curve_refusal p ks ps g ws) (degree_refusal p) (curve-other p ks ps g ws) (row-both Other (ltb 64 p) (refuse DegreeHigh) accepted tt tt)

abbrev Answered : Result ℕ Refusal → Type 0
Answered (Ok n) = Unit
Answered (Err r) = ⊥

abbrev count_in : Result ℕ Refusal → ℕ
count_in (Ok n) = n
count_in (Err r) = 0

-- what is said of row i, of span s
abbrev BoxHolds : ℕ → List Float → List Float → Bool → List Float → List ℕ → List Float → ℕ → ℕ → Type 0
BoxHolds p ks ps g ws marks boxes s i = let B = answer_at marks boxes i in HoldsOn p s ks (count_of ps) g ws (at ks s) (at ks (s + 1)) (coordinate_value ps) B × NotIdle (bounded_refusal B).number

-- the same by the flag
abbrev RowHolds : Bool → ℕ → List Float → List Float → Bool → List Float → List ℕ → List Float → ℕ → ℕ → Type 0
RowHolds true = PointBoxHolds
RowHolds false = BoxHolds

row_by : (d : Bool) (p : ℕ) (ks ps : List Float) (g : Bool) (ws : List Float) (marks : List ℕ) (boxes : List Float) (s i : ℕ) → let B = answer_at_by (box_width d) marks boxes i in
    ((t : ℚ) → val (at ks s) ≤q t → t ≤q val (at ks (s + 1)) → RowBoxed d B (λ k. at-t p ks (count_of ps) g ws s t (coordinate_value ps k))) → NotIdle (row_refusal d B).number
    → RowHolds d p ks ps g ws marks boxes s i
row_by true p ks ps g ws marks boxes s i h n = (h, n)
row_by false p ks ps g ws marks boxes s i h n = (h, n)

module _ (d : Bool) (p : ℕ) (ks ps : List Float) (g : Bool) (ws : List Float) where
  abbrev w : ℕ
  w = box_width d

  start-other : (a b : ℕ) → Other (spans_start_by p ks ps g ws w a b)
  unfolding spans_start_by
  start-other a b = or_else-other (table_refusal p ks ps g ws) (rooms_refusal a _ b _) (table-other p ks ps g ws) (rooms-other a _ b _)

  -- what is said of row i, of span s
  abbrev Row : List ℕ → List Float → ℕ → ℕ → Type 0
  Row marks boxes s i = RowHolds d p ks ps g ws marks boxes s i

  module _ (a b : ℕ) (marks : List ℕ) (boxes : List Float) (A : Result ℕ Refusal) (M : BoxesMeet p ks ps g ws d a b marks boxes A) where
    abbrev r : Refusal
    r = spans_start_by p ks ps g ws w a b

    abbrev spans : List ℕ
    spans = spans_of p ks ps

    start-idle : NotIdle (many_answer_refusal A).number
    start-idle = subst (λ (x : Result ℕ Refusal). NotIdle (many_answer_refusal x).number) (sym M.answered) (go (eqb r.number 0))
      where
        go : (x : Bool) → NotIdle (many_answer_refusal (cond x (Ok (length spans)) (Err r))).number
        go true = idle 0 tt
        go false = idle r.number (start-other a b)

    module _ (e : r.number ≡ 0) (i : ℕ) (l : i < length spans) where
      abbrev s : ℕ
      s = get_or spans i 0

      marks-are : marks ≡ rows_by (mark_at p ks ps g ws) spans ++ replicate (a - length (rows_by (mark_at p ks ps g ws) spans)) 0
      unfolding left
      marks-are = M.numbers ∙ rw e

      boxes-are : boxes ≡ rows_by (box_at_by p ks ps g ws d) spans ++ replicate (b - length (rows_by (box_at_by p ks ps g ws d) spans)) zero+
      unfolding left
      boxes-are = M.rows ∙ rw e

      mark-at : (j : ℕ) → j < 2 → get_or marks (i * 2 + j) 0 ≡ get_or (mark_at p ks ps g ws s) j 0
      mark-at j m = ap (λ (l : List ℕ). get_or l (i * 2 + j) 0) marks-are ∙ rows_at (mark_at p ks ps g ws) 2 (λ s. refl) 0 0 spans _ i j l m

      box-at : (j : ℕ) → j < w → at boxes (i * w + j) ≡ at (box_at_by p ks ps g ws d s) j
      box-at j m = ap (λ (l : List Float). at l (i * w + j)) boxes-are ∙ rows_at (box_at_by p ks ps g ws d) w (λ s. (box-says d (bound_in p ks ps g ws s)).count) nan 0 spans _ i j l m

      back : Back d (answer_at_by w marks boxes i) (bound_in p ks ps g ws s)
      back = read_back d (get_or marks (i * 2 + 1) 0) (λ j. at boxes (i * w + j)) (bound_in p ks ps g ws s) (mark-at 1 (omega arith)) (bound-numbered p ks ps ws g (at ks s) (at ks (s + 1))) box-at

      row_is : Row marks boxes s i
      unfolding spans_start_by
      row_is =
          let v = table-open p ks ps g ws (or_else-none (table_refusal p ks ps g ws) _ e).0 in
          let c = v.knots.count in
          let z = spans-in ks (count_of ps - p) p i l in
          let f = z.last in
          let h = row-holds p ks ps g ws v s z.first (omega arith) z.wide in
          row_by d p ks ps g ws marks boxes s i (λ t from upto. back.boxed _ (h t from upto)) (subst NotIdle back.number (bound-idle p ks ps ws g (at ks s) (at ks (s + 1))))

    pub rows-hold-by : EachHolds (Row marks boxes) marks A
    rows-hold-by = record { idle = start-idle; each = λ n e. go n (eqb r.number 0) (eqb-true r.number 0) (sym M.answered ∙ e) }
      where
        go : (n : ℕ) (x : Bool) → (x ≡ true → r.number ≡ 0) → cond x (Ok (length spans)) (Err r) ≡ Ok n → (i : ℕ) → i < n → Row marks boxes (get_or marks (i * 2) 0) i
        go n false z e i l = absurd (subst Answered (sym e) tt)
        go n true z e i l =
            let m : i < length spans = subst (λ (k : ℕ). i < k) (sym (ap count_in e)) l in
            let q : get_or marks (i * 2) 0 ≡ get_or spans i 0 = ap (λ (k : ℕ). get_or marks k 0) (sym (add-zero (i * 2))) ∙ mark-at (z refl) i m 0 (omega arith) in
            subst (λ (s : ℕ). Row marks boxes s i) (sym q) (row_is (z refl) i m)

-- both promises of each call
module _ (p : ℕ) (ks ps : List Float) (g : Bool) (ws : List Float) (a b : ℕ) (marks : List ℕ) (boxes : List Float) (A : Result ℕ Refusal) where
  -- eighteen numbers a box
  abbrev Meet : Refusal → Type 0
  Meet r = RowsMeet r (spans_of p ks ps) (mark_at p ks ps g ws) (box_at p ks ps g ws) a b marks boxes A

  pub spans-meet : BoxesMeet p ks ps g ws false a b marks boxes A → SpansMeet p ks ps g ws a b marks boxes A
  spans-meet M = subst Meet (start-same p ks ps g ws a b) M

  module _ (M : SpansMeet p ks ps g ws a b marks boxes A) where
    pub rows-hold : RowsHold p ks ps g ws marks boxes A
    rows-hold = let h = rows-hold-by false p ks ps g ws a b marks boxes A (subst Meet (sym (start-same p ks ps g ws a b)) M) in record { idle = h.idle; each = h.each }

    pub spans-promised : SpansMeet p ks ps g ws a b marks boxes A × RowsHold p ks ps g ws marks boxes A
    spans-promised = (M, rows-hold)

  pub points-promised : PointSpansMeet p ks ps g ws a b marks boxes A → PointSpansMeet p ks ps g ws a b marks boxes A × PointRowsHold p ks ps g ws marks boxes A
  points-promised M = (M, rows-hold-by true p ks ps g ws a b marks boxes A M)
