-- The loop that gives a curve's controls a knot more and brings them back to points: what is there after so many turns.
-- Assumes nothing.
use Rattle.std.specs.Prelude.{Ok, Err}
use Prim.Native.Nat.{ℕ, ◌+◌, ◌-◌, ◌*◌, ◌≤◌, ◌<◌}
use mathlib.Core.Bool.{Bool, true, false, ◌&&◌}
use mathlib.Core.Path.{◌≡◌, refl, sym, ◌∙◌, ap, ap₂, subst}
use mathlib.Core.Logic.{inl, inr}
use mathlib.Core.List.{List}
use native.Mathlib.Omega.{arith}
use borrow.Author.Tests.{leb-true}
use lib.ListN.{length}
use lib.Dec.{leb}
use lib.Ieee.{Float}
use Rattle.doubles.specs.Run.{at}
use Rattle.knots.specs.Below.{all_below, off_at}
use Rattle.knots.specs.Refusal.{refuse, placed, checked}
use Rattle.knots.specs.declared.refusal.Reason.TheVariants.{EditBad, PointNotFinite}
use Rattle.knots.specs.declared.refusal.Refusal.{Refusal}
use Rattle.knots.proofs.Below.{all_none, all_more, all-step, all-fails, all_end, off-cong}
use Rattle.runs.specs.Point.{finite_vector}
use Rattle.runs.specs.declared.vector.Vector.{Vector}
use Rattle.edits.specs.Control.{is_blended, share_of, blend_of, lower_of, vector_of}
use Rattle.insertion.specs.Insert.{blend_at}
use Rattle.edits.specs.Work.{knots_from}
use Rattle.edits.specs.Passes.{row_of, kept_row, stored, Untouched, RowPut}
use Rattle.insertion.specs.Passes.{blend_one, lower_refusal, LowerDone}
use Rattle.edits.specs.declared.control.Control.{Control}
use Rattle.edits.proofs.RowStores.{untouched-row, InRows, rows_start, rows_more}
use Rattle.edits.proofs.RowReads.{knot-from}

-- ---- a knot more, and back: i points and weights are there
abbrev low : Vector → Bool → (ℕ → Control) → ℕ → Control
low o g h i = stored g (kept_row (lower_of o (h i)) (h i).w)

pub record InLower (o : Vector) (g : Bool) (h : ℕ → Control) (m : ℕ) (r₀ r₁ : List Float) (ok : Bool) (before : Control) (i : ℕ) : Type 0 where
  pub upto : i ≤ m
  pub good : all_below (λ j. is_blended (h j)) i ≡ true
  pub fine : ok ≡ all_below (λ j. finite_vector (lower_of o (h j))) i
  pub last : before ≡ row_of g r₀ (i - 1)
  pub done : InRows g (low o g h) r₀ r₁ i

module _ (p k s : ℕ) (t : Float) (n a : ℕ) (o : Vector) (g : Bool) (r₀ : List Float) where
  abbrev blends : ℕ → Control
  blends = blend_at p k s t (knots_from a p n r₀) (row_of g r₀)

  pub lower-start : (before : Control) → before ≡ row_of g r₀ 0 → InLower o g blends (n + 1) r₀ r₀ true before 0
  lower-start before B = record {
    upto = omega arith;
    good = all_none (λ j. is_blended (blends j));
    fine = sym (all_none (λ j. finite_vector (lower_of o (blends j))));
    last = B;
    done = rows_start g (low o g blends) r₀;
  }

  module _ (S : s ≤ p) (P : p ≤ k) (K : k < n) (A : (n + 1) * 4 ≤ a) (r₁ : List Float) (fine : Bool) (before : Control) (i : ℕ) (I : InLower o g blends (n + 1) r₀ r₁ fine before i) (b : i ≤ n) where
    module _ (here : Control) (H : here ≡ row_of g r₁ i) (q : Control) (Q : q ≡ blend_one p k s t (λ j. at r₁ (a + j)) before here i) where
      here-is : here ≡ row_of g r₀ i
      here-is = H ∙ untouched-row g i r₁ r₀ I.done.rest

      knot-is : (j : ℕ) → j < n + p + 1 → at r₁ (a + j) ≡ at (knots_from a p n r₀) j
      knot-is j l = I.done.rest (a + j) (inl (omega arith)) ∙ sym (knot-from a p n r₀ j l)

      blend_is : q ≡ blends i
      unfolding blend_at blend_one
      blend_is = Q ∙ go (leb i (k - p)) refl (leb i (k - s)) refl
        where
          go : (x : Bool) → leb i (k - p) ≡ x → (y : Bool) → leb i (k - s) ≡ y → blend_one p k s t (λ j. at r₁ (a + j)) before here i ≡ blends i
          go true X y Y = simp X here-is
          go false X true Y =
              let c = leb-true i (k - s) Y in
              simp (X, Y) (moved I.last here-is (knot-is i (omega arith)) (knot-is (i + p) (omega arith)))
            where
              moved : {u u' v v' : Control} {x x' y y' : Float} → u ≡ u' → v ≡ v' → x ≡ x' → y ≡ y' → blend_of u v (share_of t x y) ≡ blend_of u' v' (share_of t x' y')
              moved U W X Y = rw (U, W, X, Y)
          go false X false Y = simp (X, Y) I.last

      pub lower-stop : is_blended q ≡ false → (r : Refusal) → r ≡ refuse EditBad → LowerDone o g blends (n + 1) r₀ r₁ (Err r)
      unfolding lower_refusal checked
      lower-stop e r R = record {
        answer = simp (all-fails (λ j. is_blended (blends j)) (n + 1) i (omega arith) (ap is_blended (sym blend_is) ∙ e)) (ap Err R);
        rows = λ z i l. cc;
        rest = λ j u. I.done.rest j (less j u);
      }
        where
          less : (j : ℕ) → Untouched g (n + 1) j → Untouched g i j
          less j (inl u) = inl (omega arith)
          less j (inr u) = inr u

      pub lower-more : is_blended q ≡ true → (v : Vector) → v ≡ lower_of o q → (f c : Bool) → f ≡ finite_vector v → c ≡ (fine && f)
          → (u : Control) → u ≡ kept_row v q.w → (r₂ : List Float) → length r₂ ≡ length r₁ → RowPut g i u r₁ r₂ → InLower o g blends (n + 1) r₀ r₂ c here (i + 1)
      lower-more e v W f c F C u U r₂ L R =
          let x : i + 1 - 1 ≡ i = omega arith in
          let A' : v ≡ lower_of o (blends i) = W ∙ ap (lower_of o) blend_is in
          record {
            upto = omega arith;
            good = all_more (λ j. is_blended (blends j)) i I.good (ap is_blended (sym blend_is) ∙ e);
            fine = C ∙ all-step (λ j. finite_vector (lower_of o (blends j))) i fine f I.fine (F ∙ ap finite_vector A');
            last = here-is ∙ ap (row_of g r₀) (sym x);
            done = rows_more g (low o g blends) r₀ r₁ i I.done u (ap (stored g) U ∙ ap₂ (λ (y : Vector) (w : Float). stored g (kept_row y w)) A' (ap (λ (z : Control). z.w) blend_is)) r₂ L R;
          }

  module _ (r₁ : List Float) (fine : Bool) (before : Control) (i : ℕ) (I : InLower o g blends (n + 1) r₀ r₁ fine before i) (b : n < i) where
    done_at : i ≡ n + 1
    done_at = let U = I.upto in omega arith

    blended : all_below (λ j. is_blended (blends j)) (n + 1) ≡ true
    blended = sym (all_end (λ j. is_blended (blends j)) (n + 1) i done_at I.good)

    whole : fine ≡ all_below (λ j. finite_vector (lower_of o (blends j))) (n + 1)
    whole = I.fine ∙ ap (all_below (λ j. finite_vector (lower_of o (blends j)))) done_at

    others : (j : ℕ) → Untouched g (n + 1) j → at r₁ j ≡ at r₀ j
    others = subst (λ (m : ℕ). (j : ℕ) → Untouched g m j → at r₁ j ≡ at r₀ j) done_at I.done.rest

    -- the rows hold the points: the first that is not finite is the first point that is not
    place_is : off_at (λ j. finite_vector (vector_of (row_of g r₁ j))) (n + 1) ≡ off_at (λ j. finite_vector (lower_of o (blends j))) (n + 1)
    place_is =
        off-cong (λ j. finite_vector (vector_of (row_of g r₁ j))) (λ j. finite_vector (lower_of o (blends j))) (n + 1)
        (λ j l. ap (λ (q : Control). finite_vector (vector_of q)) (I.done.rows j (omega (arith, done_at))))

    pub lower-bad : fine ≡ false → (r : Refusal) (k : ℕ) → k ≡ off_at (λ j. finite_vector (vector_of (row_of g r₁ j))) (n + 1) → r ≡ placed k (refuse PointNotFinite)
        → LowerDone o g blends (n + 1) r₀ r₁ (Err r)
    unfolding lower_refusal checked
    lower-bad e r k O R = record {
      answer = simp (blended, sym whole ∙ e) (ap Err (R ∙ ap (λ (i : ℕ). placed i (refuse PointNotFinite)) (O ∙ place_is)));
      rows = λ z i l. cc;
      rest = others;
    }

    pub lower-end : fine ≡ true → LowerDone o g blends (n + 1) r₀ r₁ (Ok tt)
    unfolding lower_refusal checked
    lower-end e = record {
      answer = simp (blended, sym whole ∙ e);
      rows = λ z. subst (λ (m : ℕ). (j : ℕ) → j < m → row_of g r₁ j ≡ low o g blends j) done_at I.done.rows;
      rest = others;
    }
