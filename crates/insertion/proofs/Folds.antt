-- The loop over a list of knots: what is left of the fold.
-- Assumes nothing.
use Rattle.std.specs.Prelude.{Ok, Err}
use Prim.Native.Nat.{ℕ, suc, ◌+◌, ◌-◌, ◌≤◌, ◌<◌}
use mathlib.Core.Bool.{Bool, not}
use mathlib.Core.Path.{◌≡◌, refl, sym, ◌∙◌, ap, subst}
use mathlib.Core.List.{List, [], ◌∷◌}
use native.Mathlib.Omega.{arith}
use native.Mathlib.Nat.{add-zero}
use native.Mathlib.Numerals.{add-one}
use lib.ListN.{length, drop, replicate, drop_of_length-le}
use lib.Seq.{drop-cons}
use lib.Ieee.{Float, nan}
use Rattle.doubles.specs.Run.{at}
use Rattle.knots.specs.Below.{all_below}
use Rattle.knots.specs.Refusal.{refuse}
use Rattle.knots.specs.declared.refusal.Reason.TheVariants.{ControlBad, EditBad}
use Rattle.knots.specs.Knots.{ValidKnots}
use Rattle.knots.specs.Curve.{ValidControls}
use Rattle.knots.specs.Span.{span_of}
use Rattle.knots.specs.declared.refusal.Refusal.{Refusal}
use Rattle.knots.proofs.Refusals.{or_else-none, passed, let_by, skip, stop, stopped_by}
use Rattle.knots.proofs.Curves.{valid-formed}
use Rattle.edits.specs.Control.{is_lifted, is_blended}
use Rattle.edits.specs.Counts.{multiplicity_of}
use Rattle.insertion.specs.Insert.{more_knots, spot_refusal, lifted, blended, more_points, more_weights, form_refusal, inserted_knots, inserted_points, inserted_weights, insert_refusal}
use Rattle.insertion.specs.Fold.{insert_all}
use Rattle.edits.specs.Outcome.{Outcome, gives, refuses}
use Rattle.edits.specs.Work.{knots_from, points_from, weights_from}
use Rattle.edits.specs.Passes.{Untouched, Outside}
use Rattle.insertion.specs.Passes.{Inserted, ListMeets}
use Rattle.insertion.proofs.OneInsertion.{untouched-less, outside-less}

-- ---- what an insertion that is not refused forms
module _ (p n : ℕ) (ks ps : List Float) (g : Bool) (ws : List Float) (t : Float) where
  pub inserted-formed : (insert_refusal p n ks ps g ws t).number ≡ 0
      → ValidKnots p (n + 1) (inserted_knots p n ks ps g ws t) × ValidControls (n + 1) (inserted_points p n ks ps g ws t) g (inserted_weights p n ks ps g ws t)
  unfolding insert_refusal form_refusal inserted_knots inserted_points inserted_weights
  inserted-formed h =
      let k = span_of p n ks t in
      let s = multiplicity_of ks t in
      let a = or_else-none (spot_refusal (at ks p) (at ks n) t p s) (form_refusal p n k s t ks ps g ws) h in
      let b = passed (not (all_below (λ i. is_lifted (lifted p n k s t ks ps g ws i)) n)) (refuse ControlBad) _ (λ e. omega arith) a.1 in
      let c = passed (not (all_below (λ i. is_blended (blended p n k s t ks ps g ws i)) (n + 1))) (refuse EditBad) _ (λ e. omega arith) b.1 in
      valid-formed p (n + 1) (more_knots k t ks) (more_points p n k s t ks ps g ws) g (more_weights p n k s t ks ps g ws) c.1

  pub inserted-valid : (insert_refusal p n ks ps g ws t).number ≡ 0 → ValidKnots p (n + 1) (inserted_knots p n ks ps g ws t)
  inserted-valid h = (inserted-formed h).0

-- ---- the loop: n points so far, and what is left to insert
pub record Going (a p : ℕ) (g : Bool) (goal : Outcome) (w₀ w₁ : List Float) (n : ℕ) (rest : List Float) : Type 0 where
  pub valid : ValidKnots p n (knots_from a p n w₁)
  pub left : goal ≡ insert_all p g n (knots_from a p n w₁) (points_from n w₁) (weights_from g n w₁) rest
  pub others : (j : ℕ) → Untouched g n j → Outside a p n j → at w₁ j ≡ at w₀ j

module _ (a p : ℕ) (g : Bool) (goal : Outcome) (w₀ w₁ : List Float) (n : ℕ) where
  module _ (t : Float) (rest : List Float) (G : Going a p g goal w₀ w₁ n (t ∷ rest)) (w₂ : List Float) where
    going-refuses : (r : Refusal) → Inserted a p n (knots_from a p n w₁) (points_from n w₁) g (weights_from g n w₁) t w₁ w₂ (Err r) → (m : ℕ) → ListMeets a p m g w₀ goal w₂ (Err r)
    unfolding insert_all ListMeets
    going-refuses r I m =
        let e : goal ≡ refuses r = G.left ∙ simp (stop _ I.refusal) (ap refuses (sym (stopped_by _ I.refusal).0)) in
        rw e refl

    going_more : Inserted a p n (knots_from a p n w₁) (points_from n w₁) g (weights_from g n w₁) t w₁ w₂ (Ok tt) → Going a p g goal w₀ w₂ (n + 1) rest
    unfolding insert_all
    going_more I =
        let e : (insert_refusal p n (knots_from a p n w₁) (points_from n w₁) g (weights_from g n w₁) t).number ≡ 0 = let_by _ I.refusal in
        let v = inserted-valid p n (knots_from a p n w₁) (points_from n w₁) g (weights_from g n w₁) t e in
        let H = I.holds refl in
        record {
          valid = subst (ValidKnots p (n + 1)) (sym H.knots) v;
          left = G.left ∙ simp (skip _ I.refusal) (moved (sym H.knots) (sym H.points) (sym H.weights));
          others = λ j u o. H.rest j u o ∙ G.others j (untouched-less g n j u) (outside-less a p n j o);
        }
      where
        moved : {i i' j j' l l' : List Float} → i ≡ i' → j ≡ j' → l ≡ l' → insert_all p g (n + 1) i j l rest ≡ insert_all p g (n + 1) i' j' l' rest
        moved X Y Z = rw (X, Y, Z)

  going_done : Going a p g goal w₀ w₁ n [] → ListMeets a p n g w₀ goal w₁ (Ok tt)
  unfolding insert_all ListMeets
  going_done G =
      let e : goal ≡ gives (knots_from a p n w₁) (points_from n w₁) (weights_from g n w₁) = G.left in
      rw e ((refl, record { knots = refl; points = refl; weights = refl; rest = G.others }))

-- ---- i of the m knots of a list ts are inserted, and left i is what is left of it
module _ (a p : ℕ) (g : Bool) (n m : ℕ) (ts : List Float) (left : ℕ → List Float) (w₀ : List Float) where
  abbrev aim : Outcome
  aim = insert_all p g n (knots_from a p n w₀) (points_from n w₀) (weights_from g n w₀) ts

  pub record InTurns (w₁ : List Float) (i : ℕ) : Type 0 where
    pub upto : i ≤ m
    pub long : length w₁ ≡ length w₀
    pub going : Going a p g aim w₀ w₁ (n + i) (left i)

  pub turns-start : ts ≡ left 0 → ValidKnots p n (knots_from a p n w₀) → InTurns w₀ 0
  turns-start A v = record {
    upto = omega arith;
    long = refl;
    going =
        subst
        (λ (k : ℕ). Going a p g aim w₀ w₀ k (left 0)) (sym (add-zero n))
        (record { valid = v; left = ap (insert_all p g n (knots_from a p n w₀) (points_from n w₀) (weights_from g n w₀)) A; others = λ j u o. refl });
  }

  module _ (w₁ : List Float) (i : ℕ) (I : InTurns w₁ i) where
    module _ (b : i < m) where
      module _ (t : Float) (T : left i ≡ t ∷ left (i + 1)) (w₂ : List Float) where
        next : Going a p g aim w₀ w₁ (n + i) (t ∷ left (i + 1))
        next = subst (λ (l : List Float). Going a p g aim w₀ w₁ (n + i) l) T I.going

        pub turns-stop : (r : Refusal) → Inserted a p (n + i) (knots_from a p (n + i) w₁) (points_from (n + i) w₁) g (weights_from g (n + i) w₁) t w₁ w₂ (Err r)
            → ListMeets a p (n + m) g w₀ aim w₂ (Err r)
        turns-stop r D = going-refuses a p g aim w₀ w₁ (n + i) t (left (i + 1)) next w₂ r D (n + m)

        pub turns_more : Inserted a p (n + i) (knots_from a p (n + i) w₁) (points_from (n + i) w₁) g (weights_from g (n + i) w₁) t w₁ w₂ (Ok tt) → length w₂ ≡ length w₁ → InTurns w₂ (i + 1)
        turns_more D L =
            let e : n + i + 1 ≡ n + (i + 1) = omega arith in
            record {
              upto = omega arith;
              long = L ∙ I.long;
              going = subst (λ (k : ℕ). Going a p g aim w₀ w₂ k (left (i + 1))) e (going_more a p g aim w₀ w₁ (n + i) t (left (i + 1)) next w₂ D);
            }

    pub turns-end : m ≤ i → left m ≡ [] → ListMeets a p (n + m) g w₀ aim w₁ (Ok tt)
    turns-end b E =
        let U = I.upto in
        let e : i ≡ m = omega arith in
        subst (λ (k : ℕ). ListMeets a p (n + k) g w₀ aim w₁ (Ok tt)) e
        (going_done a p g aim w₀ w₁ (n + i) (subst (λ (l : List Float). Going a p g aim w₀ w₁ (n + i) l) (ap left e ∙ E) I.going))

-- of a list
pub drop-next : (ts : List Float) (i : ℕ) → i < length ts → drop i ts ≡ at ts i ∷ drop (i + 1) ts
drop-next ts i b = drop-cons ts i nan b ∙ ap (λ (m : ℕ). at ts i ∷ drop m ts) (sym (add-one i))

pub drop-last : (ts : List Float) → drop (length ts) ts ≡ []
drop-last ts = drop_of_length-le ts {i = length ts} (omega arith)

-- of one knot
pub more-next : (t : Float) (m i : ℕ) → i < m → replicate (m - i) t ≡ t ∷ replicate (m - (i + 1)) t
more-next t m i b = let e : m - i ≡ suc (m - (i + 1)) = omega arith in ap (λ (k : ℕ). replicate k t) e

pub more-last : (t : Float) (m : ℕ) → replicate (m - m) t ≡ []
more-last t m = let e : m - m ≡ 0 = omega arith in ap (λ (k : ℕ). replicate k t) e
