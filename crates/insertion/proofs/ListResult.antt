-- What a list of knots makes of a curve that it is inserted into.
-- Assumes nothing.
use Prim.Native.Nat.{ℕ, zero, suc, ◌+◌, ◌*◌, ◌≤◌, ◌<◌}
use mathlib.Core.Bool.{Bool, true, false, cond, ◌&&◌}
use mathlib.Core.Path.{◌≡◌, refl, sym, ◌∙◌, ap, ap₂, subst}
use mathlib.Core.List.{List, [], ◌∷◌, ◌++◌}
use native.Mathlib.Omega.{arith}
use native.Mathlib.Nat.{add-zero}
use borrow.Author.Tests.{eqb-true, eqb-false}
use lib.ListN.{length, take, drop, replicate, length-take, length-drop}
use lib.Seq.{get_or-take, get_or-drop, ext_get_or}
use lib.Dec.{eqb}
use lib.Ieee.{Float, nan, lt, eq}
use Rattle.doubles.specs.Run.{at}
use Rattle.knots.specs.Knots.{ValidKnots}
use Rattle.knots.specs.Curve.{ValidControls}
use Rattle.knots.specs.Span.{SpanAt, span_of}
use Rattle.runs.proofs.Tabulated.{at-tabulate, length-tabulate}
use Rattle.insertion.specs.Placed.{Each}
use Rattle.edits.specs.Counts.{bit, count_below, multiplicity_of, below_of, all_equal}
use Rattle.edits.specs.Rows.{given}
use Rattle.insertion.specs.Insert.{knot_at, more_knots, inside, more_points, more_weights, inserted_knots, inserted_points, inserted_weights, insert_refusal}
use Rattle.insertion.specs.Fold.{insert_all}
use Rattle.edits.specs.Outcome.{Outcome, gives, refuses}
use Rattle.edits.specs.Start.{clamped_ends}
use Rattle.insertion.proofs.Storing.{knot-low, knot-high}
use Rattle.insertion.proofs.Domain.{spot}
use Rattle.insertion.proofs.Folds.{inserted-formed, inserted-valid}
use Rattle.insertion.proofs.KnotCounts.{count-grown}

-- ---- lists
-- every number of a list lies strictly inside the domain
abbrev pub AllInside : ℕ → ℕ → List Float → List Float → Type 0
AllInside p n ks = Each (λ t. inside (at ks p) (at ks n) t ≡ true)

-- how many numbers of a list pass a test
unfoldable pub count_in : (Float → Bool) → List Float → ℕ
count_in f [] = 0
count_in f (t ∷ ts) = bit (f t) + count_in f ts

pub each_append : (P : Float → Type 0) (ts us : List Float) → Each P ts → Each P us → Each P (ts ++ us)
each_append P [] us a b = b
each_append P (t ∷ ts) us a b = (a.0, each_append P ts us a.1 b)

pub each-replicate : (P : Float → Type 0) (m : ℕ) (t : Float) → P t → Each P (replicate m t)
each-replicate P zero t h = tt
each-replicate P (suc m) t h = (h, each-replicate P m t h)

pub each_map : (P Q : Float → Type 0) → ((t : Float) → P t → Q t) → (ts : List Float) → Each P ts → Each Q ts
each_map P Q h [] a = tt
each_map P Q h (t ∷ ts) a = (h t a.0, each_map P Q h ts a.1)

pub count-append : (f : Float → Bool) (ts us : List Float) → count_in f (ts ++ us) ≡ count_in f ts + count_in f us
unfolding count_in
count-append f [] us = omega arith
count-append f (t ∷ ts) us = omega (arith, count-append f ts us)

pub count-replicate : (f : Float → Bool) (m : ℕ) (t : Float) → count_in f (replicate m t) ≡ m * bit (f t)
unfolding count_in
count-replicate f zero t = omega arith
count-replicate f (suc m) t = omega (arith, count-replicate f m t)

-- ---- a list after a list
abbrev pub and_then : Outcome → (List Float → List Float → List Float → Outcome) → Outcome
and_then (gives ks ps ws) f = f ks ps ws
and_then (refuses r) f = refuses r

-- the first knot is inserted or refused
pub by_number : (x : ℕ) (Q : Bool → Type 0) → (x ≡ 0 → Q true) → ((x ≡ 0 → ⊥) → Q false) → Q (eqb x 0)
by_number x Q y z = go (eqb x 0) refl
  where
    go : (b : Bool) → eqb x 0 ≡ b → Q b
    go true e = y (eqb-true x 0 e)
    go false e = z (eqb-false x 0 e)

-- the others, into what it forms
abbrev pub others : ℕ → Bool → ℕ → List Float → List Float → List Float → Float → List Float → Outcome
others p g n ks ps ws t ts = insert_all p g (n + 1) (inserted_knots p n ks ps g ws t) (inserted_points p n ks ps g ws t) (inserted_weights p n ks ps g ws t) ts

pub insert-append : (p : ℕ) (g : Bool) (n : ℕ) (ks ps ws ts us : List Float)
    → insert_all p g n ks ps ws (ts ++ us) ≡ and_then (insert_all p g n ks ps ws ts) (λ ks' ps' ws'. insert_all p g (n + length ts) ks' ps' ws' us)
unfolding insert_all
insert-append p g n ks ps ws [] us = ap (λ (m : ℕ). insert_all p g m ks ps ws us) (sym (add-zero n))
insert-append p g n ks ps ws (t ∷ ts) us =
    let R = insert_refusal p n ks ps g ws t in
    let e : n + 1 + length ts ≡ n + suc (length ts) = omega arith in
    by_number R.number
    (λ b. cond b (others p g n ks ps ws t (ts ++ us)) (refuses R) ≡ and_then (cond b (others p g n ks ps ws t ts) (refuses R)) (λ ks' ps' ws'. insert_all p g (n + suc (length ts)) ks' ps' ws' us))
    (λ z. insert-append p g (n + 1) (inserted_knots p n ks ps g ws t) (inserted_points p n ks ps g ws t) (inserted_weights p n ks ps g ws t) ts us
    ∙ ap (λ (m : ℕ). and_then (others p g n ks ps ws t ts) (λ ks' ps' ws'. insert_all p g m ks' ps' ws' us)) e)
    (λ z. refl)

-- ---- what a list that is inserted makes of a curve
pub record Made (p : ℕ) (g : Bool) (n : ℕ) (ks ps ws ts ks' ps' ws' : List Float) : Type 0 where
  pub valid : ValidKnots p (n + length ts) ks'
  pub points : length ps ≡ n * 3 → length ps' ≡ (n + length ts) * 3
  pub weights : length ws ≡ given g n → length ws' ≡ given g (n + length ts)
  pub counts : (f : Float → Bool) → count_below (λ j. f (at ks' j)) (length ks') ≡ count_below (λ j. f (at ks j)) (length ks) + count_in f ts
  pub front : (j : ℕ) → j ≤ p → at ks' j ≡ at ks j
  pub back : (j : ℕ) → n ≤ j → j < length ks → at ks' (j + length ts) ≡ at ks j

-- one knot
module _ (p n : ℕ) (ks ps : List Float) (g : Bool) (ws : List Float) (t : Float) (v : ValidKnots p n ks) (z : (insert_refusal p n ks ps g ws t).number ≡ 0) where
  goes : SpanAt p n ks t (span_of p n ks t)
  goes = (spot p n ks ps g ws t v z).span

  one-points : length (inserted_points p n ks ps g ws t) ≡ (n + 1) * 3
  unfolding inserted_points more_points
  one-points = length-tabulate ((n + 1) * 3) _

  one-weights : length (inserted_weights p n ks ps g ws t) ≡ given g (n + 1)
  unfolding inserted_weights more_weights
  one-weights = length-tabulate (given g (n + 1)) _

  pub one-counts : (f : Float → Bool) → count_below (λ j. f (at (inserted_knots p n ks ps g ws t) j)) (length (inserted_knots p n ks ps g ws t)) ≡ count_below (λ j. f (at ks j)) (length ks) + bit (f t)
  unfolding inserted_knots
  one-counts f = let s = goes.below in let l = v.long in count-grown f (span_of p n ks t) t ks (omega arith)

  pub one-front : (j : ℕ) → j ≤ p → at (inserted_knots p n ks ps g ws t) j ≡ at ks j
  unfolding inserted_knots more_knots
  one-front j b =
      let s = goes.from in
      let q = goes.below in
      let l = v.long in
      at-tabulate (length ks + 1) (knot_at (span_of p n ks t) t ks) j (omega arith) ∙ sym (knot-low (span_of p n ks t) t ks j (omega arith))

  pub one-back : (j : ℕ) → n ≤ j → j < length ks → at (inserted_knots p n ks ps g ws t) (j + 1) ≡ at ks j
  unfolding inserted_knots more_knots
  one-back j b c = let s = goes.below in at-tabulate (length ks + 1) (knot_at (span_of p n ks t) t ks) (j + 1) (omega arith) ∙ sym (knot-high (span_of p n ks t) t ks j (omega arith))

  -- then the others
  made_more : (ts ks' ps' ws' : List Float) → Made p g (n + 1) (inserted_knots p n ks ps g ws t) (inserted_points p n ks ps g ws t) (inserted_weights p n ks ps g ws t) ts ks' ps' ws'
      → Made p g n ks ps ws (t ∷ ts) ks' ps' ws'
  unfolding count_in
  made_more ts ks' ps' ws' M =
      let e : n + 1 + length ts ≡ n + suc (length ts) = omega arith in
      let L : length (inserted_knots p n ks ps g ws t) ≡ n + 1 + p + 1 = (inserted-valid p n ks ps g ws t z).long in
      let l = v.long in
      record {
        valid = subst (λ (m : ℕ). ValidKnots p m ks') e M.valid;
        points = λ h. subst (λ (m : ℕ). length ps' ≡ m * 3) e (M.points one-points);
        weights = λ h. subst (λ (m : ℕ). length ws' ≡ given g m) e (M.weights one-weights);
        counts = λ f. omega (arith, M.counts f, one-counts f);
        front = λ j b. M.front j b ∙ one-front j b;
        back = λ j b c.
            let q : j + 1 + length ts ≡ j + suc (length ts) = omega arith in
            subst (λ (m : ℕ). at ks' m ≡ at ks j) q (M.back (j + 1) (omega arith) (omega arith) ∙ one-back j b c);
      }

made_none : (p : ℕ) (g : Bool) (n : ℕ) (ks ps ws : List Float) → ValidKnots p n ks → Made p g n ks ps ws [] ks ps ws
unfolding count_in
made_none p g n ks ps ws v =
    let e : n ≡ n + 0 = omega arith in
    record {
      valid = subst (λ (m : ℕ). ValidKnots p m ks) e v;
      points = λ h. omega arith;
      weights = λ h. h ∙ ap (given g) e;
      counts = λ f. omega arith;
      front = λ j b. refl;
      back = λ j b c. ap (at ks) (add-zero j);
    }

pub made : (p : ℕ) (g : Bool) (n : ℕ) (ks ps ws ts ks' ps' ws' : List Float) → ValidKnots p n ks → insert_all p g n ks ps ws ts ≡ gives ks' ps' ws' → Made p g n ks ps ws ts ks' ps' ws'
unfolding insert_all
made p g n ks ps ws [] ks' ps' ws' v e =
    let a : ks ≡ ks' = cc in
    let b : ps ≡ ps' = cc in
    let c : ws ≡ ws' = cc in
    rw (← a, ← b, ← c) (made_none p g n ks ps ws v)
made p g n ks ps ws (t ∷ ts) ks' ps' ws' v e =
    let R = insert_refusal p n ks ps g ws t in
    by_number R.number (λ b. cond b (others p g n ks ps ws t ts) (refuses R) ≡ gives ks' ps' ws' → Made p g n ks ps ws (t ∷ ts) ks' ps' ws')
    (λ z h.
    made_more p n ks ps g ws t v z ts ks' ps' ws'
    (made p g (n + 1) (inserted_knots p n ks ps g ws t) (inserted_points p n ks ps g ws t) (inserted_weights p n ks ps g ws t) ts ks' ps' ws' (inserted-valid p n ks ps g ws t z) h))
    (λ z h. let q : ◌≡◌ {A = ℕ} 0 1 = cc in absurd (omega arith)) e

-- valid points and weights
pub made-controls : (p : ℕ) (g : Bool) (n : ℕ) (ks ps ws ts ks' ps' ws' : List Float) → ValidControls n ps g ws → insert_all p g n ks ps ws ts ≡ gives ks' ps' ws'
    → ValidControls (n + length ts) ps' g ws'
unfolding insert_all
made-controls p g n ks ps ws [] ks' ps' ws' v e =
    let b : ps ≡ ps' = cc in
    let c : ws ≡ ws' = cc in
    let m : n ≡ n + 0 = omega arith in
    rw (← b, ← c) (subst (λ (i : ℕ). ValidControls i ps g ws) m v)
made-controls p g n ks ps ws (t ∷ ts) ks' ps' ws' v e =
    let R = insert_refusal p n ks ps g ws t in
    let m : n + 1 + length ts ≡ n + suc (length ts) = omega arith in
    by_number R.number (λ b. cond b (others p g n ks ps ws t ts) (refuses R) ≡ gives ks' ps' ws' → ValidControls (n + suc (length ts)) ps' g ws')
    (λ z h. subst (λ (i : ℕ). ValidControls i ps' g ws') m
    (made-controls p g (n + 1) (inserted_knots p n ks ps g ws t) (inserted_points p n ks ps g ws t) (inserted_weights p n ks ps g ws t) ts ks' ps' ws' (inserted-formed p n ks ps g ws t z).1 h))
    (λ z h. let q : ◌≡◌ {A = ℕ} 0 1 = cc in absurd (omega arith)) e

-- ---- what is made, by numbers
module _ (p : ℕ) (g : Bool) (n : ℕ) (ks ps ws ts ks' ps' ws' : List Float) (v : ValidKnots p n ks) (M : Made p g n ks ps ws ts ks' ps' ws') where
  pub made-multiplicity : (u : Float) → multiplicity_of ks' u ≡ multiplicity_of ks u + count_in (λ x. eq x u) ts
  unfolding multiplicity_of
  made-multiplicity u = M.counts (λ x. eq x u)

  pub made-below : (u : Float) → below_of ks' u ≡ below_of ks u + count_in (λ x. lt x u) ts
  unfolding below_of
  made-below u = M.counts (λ x. lt x u)

  pub made-low : at ks' p ≡ at ks p
  made-low = M.front p (omega arith)

  pub made-high : at ks' (n + length ts) ≡ at ks n
  made-high = let l = v.long in M.back n (omega arith) (omega arith)

  -- clamped ends stay as they are
  pub made-clamped : clamped_ends p (n + length ts) ks' ≡ clamped_ends p n ks
  unfolding clamped_ends
  made-clamped = ap₂ (λ (x y : Bool). x && y) (ap₂ all_equal firsts made-low) (ap₂ all_equal lasts made-high)
    where
      l : length ks ≡ n + p + 1
      l = v.long

      l' : length ks' ≡ n + length ts + p + 1
      l' = M.valid.long

      firsts : take (p + 1) ks' ≡ take (p + 1) ks
      firsts =
          let a : length (take (p + 1) ks') ≡ p + 1 = simp length-take (omega (arith, l')) in
          let b : length (take (p + 1) ks) ≡ p + 1 = simp length-take (omega (arith, l)) in
          ext_get_or nan (take (p + 1) ks') (take (p + 1) ks) (a ∙ sym b) (λ j h. get_or-take (p + 1) ks' j nan (omega arith) ∙ (M.front j (omega arith) ∙ sym (get_or-take (p + 1) ks j nan (omega arith))))

      lasts : drop (n + length ts) ks' ≡ drop n ks
      lasts =
          let a : length (drop (n + length ts) ks') ≡ p + 1 = simp length-drop (omega (arith, l')) in
          let b : length (drop n ks) ≡ p + 1 = simp length-drop (omega (arith, l)) in
          ext_get_or nan (drop (n + length ts) ks') (drop n ks) (a ∙ sym b) (λ j h.
          let e : n + length ts + j ≡ n + j + length ts = omega arith in
          get_or-drop (n + length ts) ks' j nan ∙ (ap (at ks') e ∙ (M.back (n + j) (omega arith) (omega (arith, l)) ∙ sym (get_or-drop n ks j nan))))
