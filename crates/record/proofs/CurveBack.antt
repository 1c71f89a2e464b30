-- A valid curve that was written is read back by `read_table` as the same curve, into any runs that have room for it.
-- Assumes nothing.
use Rattle.knots.specs.declared.refusal.Refusal.{Refusal}
use Rattle.std.specs.Prelude.{Result, Ok}
use Prim.Native.Nat.{ℕ, ◌≤◌}
use mathlib.Core.Bool.{Bool, true, false}
use mathlib.Core.Path.{◌≡◌, refl, ◌∙◌}
use mathlib.Core.List.{List, []}
use native.Mathlib.Omega.{arith}
use lib.ListN.{length, take, length-map}
use lib.Ieee.{Float, binary64, to_bits}
use borrow.Author.Tests.{le-leb}
use Rattle.knots.specs.Refusal.{accepted}
use Rattle.knots.specs.Curve.{ValidCurve}
use Rattle.knots.proofs.Curves.{curve-not-refused}
use Rattle.record.specs.Format.{rational_by}
use Rattle.record.specs.Reading.{layout, room_for, numbers, Lent}
use Rattle.runs.specs.Lent.{padded}
use Rattle.record.specs.Validated.{curve_as, refusal_in, ReadsTable}
use Rattle.record.specs.Writing.{bits, chosen, table_from, ReadsBack, SameCurve}
use Rattle.record.specs.declared.table.Curve.{Curve}
use Rattle.record.proofs.Validated.{front_of}

length-bits : (xs : List Float) → length (bits xs) ≡ length xs
length-bits xs = length-map xs (λ (x : Float). to_bits binary64 x)

-- the front of a run that holds what was written
front-back : (n : ℕ) (xs run : List Float) → numbers (bits xs) ≡ xs → run ≡ padded n (numbers (bits xs)) → take (length xs) run ≡ xs
unfolding padded
front-back n xs run back e = front_of n (length xs) (bits xs) run e (length-bits xs) ∙ back

module _ (p : ℕ) (ks ps ws : List Float) where
  -- what is written as rational is read as rational
  kept : (g : Bool) → rational_by (chosen g ws) ≡ g
  kept false = refl
  kept true = refl

  -- weights that are not given have no part in validity
  unweighted : ValidCurve p ks ps false ws → ValidCurve p ks ps false []
  unweighted v =
      record {
        short = record { knots = v.short.knots; points = v.short.points; weights = λ e. omega arith };
        triples = v.triples;
        knots = v.knots;
        controls = record { coordinates = v.controls.coordinates; weights = λ e. absurd (no e); positive = λ e. absurd (no e) };
      }
    where
      no : false ≡ true → ⊥
      no e = let z : ◌≡◌ {A = ℕ} 0 1 = cc in omega arith

  room-for : (g : Bool) (k q w : ℕ) → length ks ≤ k → length ps ≤ q → (g ≡ true → length ws ≤ w) → room_for (layout (table_from p ks ps g ws)) k q w ≡ true
  room-for false k q w a b c = rw (length-bits ks, length-bits ps, le-leb _ _ a, le-leb _ _ b) (le-leb 0 w (omega arith))
  room-for true k q w a b c = rw (length-bits ks, length-bits ps, length-bits ws, le-leb _ _ a, le-leb _ _ b, le-leb _ _ (c refl))

  module _ (bk : numbers (bits ks) ≡ ks) (bp : numbers (bits ps) ≡ ps) (bw : numbers (bits ws) ≡ ws) where
    not-refused : (g : Bool) → ValidCurve p ks ps g ws → refusal_in (table_from p ks ps g ws) ≡ accepted
    unfolding refusal_in
    not-refused false v = rw (bk, bp) (curve-not-refused p ks ps false [] (unweighted v))
    not-refused true v = rw (bk, bp, bw) (curve-not-refused p ks ps true ws v)

-- what was written, read into the runs k, q, w
module _ (p n : ℕ) (ks ps : List Float) (g : Bool) (ws : List Float) (after : List ℕ) (b : ReadsBack p ks ps g ws after (Ok n)) (v : ValidCurve p ks ps g ws) where
  pub curve-back : (k q w k' q' w' : List Float) (r : Result Curve Refusal) → length ks ≤ length k → length ps ≤ length q → (g ≡ true → length ws ≤ length w) →
      ReadsTable (take n after) k q w k' q' w' r → SameCurve p ks ps g ws k' q' w' r
  curve-back k q w k' q' w' r lk lp lw reads =
      let t = table_from p ks ps g ws in
      let found = b.table n refl in
      let answer : r ≡ curve_as (layout t) g =
      reads.answer ∙ rw (found, room-for p ks ps ws g (length k) (length q) (length w) lk lp lw, not-refused p ks ps ws b.knots b.points b.weights g v, kept p ks ps ws g) in
      let runs : Lent t k q w k' q' w' = rw (answer, found) at reads.runs in
      record {
        answer = answer;
        knots = front-back (length k) ks k' b.knots runs.knots;
        points = front-back (length q) ps q' b.points runs.points;
        weights = λ e. front-back (length w) ws w' b.weights (rw e at runs.weights);
      }
