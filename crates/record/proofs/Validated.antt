-- A record read and validated: what the numbers in the runs say of the table, and the promise of `read_table` at each of its answers.
-- Assumes nothing.
use Rattle.std.specs.Prelude.{Option, Some, None, Result, Ok, Err}
use Prim.Native.Nat.{ℕ}
use mathlib.Core.Bool.{Bool, true, false, cond}
use mathlib.Core.Path.{◌≡◌, refl, sym, ◌∙◌, ap, subst}
use mathlib.Core.List.{List, [], ◌∷◌}
use native.Mathlib.Omega.{arith}
use lib.ListN.{length, take, length-map}
use lib.Seq.{take_at}
use lib.Dec.{eqb}
use borrow.Author.Tests.{eqb-true, eq-eqb, ne_eqb}
use lib.Ieee.{Float, binary64, of_bits}
use Rattle.knots.specs.declared.refusal.Refusal.{Refusal}
use Rattle.knots.specs.Refusal.{refuse, checked}
use Rattle.knots.specs.declared.refusal.Reason.TheVariants.{LengthBad}
use Rattle.knots.specs.Curve.{curve_refusal}
use Rattle.knots.proofs.Curves.{valid-curve}
use Rattle.knots.proofs.Refusals.{let_by, stopped_by}
use Rattle.record.specs.Format.{Table, given, rational_by}
use Rattle.record.specs.Reading.{table_of, layout, rational, room_for, numbers_of, numbers, cleared, Lent, ReadsNumbers}
use Rattle.runs.specs.Lent.{padded}
use Rattle.record.specs.Validated.{curve_as, refusal_in, curve_in, answer_of, number_of, values_of, ReadsTable}
use Rattle.record.specs.Numbers.{table_answer_refusal, table_answer_values}
use Rattle.record.specs.declared.table.Curve.{Curve}
use Rattle.record.specs.declared.read.Layout.{Layout}
use Rattle.record.proofs.Numbers.{fits-runs, blank-runs}

-- ---- what an answer of `read_numbers` says

fields-refused : {l : Layout} {x : Refusal} → Ok l ≡ Err x → ⊥
fields-refused e = let z : ◌≡◌ {A = ℕ} 0 1 = cc in omega arith

module _ (k p w : ℕ) where
  -- the numbers were read, so there is a table, and room for it
  numbers-some : (o : Option Table) (l : Layout) → Ok l ≡ numbers_of o k p w → (t : Table) × (o ≡ Some t) × (layout t ≡ l) × (room_for (layout t) k p w ≡ true)
  numbers-some None l e = absurd (fields-refused e)
  numbers-some (Some t) l e = go (room_for (layout t) k p w) refl
    where
      go : (b : Bool) → room_for (layout t) k p w ≡ b → (u : Table) × (Some t ≡ Some u) × (layout u ≡ l) × (room_for (layout u) k p w ≡ true)
      go true h = let f : Ok l ≡ Ok (layout t) = e ∙ rw h in (t, refl, cc, h)
      go false h = let f : Ok l ≡ Err (refuse LengthBad) = e ∙ rw h in absurd (fields-refused f)

  -- a refusal of the numbers is the answer
  pub numbers-none : (o : Option Table) (x : Refusal) → Err x ≡ numbers_of o k p w → Err x ≡ answer_of o k p w
  numbers-none None x e = cc
  numbers-none (Some t) x e = go (room_for (layout t) k p w) refl
    where
      go : (b : Bool) → room_for (layout t) k p w ≡ b → Err x ≡ answer_of (Some t) k p w
      go true h = let f : Err x ≡ Ok (layout t) = e ∙ rw h in absurd (fields-refused (sym f))
      go false h = let f : Err x ≡ Err (refuse LengthBad) = e ∙ rw h in rw h (cc)

-- ---- the numbers in the runs

-- the front of a padded run
pub front_of : (n m : ℕ) (xs : List ℕ) (run : List Float) → run ≡ padded n (numbers xs) → length xs ≡ m → take m run ≡ numbers xs
unfolding padded
front_of n m xs run e h = rw e (take_at (numbers xs) _ m (length-map xs (λ (x : ℕ). of_bits binary64 x) ∙ h))

refusal-same : (t : Table) {d : ℕ} {ks ps ws : List Float} {g : Bool} → d ≡ t.degree → ks ≡ numbers t.knots → ps ≡ numbers t.points → g ≡ rational_by t.weights
    → ws ≡ numbers (given t.weights) → curve_refusal d ks ps g ws ≡ refusal_in t
unfolding refusal_in
refusal-same t a b c d e = rw (a, b, c, d, e)

-- the number of an answer
said : (o : Option Table) (k p w : ℕ) (r : Result Curve Refusal) → r ≡ answer_of o k p w → (table_answer_refusal r).number ≡ number_of o k p w
said None k p w r e = ap (λ (a : Result Curve Refusal). (table_answer_refusal a).number) e
said (Some t) k p w r e = ap (λ (a : Result Curve Refusal). (table_answer_refusal a).number) e ∙ by-room (room_for (layout t) k p w)
  where
    by-curve : (b : Bool) → (b ≡ true → (refusal_in t).number ≡ 0) → (table_answer_refusal (cond b (curve_as (layout t) (rational_by t.weights)) (Err (refusal_in t)))).number ≡ (refusal_in t).number
    by-curve true h = sym (h refl)
    by-curve false h = refl

    by-room : (b : Bool) → (table_answer_refusal (cond b (curve_in t) (Err (refuse LengthBad)))).number ≡ cond b (refusal_in t).number (refuse LengthBad).number
    by-room true = by-curve (eqb (refusal_in t).number 0) (eqb-true (refusal_in t).number 0)
    by-room false = refl

-- and its values
abbrev lengths : Table → List ℕ
lengths t = t.degree ∷ length t.knots ∷ length t.points ∷ length (given t.weights) ∷ []

listed : (o : Option Table) (k p w : ℕ) (r : Result Curve Refusal) → r ≡ answer_of o k p w → table_answer_values r ≡ values_of o k p w
listed None k p w r e = ap table_answer_values e
listed (Some t) k p w r e = ap table_answer_values e ∙ by-room (room_for (layout t) k p w)
  where
    by-curve : (b : Bool) → table_answer_values (cond b (curve_as (layout t) (rational_by t.weights)) (Err (refusal_in t))) ≡ cond b (lengths t) []
    by-curve true = refl
    by-curve false = refl

    by-room : (b : Bool) → table_answer_values (cond b (curve_in t) (Err (refuse LengthBad))) ≡ cond b (cond (eqb (refusal_in t).number 0) (lengths t) []) []
    by-room true = by-curve (eqb (refusal_in t).number 0)
    by-room false = refl

module _ (s : List ℕ) (k p w k' p' w' : List Float) where
  pub refused-first : (x : Refusal) → ReadsNumbers s k p w k' p' w' (Err x) → ReadsTable s k p w k' p' w' (Err x)
  refused-first x r =
      let a = numbers-none (length k) (length p) (length w) (table_of s) x r.answer in
      record {
        means = r.means;
        answer = a;
        number = said (table_of s) (length k) (length p) (length w) (Err x) a;
        values = listed (table_of s) (length k) (length p) (length w)
            (Err x) a;
        runs = r.runs;
        front = tt;
      }

  module _ (l : Layout) (r : ReadsNumbers s k p w k' p' w' (Ok l)) where
    found : (t : Table) × (table_of s ≡ Some t) × (layout t ≡ l) × (room_for (layout t) (length k) (length p) (length w) ≡ true)
    found = numbers-some (length k) (length p) (length w) (table_of s) l r.answer

    pub room : room_for l (length k) (length p) (length w) ≡ true
    room = subst (λ (x : Layout). room_for x (length k) (length p) (length w) ≡ true) found.2 found.3

    runs : Lent found.0 k p w k' p' w'
    runs = rw found.1 at r.runs

    -- the fronts of the runs are the table's numbers, so their refusal is the table's
    refusal_is : curve_refusal l.degree (take l.knots k') (take l.points p') (rational l) (take l.weights w') ≡ refusal_in found.0
    refusal_is =
        let t = found.0 in
        let e = found.2 in
        let a = front_of (length k) l.knots t.knots k' runs.knots (ap (λ (x : Layout). x.knots) e) in
        let b = front_of (length p) l.points t.points p' runs.points (ap (λ (x : Layout). x.points) e) in
        let c = front_of (length w) l.weights (given t.weights) w' runs.weights (ap (λ (x : Layout). x.weights) e) in
        let g : rational l ≡ rational_by t.weights = ap rational (sym e) in
        refusal-same t (ap (λ (x : Layout). x.degree) (sym e)) a b g c

    -- what the check of the fronts answers
    abbrev pub fronts : Refusal
    fronts = curve_refusal l.degree (take l.knots k') (take l.points p') (rational l) (take l.weights w')

    module _ (x : Refusal) (tested : Err x ≡ checked fronts) where
      pub refused-curve : ReadsTable s k p w (cleared (length k)) (cleared (length p)) (cleared (length w)) (Err x)
      refused-curve =
          let h = stopped_by _ tested in
          let n = ne_eqb (refusal_in found.0).number 0 (λ z. h.1 (ap (λ (r : Refusal). r.number) refusal_is ∙ z)) in
          let a : Err x ≡ answer_of (table_of s) (length k) (length p) (length w) = rw (found.1, found.3, n) (ap Err (h.0 ∙ refusal_is)) in
          record {
            means = r.means;
            answer = a;
            number = said (table_of s) (length k) (length p) (length w) (Err x) a;
            values = listed (table_of s) (length k) (length p) (length w) (Err x) a;
            runs = blank-runs k p w;
            front = tt;
          }

    module _ (x : Unit {0}) (tested : Ok x ≡ checked fronts) where
      pub curve-read : length k' ≡ length k → length p' ≡ length p → length w' ≡ length w → ReadsTable s k p w k' p' w' (curve_as l (rational l))
      curve-read lk lp lw =
          let h = let_by _ tested in
          let n = eq-eqb (refusal_in found.0).number 0 (sym (ap (λ (r : Refusal). r.number) refusal_is) ∙ h) in
          let fits = fits-runs l (length k) (length p) (length w) room in
          let same : curve_as l (rational l) ≡ curve_as (layout found.0) (rational_by found.0.weights) = ap (λ (y : Layout). curve_as y (rational y)) (sym found.2) in
          let a : curve_as l (rational l) ≡ answer_of (table_of s) (length k) (length p) (length w) = same ∙ rw (found.1, found.3, n) in
          record {
            means = r.means;
            answer = a;
            number = said (table_of s) (length k) (length p) (length w) (curve_as l (rational l)) a;
            values = listed (table_of s) (length k) (length p) (length w) (curve_as l (rational l)) a;
            runs = r.runs;
            front = record {
              knots = rw lk fits.0;
              points = rw lp fits.1;
              weights = rw lw fits.2;
              valid = valid-curve _ _ _ _ _ h;
            };
          }
