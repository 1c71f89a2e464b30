-- The numbers of a record in three lent runs: where they are read, and what the runs hold after each answer.
-- Assumes nothing.
use Rattle.std.specs.Prelude.{Option, Some, None, Ok, Err}
use Prim.Native.Nat.{ℕ, ◌+◌, ◌*◌, ◌≤◌, ◌<◌}
use mathlib.Core.Bool.{true, false}
use mathlib.Core.Path.{◌≡◌, refl, sym, ◌∙◌, subst}
use mathlib.Core.List.{List, [], append-nil}
use native.Mathlib.Nat.{sub-zero}
use native.Mathlib.Omega.{arith}
use lib.ListN.{length, drop, length-map}
use lib.Ieee.{Float}
use lib.Seq.{sets}
use borrow.Author.Tests.{le-leb, leb-true}
use Rattle.knots.specs.Refusal.{refuse}
use Rattle.knots.specs.declared.refusal.Reason.TheVariants.{LengthBad}
use Rattle.knots.specs.declared.refusal.Refusal.{Refusal}
use Rattle.doubles.specs.Value.{zero+}
use Rattle.record.specs.Format.{Table, IsRecordOf, Means, Patterns, given, optional}
use Rattle.record.specs.Reading.{patterns, table_of, layout, layout_of, room_for, numbers_of, numbers, cleared, blank, Lent, ReadsNumbers}
use Rattle.runs.specs.Lent.{padded}
use Rattle.record.specs.declared.read.Layout.{Layout}
use Rattle.record.proofs.Tests.{both}
use Rattle.record.proofs.Runs.{length-doubles}
use Rattle.record.proofs.Fields.{length-field, run-complete}
use Rattle.record.proofs.Tables.{parts, length-given}
use Rattle.record.proofs.Stores.{sets-front}

-- ---- what an answer of the layout says

pub layout-some : (o : Option Table) (l : Layout) → Ok l ≡ layout_of o → (t : Table) × (o ≡ Some t) × (layout t ≡ l)
layout-some None l e = let z : ◌≡◌ {A = ℕ} 0 1 = cc in absurd (omega arith)
layout-some (Some t) l e = (t, refl, cc)

pub layout-none : (o : Option Table) (x : Refusal) → Err x ≡ layout_of o → o ≡ None
layout-none None x e = refl
layout-none (Some t) x e = let z : ◌≡◌ {A = ℕ} 0 1 = cc in absurd (omega arith)

pub fits-runs : (l : Layout) (k p w : ℕ) → room_for l k p w ≡ true → (l.knots ≤ k) × (l.points ≤ p) × (l.weights ≤ w)
fits-runs l k p w e =
    let first = both _ _ e in
    let others = both _ _ first.1 in
    (leb-true _ _ first.0, leb-true _ _ others.0, leb-true _ _ others.1)

-- ---- where the runs stand

pub record Room (s : List ℕ) (l : Layout) : Type 0 where
  pub short : length s ≤ 65536
  pub knots : 8 + 8 * l.knots ≤ length s
  pub points : 11 + 8 * l.knots + 8 * l.points ≤ length s
  pub weights : 0 < l.weights → 11 + 8 * l.knots + 8 * l.points + 3 + 8 * l.weights ≤ length s

optional-long : (ws : Option (List ℕ)) → 0 < length (given ws) → length (optional 4 ws) ≡ 3 + 8 * length (given ws)
unfolding optional
optional-long None h = absurd (omega arith)
optional-long (Some xs) h = rw (length-field, length-doubles)

room-held : (s : List ℕ) (t : Table) → IsRecordOf s t → Room s (layout t)
room-held s t h =
    let p = (parts s t h).long in
    record {
      short = h.short;
      knots = omega arith;
      points = omega arith;
      weights = λ some-given. let w = optional-long t.weights some-given in omega arith;
    }

pub numbers-room : (s : List ℕ) (l : Layout) → Means s (table_of s) → Ok l ≡ layout_of (table_of s) → Room s l
numbers-room s l m e =
    let found = layout-some (table_of s) l e in
    subst (λ (k : Layout). Room s k) found.2 (room-held s found.0 (subst (λ (o : Option Table). Means s o) found.1 m))

-- runs of 8,192 numbers have room for every record: 30 is not met there
pub always-room : (s : List ℕ) (t : Table) → IsRecordOf s t → room_for (layout t) 8192 8192 8192 ≡ true
always-room s t h =
    let p = (parts s t h).long in
    let w = length-given t.weights in
    let short = h.short in
    rw (le-leb (length t.knots) 8192 (omega arith), le-leb (length t.points) 8192 (omega arith)) (le-leb (length (given t.weights)) 8192 (omega arith))

-- ---- what the runs hold

weights-at : (s : List ℕ) (i : ℕ) (ws : Option (List ℕ)) → Patterns (given ws) → 8 * length (given ws) < 65536 → drop i s ≡ optional 4 ws → patterns (length (given ws)) (drop (i + 3) s) ≡ given ws
unfolding optional patterns
weights-at s i None q small e = refl
weights-at s i (Some xs) q small e = (run-complete s i (i + 3) _ 4 refl xs [] q small refl (e ∙ sym (append-nil _))).1

-- a cleared run with a front of numbers
filled : (n : ℕ) (xs ys : List ℕ) → ys ≡ xs → length xs ≤ n → sets (cleared n) 0 (numbers ys) ≡ padded n (numbers xs)
unfolding padded
filled n xs ys e h = rw e (sets-front n zero+ (numbers xs) (rw length-map h))

-- the promise, of cleared runs into which the numbers of a layout were stored
abbrev pub Filled : List ℕ → List Float → List Float → List Float → Layout → Type 0
Filled s k p w l =
    ReadsNumbers s k p w
    (sets (cleared (length k)) 0 (numbers (patterns l.knots (drop 8 s))))
    (sets (cleared (length p)) 0 (numbers (patterns l.points (drop (11 + 8 * l.knots) s))))
    (sets (cleared (length w)) 0 (numbers (patterns l.weights (drop (11 + 8 * l.knots + 8 * l.points + 3) s))))
    (Ok l)

read_held : (s : List ℕ) (t : Table) (k p w : List Float) → IsRecordOf s t → table_of s ≡ Some t → room_for (layout t) (length k) (length p) (length w) ≡ true → Filled s k p w (layout t)
read_held s t k p w h o room =
    let at = parts s t h in
    let long = at.long in
    let in_field = length-given t.weights in
    let ws = weights-at s (11 + 8 * length t.knots + 8 * length t.points) t.weights h.weights (omega (arith, h.short)) at.end in
    let fits = fits-runs (layout t) (length k) (length p) (length w) room in
    record {
      means = rw o h;
      answer = rw (o, room);
      runs = rw o
          (record {
            knots = filled (length k) t.knots _ at.knots fits.0;
            points = filled (length p) t.points _ at.points fits.1;
            weights = filled (length w) (given t.weights) _ ws fits.2;
          });
    }

pub numbers-read : (s : List ℕ) (l : Layout) (k p w : List Float) → Means s (table_of s) → Ok l ≡ layout_of (table_of s) → room_for l (length k) (length p) (length w) ≡ true → Filled s k p w l
numbers-read s l k p w m e room =
    let found = layout-some (table_of s) l e in
    let t = found.0 in
    let h : IsRecordOf s t = subst (λ (o : Option Table). Means s o) found.1 m in
    let room' = subst (λ (x : Layout). room_for x (length k) (length p) (length w) ≡ true) (sym found.2) room in
    subst (λ (x : Layout). Filled s k p w x) found.2 (read_held s t k p w h found.1 room')

-- cleared runs
pub blank-runs : (k p w : List Float) → Lent blank k p w (cleared (length k)) (cleared (length p)) (cleared (length w))
unfolding padded
blank-runs k p w = record { knots = rw sub-zero; points = rw sub-zero; weights = rw sub-zero }

pub numbers-refused : (s : List ℕ) (k p w : List Float) (x : Refusal) → Means s (table_of s) → Err x ≡ numbers_of (table_of s) (length k) (length p) (length w) →
    ReadsNumbers s k p w (cleared (length k)) (cleared (length p)) (cleared (length w)) (Err x)
numbers-refused s k p w x m e =
    record { means = m; answer = e; runs = blank-runs k p w }

-- the two refusals
pub no_record : (s : List ℕ) (k p w : ℕ) (x : Refusal) → Err x ≡ layout_of (table_of s) → Err x ≡ numbers_of (table_of s) k p w
no_record s k p w x e = e ∙ rw (layout-none (table_of s) x e)

pub no_room : (s : List ℕ) (l : Layout) (k p w : ℕ) → Ok l ≡ layout_of (table_of s) → room_for l k p w ≡ false → Err (refuse LengthBad) ≡ numbers_of (table_of s) k p w
no_room s l k p w e room =
    let found = layout-some (table_of s) l e in
    let none-for : room_for (layout found.0) k p w ≡ false = subst (λ (x : Layout). room_for x k p w ≡ false) (sym found.2) room in
    rw (found.1, none-for)
