-- Refusals one after the other: the first that is given is the answer.
-- Assumes nothing.
use Prim.Native.Nat.{ℕ}
use mathlib.Core.Bool.{Bool, true, false, cond}
use mathlib.Core.Path.{◌≡◌, refl, sym, ◌∙◌, ap}
use lib.Dec.{eqb}
use borrow.Author.Tests.{eqb-true, eqb-false, eq-eqb, ne_eqb}
use Rattle.std.specs.Prelude.{Result, Ok, Err}
use Rattle.knots.specs.Refusal.{or_else, along, checked}
use Rattle.knots.specs.declared.refusal.Refusal.{Refusal}

-- a fact of a row where it applies, and of what is asked behind it where it does not
pub row-either : (P : Refusal → Type 0) (b : Bool) (x y : Refusal) → (b ≡ true → P x) → (b ≡ false → P y) → P (cond b x y)
row-either P true x y X Y = X refl
row-either P false x y X Y = Y refl

-- the same where both have it in any case
pub row-both : (P : Refusal → Type 0) (b : Bool) (x y : Refusal) → P x → P y → P (cond b x y)
row-both P b x y X Y = row-either P b x y (λ _. X) (λ _. Y)

-- where nothing is refused, a row above has not applied
pub passed : (b : Bool) (r x : Refusal) → (r.number ≡ 0 → ⊥) → (cond b r x).number ≡ 0 → (b ≡ false) × (x.number ≡ 0)
passed true r x n h = absurd (n h)
passed false r x n h = (refl, h)

abbrev the_ok : Unit {0} → Result (Unit {0}) Refusal
the_ok x = Ok x

abbrev the_err : Refusal → Result (Unit {0}) Refusal
the_err r = Err r

-- ---- a check that is passed has refused nothing, and one that is not answers the refusal itself
pub let_by : (a : Refusal) {x : Unit {0}} → Ok x ≡ checked a → a.number ≡ 0
unfolding checked
let_by a {x} h = go (eqb a.number 0) refl h
  where
    go : (t : Bool) → eqb a.number 0 ≡ t → the_ok x ≡ cond t (Ok tt) (Err a) → a.number ≡ 0
    go true e h = eqb-true a.number 0 e
    go false e h = cc

pub stopped_by : (a : Refusal) {r : Refusal} → Err r ≡ checked a → (r ≡ a) × (a.number ≡ 0 → ⊥)
unfolding checked
stopped_by a {r} h = go (eqb a.number 0) refl h
  where
    go : (t : Bool) → eqb a.number 0 ≡ t → the_err r ≡ cond t (Ok tt) (Err a) → (r ≡ a) × (a.number ≡ 0 → ⊥)
    go true e h = cc
    go false e h = (cc, eqb-false a.number 0 e)

-- so it is asked on, or handed on
pub skip : (a : Refusal) {x : Unit {0}} → Ok x ≡ checked a → eqb a.number 0 ≡ true
skip a h = eq-eqb a.number 0 (let_by a h)

pub stop : (a : Refusal) {r : Refusal} → Err r ≡ checked a → eqb a.number 0 ≡ false
stop a h = ne_eqb a.number 0 (stopped_by a h).1

-- the same of a direction
pub along-let : (d : ℕ) (a : Refusal) {x : Unit {0}} → Ok x ≡ checked a → Ok x ≡ checked (along d a)
unfolding checked
along-let d a h = let e = skip a h in rw e

pub along-stop : (d : ℕ) (a : Refusal) {r : Refusal} → Err r ≡ checked a → Err (along d r) ≡ checked (along d a)
unfolding checked
along-stop d a h = let e = stop a h in rw (e, (stopped_by a h).0)

-- what is refused is answered as it is
pub refused : (a : Refusal) → (a.number ≡ 0 → ⊥) → Err a ≡ checked a
unfolding checked
refused a n = rw (ne_eqb a.number 0 n)

-- a row above stands before what is asked last
pub row_first : (b : Bool) (r x y z : Refusal) → (r.number ≡ 0 → ⊥) → x ≡ or_else y z → cond b r x ≡ or_else (cond b r y) z
row_first true r x y z n e = rw (ne_eqb r.number 0 n)
row_first false r x y z n e = e

-- and so does a refusal that is asked before
pub refusal-first : (a x y z : Refusal) → (a.number ≡ 0 → x ≡ or_else y z) → or_else a x ≡ or_else (or_else a y) z
refusal-first a x y z f = go (eqb a.number 0) refl
  where
    go : (t : Bool) → eqb a.number 0 ≡ t → cond t x a ≡ or_else (cond t y a) z
    go true e = f (eqb-true a.number 0 e)
    go false e = rw e

pub or_else-none : (a b : Refusal) → (or_else a b).number ≡ 0 → (a.number ≡ 0) × (b.number ≡ 0)
or_else-none a b = go (eqb a.number 0) refl
  where
    go : (t : Bool) → eqb a.number 0 ≡ t → (cond t b a).number ≡ 0 → (a.number ≡ 0) × (b.number ≡ 0)
    go true e h = (eqb-true a.number 0 e, h)
    go false e h = absurd (eqb-false a.number 0 e h)

-- what differs only where something is refused is asked alike
pub where-none : {A X : Type 0} (n : ℕ) (x y : X) → (n ≡ 0 → x ≡ y) → (f : X → A) (z : A) → cond (eqb n 0) (f x) z ≡ cond (eqb n 0) (f y) z
where-none {A} {X} n x y e f z = go (eqb n 0) refl
  where
    go : (b : Bool) → eqb n 0 ≡ b → cond b (f x) z ≡ cond b (f y) z
    go true h = ap f (e (eqb-true n 0 h))
    go false h = refl

-- a refusal that is asked first is handed on
pub refused-first : (a b : Refusal) {r : Refusal} → Err r ≡ checked a → Err r ≡ checked (or_else a b)
refused-first a b h = rw (stop a h) h
