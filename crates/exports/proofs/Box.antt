-- From a cleared run to what a box leaves; and the answer of a bound from its case.
-- Assumes nothing.
use Rattle.std.specs.Prelude.{Ok}
use Prim.Native.Nat.{ℕ, ◌≤◌}
use native.Mathlib.Omega.{arith}
use native.Mathlib.Nat.{zero-add}
use mathlib.Core.Path.{◌≡◌, refl, ◌∙◌, ap, ap₂, subst}
use mathlib.Core.List.{List, ◌++◌}
use lib.ListN.{length, drop}
use lib.Seq.{sets, sets-eq}
use lib.Ieee.{Float}
use Rattle.knots.specs.Clear.{zeros}
use Rattle.knots.specs.declared.refusal.Refusal.{Refusal}
use Rattle.runs.proofs.Stores.{sets-three}
use Rattle.bounds.specs.declared.answer.Triple.{Triple}
use Rattle.bounds.specs.declared.answer.NurbsBounds.{NurbsBounds}
use Rattle.bounds.specs.Holds.{NotIdle}
use Rattle.bounds.specs.Numbers.{bounded_values, six_of, stored_six}
use Rattle.exports.specs.Answer.{Answer, values, Leaves}
use Rattle.exports.proofs.Put.{leaves_by, leaves-long, kept}

-- what is stored at the front of a cleared run
leaves-stored : (xs before cleared after : List Float) → cleared ≡ zeros (length before) → length xs ≤ length cleared → after ≡ sets cleared 0 xs → Leaves (values xs) before after 0
leaves-stored xs before cleared after e room f =
    leaves-long xs before after (subst (λ (n : ℕ). length xs ≤ n) (kept before cleared e) room)
    (f ∙ (sets-eq xs cleared 0 (omega (arith, room)) ∙ ap₂ (λ (n : ℕ) (l : List Float). xs ++ drop n l) (zero-add (length xs)) e))

pub leaves-triple : (t : Triple) (before cleared after : List Float) → cleared ≡ zeros (length before) → 6 ≤ length cleared → after ≡ stored_six cleared 0 t → Leaves (values (six_of t)) before after 0
leaves-triple t = leaves-stored (six_of t)

pub leaves-box : (b : NurbsBounds) (before cleared one two three : List Float) → cleared ≡ zeros (length before) → 18 ≤ length cleared → one ≡ stored_six cleared 0 b.point
    → two ≡ stored_six one 6 b.du → three ≡ stored_six two 12 b.dv → Leaves (values (bounded_values (Ok b))) before three 0
leaves-box b before cleared one two three e room f g h =
    leaves-stored (bounded_values (Ok b)) before cleared three e room
    (h
    ∙ (ap (λ (l : List Float). stored_six l 12 b.dv) (g ∙ ap (λ (l : List Float). stored_six l 6 b.du) f)
    ∙ sets-three (six_of b.point) (six_of b.du) (six_of b.dv) cleared 0 6 12 refl refl))

module _ {X : Type 0} (answer : X → Answer) {before after : List Float} {r : ℕ} where
  -- the answer that was put is the bound's
  pub put-by : {a b : X} → a ≡ b → Leaves (answer a) before after r → Leaves (answer b) before after r
  put-by e = leaves_by (ap answer e)

  -- and what is promised of it
  pub put-promised : (refusal : X → Refusal) {a b : X} (F : X → Type 0) → (a ≡ b) × (F a × NotIdle (refusal a).number) → Leaves (answer a) before after r
      → Leaves (answer b) before after r × (F b × NotIdle (refusal b).number)
  put-promised refusal F p l = (put-by p.0 l, (subst F p.0 p.1.0, subst (λ (x : X). NotIdle (refusal x).number) p.0 p.1.1))
