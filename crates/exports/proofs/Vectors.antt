-- From a cleared run to what two and three vectors leave.
-- Assumes nothing.
use Prim.Native.Nat.{ℕ, suc, ◌-◌, ◌≤◌}
use native.Mathlib.Omega.{arith}
use mathlib.Core.Path.{◌≡◌, refl, ◌∙◌, ap, subst}
use mathlib.Core.List.{List, [], ◌++◌}
use lib.ListN.{length, drop, replicate}
use lib.Ieee.{Float}
use Rattle.knots.specs.Clear.{zeros}
use Rattle.doubles.specs.Value.{zero+}
use Rattle.runs.specs.Point.{stored_three}
use Rattle.runs.specs.declared.vector.Vector.{Vector}
use Rattle.evaluate.specs.Numbers.{onto}
use Rattle.exports.specs.Answer.{values, Leaves}
use Rattle.exports.proofs.Put.{leaves-long, kept}

-- m and 6 more, m and 9 more
abbrev six : ℕ → ℕ
six m = suc (suc (suc (suc (suc (suc m)))))

abbrev nine : ℕ → ℕ
nine m = suc (suc (suc (six m)))

stored-two : (n : ℕ) (z : Float) (a b : Vector) → 6 ≤ n → stored_three (stored_three (replicate n z) 0 a) 3 b ≡ onto a (onto b []) ++ drop 6 (replicate n z)
stored-two n z a b l =
    let e : six (n - 6) ≡ n = omega arith in
    subst (λ (k : ℕ). stored_three (stored_three (replicate k z) 0 a) 3 b ≡ onto a (onto b []) ++ drop 6 (replicate k z)) e refl

stored-three : (n : ℕ) (z : Float) (a b c : Vector) → 9 ≤ n → stored_three (stored_three (stored_three (replicate n z) 0 a) 3 b) 6 c ≡ onto a (onto b (onto c [])) ++ drop 9 (replicate n z)
stored-three n z a b c l =
    let e : nine (n - 9) ≡ n = omega arith in
    subst (λ (k : ℕ). stored_three (stored_three (stored_three (replicate k z) 0 a) 3 b) 6 c ≡ onto a (onto b (onto c [])) ++ drop 9 (replicate k z)) e refl

pub leaves-vectors : (a b : Vector) (before cleared one two : List Float) → cleared ≡ zeros (length before) → 6 ≤ length cleared → one ≡ stored_three cleared 0 a → two ≡ stored_three one 3 b
    → Leaves (values (onto a (onto b []))) before two 0
leaves-vectors a b before cleared one two e room f g =
    let fits = subst (λ (n : ℕ). 6 ≤ n) (kept before cleared e) room in
    leaves-long (onto a (onto b [])) before two fits
    (g ∙ ap (λ (l : List Float). stored_three l 3 b) (f ∙ ap (λ (l : List Float). stored_three l 0 a) e) ∙ stored-two (length before) zero+ a b fits)

pub leaves-three-vectors : (a b c : Vector) (before cleared one two three : List Float) → cleared ≡ zeros (length before) → 9 ≤ length cleared → one ≡ stored_three cleared 0 a
    → two ≡ stored_three one 3 b → three ≡ stored_three two 6 c → Leaves (values (onto a (onto b (onto c [])))) before three 0
leaves-three-vectors a b c before cleared one two three e room f g h =
    let fits = subst (λ (n : ℕ). 9 ≤ n) (kept before cleared e) room in
    leaves-long (onto a (onto b (onto c []))) before three fits
    (h ∙ ap (λ (l : List Float). stored_three l 6 c) (g ∙ ap (λ (l : List Float). stored_three l 3 b) (f ∙ ap (λ (l : List Float). stored_three l 0 a) e)) ∙ stored-three (length before) zero+ a b c fits)
