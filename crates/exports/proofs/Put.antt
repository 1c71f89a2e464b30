-- From a cleared run to what an answer leaves: too short, one store, two stores; and an answer known by another name.
-- Assumes nothing.
use Prim.Native.Nat.{ℕ, zero, suc, ◌≤◌, ◌<◌}
use native.Mathlib.Omega.{arith}
use native.Mathlib.Nat.{not-suc-le-zero, le_of_suc-le-suc}
use mathlib.Core.Path.{◌≡◌, refl, sym, ◌∙◌, ap, subst}
use mathlib.Core.Bool.{Bool, cond}
use mathlib.Core.List.{List, [], ◌∷◌, ◌++◌}
use borrow.Author.Tests.{lt-ltb, le-ltb}
use lib.ListN.{length, set, drop, replicate, length-replicate}
use lib.Ieee.{Float}
use Rattle.knots.specs.Clear.{zeros}
use Rattle.knots.specs.Refusal.{accepted}
use Rattle.knots.specs.declared.refusal.Refusal.{Refusal}
use Rattle.doubles.specs.Value.{zero+}
use Rattle.exports.specs.Tables.{packed_of}
use Rattle.exports.specs.Answer.{Answer, refused, values, answer_by, told, Leaves}

pub leaves_by : {a b : Answer} {before after : List Float} {r : ℕ} → a ≡ b → Leaves a before after r → Leaves b before after r
leaves_by {before = before} {after = after} {r = r} e = subst (λ (a : Answer). Leaves a before after r) e

-- a cleared run has the length it had
pub kept : (before after : List Float) → after ≡ zeros (length before) → length after ≡ length before
kept before after e = ap length e ∙ length-replicate (length before) zero+

pub leaves-short : (xs before after : List Float) → after ≡ zeros (length before) → length after < length xs → Leaves (values xs) before after 30
leaves-short xs before after e short =
    let test = lt-ltb (length before) (length xs) (subst (λ (n : ℕ). n < length xs) (kept before after e) short) in
    record {
      returned = sym (ap (λ (t : Bool). cond t 30 0) test);
      left = e ∙ sym (ap (λ (t : Bool). cond t (zeros (length before)) (xs ++ drop (length xs) (zeros (length before)))) test);
    }

pub leaves-long : (xs before after : List Float) → length xs ≤ length before → after ≡ xs ++ drop (length xs) (zeros (length before)) → Leaves (values xs) before after 0
leaves-long xs before after room e =
    let test = le-ltb (length before) (length xs) room in
    record {
      returned = sym (ap (λ (t : Bool). cond t 30 0) test);
      left = e ∙ sym (ap (λ (t : Bool). cond t (zeros (length before)) (xs ++ drop (length xs) (zeros (length before)))) test);
    }

stored_one : (n : ℕ) (z x : Float) → 1 ≤ n → set (replicate n z) 0 x ≡ (x ∷ []) ++ drop 1 (replicate n z)
stored_one zero z x l = absurd (not-suc-le-zero l)
stored_one (suc n) z x l = refl

stored-two : (n : ℕ) (z x y : Float) → 2 ≤ n → set (set (replicate n z) 0 x) 1 y ≡ (x ∷ y ∷ []) ++ drop 2 (replicate n z)
stored-two zero z x y l = absurd (not-suc-le-zero l)
stored-two (suc zero) z x y l = absurd (not-suc-le-zero (le_of_suc-le-suc l))
stored-two (suc (suc n)) z x y l = refl

pub leaves-one : (x : Float) (before cleared : List Float) → cleared ≡ zeros (length before) → 1 ≤ length cleared → Leaves (values (x ∷ [])) before (set cleared 0 x) 0
leaves-one x before cleared e room =
    let fits = subst (λ (n : ℕ). 1 ≤ n) (kept before cleared e) room in
    leaves-long (x ∷ []) before (set cleared 0 x) fits
    (ap (λ (l : List Float). set l 0 x) e ∙ stored_one (length before) zero+ x fits)

pub leaves-two : (x y : Float) (before cleared : List Float) → cleared ≡ zeros (length before) → 2 ≤ length cleared → Leaves (values (x ∷ y ∷ [])) before (set (set cleared 0 x) 1 y) 0
leaves-two x y before cleared e room =
    let fits = subst (λ (n : ℕ). 2 ≤ n) (kept before cleared e) room in
    leaves-long (x ∷ y ∷ []) before (set (set cleared 0 x) 1 y) fits
    (ap (λ (l : List Float). set (set l 0 x) 1 y) e ∙ stored-two (length before) zero+ x y fits)

-- ---- an answer by its refusal and its values
module _ {before after : List Float} {n : ℕ} where
  pub told-values : (xs : List Float) → Leaves (values xs) before after n → Leaves (told accepted xs) before after n
  unfolding packed_of
  told-values xs l = l

  -- a refusal has no values
  by_number : (k : ℕ) → Leaves (refused k) before after n → Leaves (answer_by k []) before after n
  by_number zero l = subst (λ (r : ℕ). Leaves (values []) before after r) (sym l.returned) (leaves-long [] before after (omega arith) l.left)
  by_number (suc k) l = l

  pub told-refused : (r : Refusal) {k : ℕ} → k ≡ packed_of r → Leaves (refused k) before after n → Leaves (told r []) before after n
  told-refused r e l = by_number (packed_of r) (leaves_by (ap refused e) l)
