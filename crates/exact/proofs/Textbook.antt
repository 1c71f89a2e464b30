-- Worked over fractions, the source's knot insertion is Boehm's, and its degree elevation Bernstein's. Assumes nothing.
use mathlib.Core.Path.{◌≡◌, refl, sym, ◌∙◌, ap, ap₂, fun_ext}
use mathlib.Core.Bool.{cond}
use mathlib.Core.Logic.{⊎_elim}
use mathlib.Core.List.{[], ◌∷◌}
use Prim.Native.Nat.{ℕ, zero, suc, ◌+◌, ◌-◌, ◌≤◌, ◌<◌}
use native.Mathlib.Numerals.{add-one}
use native.Mathlib.Omega.{arith}
use lib.Dec.{T, leb, leb→le, le→leb, eqb, eqb→eq}
use Rattle.exact.specs.Rational.{ℚ, ◌-q◌, ◌*q◌, ◌/q◌, inv, ofℕ}
use Rattle.exact.specs.Boehm.{mix, inserted}
use Rattle.exact.specs.Bernstein.{raised, raised_to}
use Rattle.exact.specs.Edit.{mix_of, blend_by, raise_by, raise_to_by}
use Rattle.exact.proofs.Field.{qring, q-ring, div_is}
use Rattle.exact.proofs.Source.{cond_yes, cond_no}
use Rattle.exact.proofs.Refined.{split}
use Rattle.exact.proofs.Shares.{ins-low, ins-mid, ins-high, ins-multiple, mix-cong}
use Rattle.exact.proofs.Scheme.{fractions}

leb_no : (i j : ℕ) → j < i → T (leb i j) → ⊥
leb_no i j h z = let y : i ≤ j = leb→le i j z in omega arith

mix-is : (a b r : ℚ) → mix_of fractions a b r ≡ mix r a b
mix-is a b r = q-ring (a ∷ b ∷ r ∷ []) (search qring depth 20) tt

-- s knots up to place k are x
module _ (U : ℕ → ℚ) (x : ℚ) (k p s : ℕ) (few : s ≤ p) (from : p ≤ k) (full : (i : ℕ) → k < i + s → i ≤ k → U i ≡ x) (c : ℕ → ℚ) where
  before : (i : ℕ) → i + p ≤ k → blend_by fractions p k s x U c i ≡ c i
  unfolding blend_by
  before i h = cond_yes _ _ (leb i (k - p)) (le→leb i (k - p) (omega arith))

  past : (j : ℕ) → k < suc j + p → blend_by fractions p k s x U c (suc j)
      ≡ cond (leb (suc j) (k - s)) (mix ((x -q U (suc j)) *q inv (U (suc j + p) -q U (suc j))) (c j) (c (suc j))) (c j)
  unfolding blend_by
  past j h =
      let e : suc j - 1 ≡ j = omega arith in
      cond_no _ _ (leb (suc j) (k - p)) (leb_no (suc j) (k - p) (omega arith))
      ∙ ap₂ (λ m y. cond (leb (suc j) (k - s)) y (c m)) e
      (ap (λ m. mix_of fractions (c m) (c (suc j)) ((x -q U (suc j)) /q (U (suc j + p) -q U (suc j)))) e ∙ mix-is (c j) (c (suc j)) _ ∙ mix-cong (div_is _ _) refl refl)

  pub blend-inserted : (i : ℕ) → blend_by fractions p k s x U c i ≡ inserted U x k p c i
  blend-inserted zero = before 0 (omega arith) ∙ sym (ins-low U x k p c 0 (omega arith))
  blend-inserted (suc j) = ⊎_elim
      (λ (h : suc j + p ≤ k). before (suc j) h ∙ sym (ins-low U x k p c (suc j) h))
      (λ (h : k < suc j + p). past j h ∙ ⊎_elim
      (λ (g : suc j + s ≤ k). cond_yes _ _ (leb (suc j) (k - s)) (le→leb (suc j) (k - s) (omega arith)) ∙ sym (ins-mid U x k p c j h (omega arith)))
      (λ (g : k < suc j + s). cond_no _ _ (leb (suc j) (k - s)) (leb_no (suc j) (k - s) (omega arith)) ∙ sym (⊎_elim
      (λ (l : suc j ≤ k). ins-multiple U x k p c j h l (full (suc j) g l))
      (λ (l : k < suc j). ins-high U x k p c j l) (split (suc j) k))) (split (suc j + s) k)) (split (suc j + p) k)

pub raise-raised : (d : ℕ) (c : ℕ → ℚ) (i : ℕ) → raise_by fractions d c i ≡ raised d c i
unfolding raise_by raised
raise-raised d c zero = refl
raise-raised d c (suc j) =
    let e : suc j - 1 ≡ j = omega arith in
    cond_no _ _ (eqb (suc j) 0) (λ z. let y : suc j ≡ 0 = eqb→eq (suc j) 0 z in omega arith)
    ∙ ap₂ (λ m n. cond (leb (suc j) d) (mix_of fractions (c (suc j)) (c m) (ofℕ (suc j) /q ofℕ n)) (c d)) e (add-one d)
    ∙ ap (λ y. cond (leb (suc j) d) y (c d)) (mix-is (c (suc j)) (c j) (ofℕ (suc j) /q ofℕ (suc d)))

pub raise_to-raised : (d n : ℕ) (c : ℕ → ℚ) (i : ℕ) → raise_to_by fractions d n c i ≡ raised_to d n c i
unfolding raise_to_by raised_to
raise_to-raised d zero c i = refl
raise_to-raised d (suc n) c i = raise-raised (d + n) (raise_to_by fractions d n c) i ∙ ap (λ h. raised (d + n) h i) (fun_ext (raise_to-raised d n c))
