-- A loop that stores f 0, f 1, .. at the front of a run, one a turn: after n turns it is `tabulate n f ++ drop n d`. Over a cleared run that is `padded`.
-- Assumes nothing.
use Prim.Native.Nat.{ℕ, zero, suc, ◌+◌, ◌-◌, ◌≤◌, ◌<◌}
use mathlib.Core.Path.{◌≡◌, refl, sym, ◌∙◌, ap, subst}
use mathlib.Core.List.{List, [], ◌∷◌, ◌++◌}
use native.Mathlib.Omega.{arith}
use native.Mathlib.Nat.{not-suc-le-zero, le_of_suc-le-suc}
use native.Mathlib.Numerals.{add-one}
use lib.ListN.{length, set, take, drop, length-append, length-replicate}
use lib.Seq.{take_at}
use lib.Ieee.{Float}
use borrow.Author.Tests.{eq-eqb, ne_eqb}
use Rattle.doubles.specs.Value.{zero+}
use Rattle.knots.specs.Clear.{zeros}
use Rattle.knots.proofs.Fill.{drop-replicate}
use Rattle.knots.specs.declared.refusal.Refusal.{Refusal}
use Rattle.runs.specs.Tabulate.{tabulate}
use Rattle.runs.proofs.Tabulated.{length-tabulate}
use Rattle.runs.specs.Lent.{padded, left_in}

store-suc : (n : ℕ) (f : ℕ → Float) (d : List Float) → n < length d → set (tabulate n f ++ drop n d) n (f n) ≡ tabulate (suc n) f ++ drop (suc n) d
store-suc n f [] l = absurd (not-suc-le-zero l)
store-suc zero f (x ∷ d) l = refl
store-suc (suc n) f (x ∷ d) l = ap (λ (t : List Float). f 0 ∷ t) (store-suc n (λ k. f (suc k)) d (le_of_suc-le-suc l))

pub store-none : (f : ℕ → Float) (d : List Float) → d ≡ tabulate 0 f ++ drop 0 d
store-none f d = refl

pub store-more : (n : ℕ) (f : ℕ → Float) (d xs : List Float) (x : Float) → n < length d → xs ≡ tabulate n f ++ drop n d → x ≡ f n → set xs n x ≡ tabulate (n + 1) f ++ drop (n + 1) d
store-more n f d xs x l e h =
    ap (λ (t : List Float). set t n x) e
    ∙ (ap (λ (y : Float). set (tabulate n f ++ drop n d) n y) h
    ∙ subst (λ (k : ℕ). set (tabulate n f ++ drop n d) n (f n) ≡ tabulate k f ++ drop k d) (sym (add-one n)) (store-suc n f d l))

-- ---- over a run of +0.0
pub drop-zeros : (n m : ℕ) → drop n (zeros m) ≡ zeros (m - n)
drop-zeros n m = drop-replicate n m zero+

pub stored : (n m : ℕ) (f : ℕ → Float) (d xs : List Float) → d ≡ zeros m → xs ≡ tabulate n f ++ drop n d → xs ≡ padded m (tabulate n f)
unfolding padded
stored n m f d xs z e =
    e ∙ ap (λ (t : List Float). tabulate n f ++ t) (ap (drop n) z ∙ (drop-zeros n m ∙ ap (λ (k : ℕ). zeros (m - k)) (sym (length-tabulate n f))))

pub take-padded : (n m : ℕ) (l xs : List Float) → length l ≡ n → xs ≡ padded m l → take n xs ≡ l
unfolding padded
take-padded n m l xs h e = ap (take n) e ∙ take_at l (zeros (m - length l)) n h

pub padded-long : (m : ℕ) (l : List Float) → length l ≤ m → length (padded m l) ≡ m
unfolding padded
padded-long m l h = length-append l (zeros (m - length l)) ∙ sum (length-replicate (m - length l) zero+)
  where
    sum : length (zeros (m - length l)) ≡ m - length l → length l + length (zeros (m - length l)) ≡ m
    sum e = omega arith

-- ---- what a call leaves
module _ (r : Refusal) (m : ℕ) (l xs : List Float) where
  pub left-refused : (r.number ≡ 0 → ⊥) → xs ≡ zeros m → xs ≡ left_in r m l
  unfolding left_in
  left-refused h e = simp (ne_eqb r.number 0 h) e

  pub left-answered : r.number ≡ 0 → xs ≡ padded m l → xs ≡ left_in r m l
  unfolding left_in
  left-answered h e = simp (eq-eqb r.number 0 h) e

pub left-padded : (r : Refusal) (m : ℕ) (l : List Float) → r.number ≡ 0 → left_in r m l ≡ padded m l
unfolding left_in
left-padded r m l h = simp (eq-eqb r.number 0 h)

-- a run that was cleared, by its own length
pub cleared-length : (xs : List Float) (n : ℕ) → xs ≡ zeros n → length xs ≡ n
cleared-length xs n e = ap length e ∙ length-replicate n zero+

pub cleared : (xs : List Float) (n : ℕ) → xs ≡ zeros n → xs ≡ zeros (length xs)
cleared xs n e = e ∙ ap zeros (sym (cleared-length xs n e))
