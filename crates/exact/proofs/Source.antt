-- de Boor's recursion with the source's array and its indices: levels 1 to the degree, places from the degree down to the level. Assumes nothing.
use mathlib.Core.Path.{◌≡◌, refl, sym, ◌∙◌, ap₂}
use mathlib.Core.Bool.{Bool, true, false, cond, not}
use mathlib.Core.Logic.{◌≢◌}
use Prim.Native.Nat.{ℕ, zero, suc, ◌+◌, ◌-◌, ◌≤◌, ◌<◌}
use native.Mathlib.Omega.{arith}
use lib.Dec.{T, leb, leb→le, le→leb, nleb→lt, ltb, ltb→lt, lt→ltb}
use Rattle.exact.specs.Rational.{ℚ, ◌+q◌, ◌-q◌, ◌*q◌, ◌/q◌, q1}
use Rattle.exact.specs.Spline.{rise}

-- the source's `alpha`
unfoldable pub alpha : (ℕ → ℚ) → ℚ → ℕ → ℕ → ℕ → ℕ → ℚ
alpha U t p s l j = (t -q U (s - p + j)) /q (U (s + j - l + 1) -q U (s - p + j))

-- the source's work[j] after l levels, from work = c
unfoldable pub work : (ℕ → ℚ) → ℚ → ℕ → ℕ → (ℕ → ℚ) → ℕ → ℕ → ℚ
work U t p s c zero j = c j
work U t p s c (suc l) j =
    cond (leb (suc l) j) ((q1 -q alpha U t p s (suc l) j) *q work U t p s c l (j - 1) +q alpha U t p s (suc l) j *q work U t p s c l j) (work U t p s c l j)

pub cond_yes : (x y : ℚ) (b : Bool) → T b → cond b x y ≡ x
cond_yes x y true h = refl
cond_yes x y false h = absurd h

pub cond_no : (x y : ℚ) (b : Bool) → (T b → ⊥) → cond b x y ≡ y
cond_no x y true h = absurd (h tt)
cond_no x y false h = refl

module _ (U : ℕ → ℚ) (t : ℚ) (p s : ℕ) (c : ℕ → ℚ) where
  pub work_in : (l j : ℕ) → l < j
      → work U t p s c (suc l) j ≡ (q1 -q alpha U t p s (suc l) j) *q work U t p s c l (j - 1) +q alpha U t p s (suc l) j *q work U t p s c l j
  unfolding work
  work_in l j h = cond_yes _ _ (leb (suc l) j) (le→leb (suc l) j h)

  pub work-out : (l j : ℕ) → j ≤ l → work U t p s c (suc l) j ≡ work U t p s c l j
  unfolding work
  work-out l j h = cond_no _ _ (leb (suc l) j) (λ x. let y : suc l ≤ j = leb→le (suc l) j x in omega arith)

  pub alpha-is : (k b l m : ℕ) → b + p ≡ s → l + suc k ≡ p → alpha U t p s (suc l) (suc l + m) ≡ rise U t k (suc (b + l + m))
  unfolding alpha rise
  alpha-is k b l m e f =
      let x : s - p + (suc l + m) ≡ suc (b + l + m) = omega arith in
      let y : s + (suc l + m) - suc l + 1 ≡ suc (b + l + m) + suc k = omega arith in
      ap₂ (λ i j. (t -q U i) /q (U j -q U i)) x y

-- ---- the array inside a level: the places above j have the new values B, the others still the old ones A

unfoldable pub mid : (ℕ → ℚ) → (ℕ → ℚ) → ℕ → ℕ → ℚ
mid A B j i = cond (ltb j i) (B i) (A i)

pub mid-new : (A B : ℕ → ℚ) (j i : ℕ) → j < i → mid A B j i ≡ B i
unfolding mid
mid-new A B j i h = cond_yes _ _ (ltb j i) (lt→ltb j i h)

pub mid-old : (A B : ℕ → ℚ) (j i : ℕ) → i ≤ j → mid A B j i ≡ A i
unfolding mid
mid-old A B j i h = cond_no _ _ (ltb j i) (λ x. let y : j < i = ltb→lt j i x in omega arith)

module _ (U : ℕ → ℚ) (t : ℚ) (p s : ℕ) (c : ℕ → ℚ) where
  -- the store at place j + 1 of the level l + 1: it reads two old values
  pub mid_step : (l j : ℕ) → l ≤ j → mid (work U t p s c l) (work U t p s c (suc l)) j (suc j)
      ≡ (q1 -q alpha U t p s (suc l) (suc j)) *q mid (work U t p s c l) (work U t p s c (suc l)) (suc j) j
      +q alpha U t p s (suc l) (suc j) *q mid (work U t p s c l) (work U t p s c (suc l)) (suc j) (suc j)
  mid_step l j h =
      let A = work U t p s c l in
      let B = work U t p s c (suc l) in
      let x : suc j - 1 ≡ j = omega arith in
      mid-new A B j (suc j) (omega arith) ∙ work_in U t p s c l (suc j) (omega arith)
      ∙ sym (rw (mid-old A B (suc j) j (omega arith), mid-old A B (suc j) (suc j) (omega arith), x))

  -- and changes no other place
  pub mid-other : (l j i : ℕ) → i ≢ suc j → mid (work U t p s c l) (work U t p s c (suc l)) j i ≡ mid (work U t p s c l) (work U t p s c (suc l)) (suc j) i
  mid-other l j i n = go (leb i j) (leb→le i j) (nleb→lt i j)
    where
      go : (b : Bool) → (T b → i ≤ j) → (T (not b) → j < i) → mid (work U t p s c l) (work U t p s c (suc l)) j i ≡ mid (work U t p s c l) (work U t p s c (suc l)) (suc j) i
      go true f g = let x : i ≤ j = f tt in mid-old _ _ j i x ∙ sym (mid-old _ _ (suc j) i (omega arith))
      go false f g = let x : j < i = g tt in mid-new _ _ j i x ∙ sym (mid-new _ _ (suc j) i (omega arith))

  -- when the places down to l + 1 are done, the level is
  pub mid-end : (l i : ℕ) → mid (work U t p s c l) (work U t p s c (suc l)) l i ≡ work U t p s c (suc l) i
  mid-end l i = go (leb i l) (leb→le i l) (nleb→lt i l)
    where
      go : (b : Bool) → (T b → i ≤ l) → (T (not b) → l < i) → mid (work U t p s c l) (work U t p s c (suc l)) l i ≡ work U t p s c (suc l) i
      go true f g = let x : i ≤ l = f tt in mid-old _ _ l i x ∙ sym (work-out U t p s c l i x)
      go false f g = let x : l < i = g tt in mid-new _ _ l i x
