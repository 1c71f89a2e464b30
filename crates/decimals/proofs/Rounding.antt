-- A fraction as a whole number, cut or rounded up: what it is, and that it may be found in steps.
-- Assumes nothing.
use Prim.Native.Nat.{ℕ, ◌+◌, ◌-◌, ◌*◌, ◌/◌, ◌^◌, ◌≤◌, ◌<◌}
use mathlib.Core.Bool.{Bool, true, false, cond}
use mathlib.Core.Path.{◌≡◌, sym, ◌∙◌, ap}
use native.Mathlib.Nat.{le_trans, lt_of_lt_of_le, lt_of_le_of_lt, mul-lt-mul_of_pos_right, add-mul, mul_comm, mul_assoc, mul-one, mul-le-mul_left, div-one, div-div-eq-div-mul}
use native.Mathlib.Nat.{mul-div-mul_right, add-mul-div_right, div-lt_iff_lt-mul, div-mul-le_self, div-add-mod', mod-lt, div-le_self, add-zero}
use native.Mathlib.Omega.{arith}
use lib.Dec.{lit≤}
use lib.Pow.{pow-add, pow_pos, pow_mono}
use lib.Arith.{digits_div, mul_pred}
use Rattle.decimals.specs.Fixed.{whole}

pub whole-one : (a : Bool) (n : ℕ) → whole a n 1 ≡ n
unfolding whole
whole-one false n = div-one n
whole-one true n = div-one (n + 0) ∙ add-zero n

-- by a product in two steps
pub whole_twice : (a : Bool) (n g h : ℕ) → 0 < g → 0 < h → whole a (whole a n g) h ≡ whole a n (g * h)
unfolding whole
whole_twice false n g h p q = div-div-eq-div-mul n g h
whole_twice true n g h p q =
    let inner : (n + (g - 1)) / g + (h - 1) ≡ (n + (g * h - 1)) / g = sym (add-mul-div_right (n + (g - 1)) (h - 1) p) ∙ ap (λ z. z / g) (sums g h p q) in
    ap (λ z. z / h) inner ∙ div-div-eq-div-mul (n + (g * h - 1)) g h
  where
    sums : (g h : ℕ) → 0 < g → 0 < h → n + (g - 1) + (h - 1) * g ≡ n + (g * h - 1)
    sums g h p q = rw (mul_comm g h, mul_pred q p) (omega arith)

-- no larger than the fraction over 1
pub whole_le : (a : Bool) (n g : ℕ) → 0 < g → whole a n g ≤ n
unfolding whole
whole_le false n g p = div-le_self n g
whole_le true n g p =
    let more : n * 1 ≤ n * g = mul-le-mul_left n p in
    let below : n + (g - 1) < (n + 1) * g = omega (arith, add-mul n 1 g) in
    omega (arith, (div-lt_iff_lt-mul p).1 below)

-- the same fraction over another number
pub whole-scale : (a : Bool) (n d k : ℕ) → 0 < d → 0 < k → whole a (n * k) (d * k) ≡ whole a n d
unfolding whole
whole-scale false n d k p q = mul-div-mul_right n d q
whole-scale true n d k p q =
    let sum : n * k + (d * k - 1) ≡ (n + (d - 1)) * k + (k - 1) = rw (mul_pred p q, add-mul) (omega arith) in
    rw (sum, mul_comm d k, ← div-div-eq-div-mul) (ap (λ z. z / d) (digits_div (n + (d - 1)) (less k q)))
  where
    less : (k : ℕ) → 0 < k → k - 1 < k
    less k h = omega arith

pub whole_same : (a : Bool) (n d n' d' : ℕ) → 0 < d → 0 < d' → n * d' ≡ n' * d → whole a n d ≡ whole a n' d'
whole_same a n d n' d' p q e = sym (whole-scale a n d d' p q) ∙ rw (e, mul_comm d d') (whole-scale a n' d' d q p)

pub whole-exact : (a : Bool) (n d : ℕ) → 0 < d → whole a (n * d) d ≡ n
whole-exact a n d p = whole_same a (n * d) d n 1 p (omega arith) (mul-one (n * d)) ∙ whole-one a n

-- ---- what it is

pub cut : (n d : ℕ) → 0 < d → (whole false n d * d ≤ n) × (n < (whole false n d + 1) * d)
unfolding whole
cut n d p = (div-mul-le_self n d, omega (arith, add-mul (n / d) 1 d, div-add-mod' n d, mod-lt n p))

pub raised : (n d : ℕ) → 0 < d → (n ≤ whole true n d * d) × (whole true n d * d < n + d)
unfolding whole
raised n d p =
    let q = (n + (d - 1)) / d in
    let e = div-add-mod' (n + (d - 1)) d in
    let r = mod-lt (n + (d - 1)) p in
    (omega arith, omega arith)

-- ---- by powers of 2, a part at a time

power-split : (s k : ℕ) → s ≤ k → 2 ^ s * 2 ^ (k - s) ≡ 2 ^ k
power-split s k h = let e : s + (k - s) ≡ k = omega arith in sym (pow-add 2 s (k - s)) ∙ ap (λ z. 2 ^ z) e

pub halving-step : (a : Bool) (n s left : ℕ) → s ≤ left → whole a (whole a n (2 ^ s)) (2 ^ (left - s)) ≡ whole a n (2 ^ left)
halving-step a n s left h = whole_twice a n (2 ^ s) (2 ^ (left - s)) (pow_pos s) (pow_pos (left - s)) ∙ rw (power-split s left h)

pub doubling-step : (n s left : ℕ) → s ≤ left → (n * 2 ^ s + 0) * 2 ^ (left - s) ≡ n * 2 ^ left
doubling-step n s left h = rw (add-zero, mul_assoc, power-split s left h)

pub doubling-fits : (n s left top : ℕ) → s ≤ left → n * 2 ^ left < top → n * 2 ^ s + 0 < top
doubling-fits n s left top h l = let p : n * 2 ^ s ≤ n * 2 ^ left = mul-le-mul_left n (pow_mono h) in omega arith

pub extra-whole : (a : Bool) (n g : ℕ) → (n * 1 + cond a (g - 1) 0) / g ≡ whole a n g
unfolding whole
extra-whole false n g = rw (mul-one, add-zero)
extra-whole true n g = rw mul-one

pub extra-small : (a : Bool) (g : ℕ) → 0 < g → g ≤ 4294967296 → cond a (g - 1) 0 < 4294967296
extra-small false g p h = omega arith
extra-small true g p h = omega arith

-- ---- in units of 2 ^ -K

pub scaled-down : (K : ℕ) (a : Bool) (n j : ℕ) → j ≤ K → whole a n (2 ^ (K - j)) ≡ whole a (n * 2 ^ j) (2 ^ K)
scaled-down K a n j h = sym (whole-scale a n (2 ^ (K - j)) (2 ^ j) (pow_pos (K - j)) (pow_pos j)) ∙ rw (mul_comm (2 ^ (K - j)) (2 ^ j), power-split j K h)

pub scaled-up : (K : ℕ) (a : Bool) (n j : ℕ) → K ≤ j → n * 2 ^ (j - K) ≡ whole a (n * 2 ^ j) (2 ^ K)
scaled-up K a n j h = sym (whole-exact a (n * 2 ^ (j - K)) (2 ^ K) (pow_pos K)) ∙ rw (mul_assoc, mul_comm (2 ^ (j - K)) (2 ^ K), power-split K j h)

-- ---- room for every double's billionths in 330 figures

pub room-down : (n len : ℕ) → len ≡ 330 → n < 2 ^ 83 → n + 4294967296 ≤ 10 ^ len
room-down n len e h = let more : 2 ^ 83 + 4294967296 ≤ 10 ^ 330 = lit≤ tt in rw e (le_trans (sums n (2 ^ 83) h) more)
  where
    sums : (n b : ℕ) → n < b → n + 4294967296 ≤ b + 4294967296
    sums n b h = omega arith

pub small-up : (n k : ℕ) → n < 2 ^ 83 → k ≤ 971 → n * 2 ^ k < 10 ^ 318
small-up n k h l =
    lt_of_le_of_lt (mul-le-mul_left n (pow_mono l)) (lt_of_lt_of_le (mul-lt-mul_of_pos_right h (pow_pos 971)) (lit≤ {m = 2 ^ 83 * 2 ^ 971} {n = 10 ^ 318} tt))

pub small-down : (n q : ℕ) → q ≤ n → n < 2 ^ 83 → q < 10 ^ 318
small-down n q l h = lt_of_le_of_lt l (lt_of_lt_of_le h (lit≤ {m = 2 ^ 83} {n = 10 ^ 318} tt))

pub room-up : (n len : ℕ) → len ≡ 330 → n < 10 ^ 318 → n < 10 ^ len
room-up n len e h = rw e (lt_of_lt_of_le h (lit≤ {m = 10 ^ 318} {n = 10 ^ 330} tt))

pub room-first : (n q len : ℕ) → n ≡ 0 → len ≡ 330 → q < 9007199254740992 → n * 1 + q < 10 ^ len
room-first n q len e l h = room-up (n * 1 + q) len l (lt_of_lt_of_le (sums n q e h) (lit≤ {m = 9007199254740992} {n = 10 ^ 318} tt))
  where
    sums : (n q : ℕ) → n ≡ 0 → q < 9007199254740992 → n * 1 + q < 9007199254740992
    sums n q e h = omega arith

pub room-billion : (n q k len : ℕ) → n ≡ 0 → k ≡ n * 1 + q → len ≡ 330 → q < 9007199254740992 → k * 1000000000 + 0 < 10 ^ len
room-billion n q k len e f l h = room-up (k * 1000000000 + 0) len l (lt_of_lt_of_le (sums n q k e f h) (lit≤ {m = 9007199254740992000000000} {n = 10 ^ 318} tt))
  where
    sums : (n q k : ℕ) → n ≡ 0 → k ≡ n * 1 + q → q < 9007199254740992 → k * 1000000000 + 0 < 9007199254740992000000000
    sums n q k e f h = omega arith

pub billions : (n q k m p : ℕ) → n ≡ 0 → k ≡ n * 1 + q → m ≡ k * 1000000000 + 0 → m * p ≡ q * p * 1000000000
billions n q k m p e f g = let whole-q : m ≡ q * 1000000000 = omega arith in rw (whole-q, mul_assoc, mul_assoc, mul_comm 1000000000 p)
