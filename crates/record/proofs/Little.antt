-- Little-endian bytes: a number is read back from its bytes, bytes are written back from their number, and both split at any width; both are what std reads and writes.
-- Assumes nothing.
use Prim.Native.Nat.{ℕ, zero, suc, ◌+◌, ◌-◌, ◌*◌, ◌/◌, ◌%◌, ◌^◌, ◌≤◌, ◌<◌}
use mathlib.Core.Path.{◌≡◌, refl, sym, ◌∙◌, ap}
use mathlib.Core.List.{List, [], ◌∷◌, ◌++◌}
use native.Mathlib.Nat.{not-suc-le-zero, le_of_suc-le-suc, zero-add, add-zero, suc-add, div-one, div-div-eq-div-mul, pow-suc, pow-succ', one-mul, mul_assoc, mul_comm, mul-add}
use native.Mathlib.Numerals.{one-add, add-one}
use native.Mathlib.Omega.{arith}
use lib.ListN.{length, get_or, take, drop}
use lib.Seq.{get_or-drop, drop-drop}
use Rattle.std.specs.Array.{IsFirstChunk}
use Rattle.std.proofs.lemmas.List.{take_rest}
use Rattle.std.specs.Int.{bytes_low_first, byte_worth, sum_through}
use Rattle.record.specs.Format.{little}
use Rattle.record.specs.Reading.{number}

-- every element is a byte, as in each slice of bytes
abbrev pub Bytes : List ℕ → Type 0
Bytes l = (i : ℕ) → get_or l i 0 < 256

pub bytes_drop : (n : ℕ) (l : List ℕ) → Bytes l → Bytes (drop n l)
bytes_drop n l b i = rw get_or-drop (b (n + i))

pub length-little : (w n : ℕ) → length (little w n) ≡ w
unfolding little
length-little zero n = refl
length-little (suc w) n = ap suc (length-little w (n / 256))

pub number_lt : (w : ℕ) (l : List ℕ) → Bytes l → number w l < 256 ^ w
unfolding number
number_lt zero l b = omega arith
number_lt (suc w) l b = rw pow-succ' (omega (arith, b 0, number_lt w (drop 1 l) (bytes_drop 1 l b)))

pub little-number : (w : ℕ) (l : List ℕ) → Bytes l → w ≤ length l → little w (number w l) ++ drop w l ≡ l
unfolding little number
little-number zero l b h = refl
little-number (suc w) [] b h = absurd (not-suc-le-zero h)
little-number (suc w) (x ∷ l) b h =
    let m = number w l in
    let low : (x + 256 * m) % 256 ≡ x = omega (arith, b 0) in
    let high : (x + 256 * m) / 256 ≡ m = omega (arith, b 0) in
    rw (low, high, little-number w l (bytes_drop 1 (x ∷ l) b) (le_of_suc-le-suc h))

pub number-little : (w n : ℕ) (rest : List ℕ) → n < 256 ^ w → number w (little w n ++ rest) ≡ n
unfolding little number
number-little zero n rest h = omega arith
number-little (suc w) n rest h =
    let below : n / 256 < 256 ^ w = omega (arith, rw pow-succ' at h) in
    rw (number-little w (n / 256) rest below) (omega arith)

pub little-add : (w v n : ℕ) → little (w + v) n ≡ little w n ++ little v (n / 256 ^ w)
unfolding little
little-add zero v n = rw (zero-add, div-one)
little-add (suc w) v n = rw (suc-add, little-add w v (n / 256), pow-succ', ← div-div-eq-div-mul)

pub number-add : (w v : ℕ) (l : List ℕ) → number (w + v) l ≡ number w l + 256 ^ w * number v (drop w l)
unfolding number
number-add zero v l = rw (zero-add, zero-add, one-mul)
number-add (suc w) v l =
    rw (suc-add, number-add w v (drop 1 l), drop-drop w 1 l, one-add, pow-succ', mul-add, mul_assoc) (omega arith)

-- ---- std's words

-- the first w bytes alone count
number_take : (w : ℕ) (l : List ℕ) → number w (take w l) ≡ number w l
unfolding number
number_take zero l = refl
number_take (suc w) [] = refl
number_take (suc w) (x ∷ l) = rw (number_take w l)

-- bytes as `from_le_bytes` adds them up
number_sum : (w : ℕ) (l : List ℕ) → sum_through (λ i. byte_worth i (get_or l i 0)) w ≡ number (suc w) l
unfolding number
number_sum zero l = omega arith
number_sum (suc w) l =
    let more : number (suc (suc w)) l ≡ number (suc w) l + 256 ^ suc w * number 1 (drop (suc w) l) = rw add-one at (number-add (suc w) 1 l) in
    let last : number 1 (drop (suc w) l) ≡ get_or l (suc w) 0 = rw (get_or-drop (suc w) l 0 0, add-zero (suc w)) (omega arith) in
    rw (number_sum w l) (ap (λ z. number (suc w) l + z) (mul_comm (get_or l (suc w) 0) (256 ^ suc w) ∙ ap (λ z. 256 ^ suc w * z) (sym last)) ∙ sym more)

pub number-first : (w i : ℕ) (s b : List ℕ) → IsFirstChunk (take (length s - i) (drop i s)) b (suc w) → sum_through (λ j. byte_worth j (get_or b j 0)) w ≡ number (suc w) (drop i s)
number-first w i s b first = number_sum w b ∙ (ap (number (suc w)) (rw take_rest at first.same) ∙ number_take (suc w) (drop i s))

-- bytes as `to_le_bytes` gives them
little_from : (i w n : ℕ) → bytes_low_first i w n ≡ little w (n / 256 ^ i)
unfolding little
little_from i zero n = refl
little_from zero (suc w) n = rw (little_from 1 w n, div-one)
little_from (suc i) (suc w) n = rw (little_from (suc (suc i)) w n, div-div-eq-div-mul, pow-suc 256 (suc i))

pub little-bytes : (w n : ℕ) → bytes_low_first 0 w n ≡ little w n
little-bytes w n = little_from 0 w n ∙ rw div-one
