-- Runs of doubles as bytes: patterns are read back from their bytes, and bytes are written back from their patterns.
-- Assumes nothing.
use Prim.Native.Nat.{ℕ, zero, suc, ◌+◌, ◌*◌, ◌≤◌, ◌<◌}
use mathlib.Core.Path.{◌≡◌, refl, ◌∙◌, ap}
use mathlib.Core.List.{List, [], ◌∷◌, ◌++◌, map-append, append-nil, append_assoc}
use native.Mathlib.Numerals.{add-one}
use native.Mathlib.Omega.{arith}
use lib.ListN.{length, get_or, take, drop, length-append, length-drop, length-map}
use lib.Ieee.{Float, nan, binary64, of_bits, to_bits}
use lib.Seq.{drop-drop, drop_at, take-suc, length-take-le}
use Rattle.record.specs.Format.{little, doubles, Patterns}
use Rattle.record.specs.Reading.{number, patterns, numbers}
use Rattle.record.specs.Writing.{bits}
use Rattle.record.proofs.Little.{Bytes, bytes_drop, length-little, number_lt, little-number, number-little}

-- eight bytes on, then the rest
drop-eight : (n : ℕ) (l : List ℕ) → drop (8 * n) (drop 8 l) ≡ drop (8 * suc n) l
drop-eight n l =
    let e : 8 + 8 * n ≡ 8 * suc n = omega arith in
    rw (drop-drop, e)

pub length-doubles : (xs : List ℕ) → length (doubles xs) ≡ 8 * length xs
unfolding doubles
length-doubles [] = refl
length-doubles (x ∷ xs) = rw (length-append, length-little, length-doubles xs) (omega arith)

pub length-patterns : (n : ℕ) (l : List ℕ) → length (patterns n l) ≡ n
unfolding patterns
length-patterns zero l = refl
length-patterns (suc n) l = ap suc (length-patterns n (drop 8 l))

pub are-patterns : (n : ℕ) (l : List ℕ) → Bytes l → Patterns (patterns n l)
unfolding patterns
are-patterns zero l b = tt
are-patterns (suc n) l b = (number_lt 8 l b, are-patterns n (drop 8 l) (bytes_drop 8 l b))

pub doubles-patterns : (n : ℕ) (l : List ℕ) → Bytes l → 8 * n ≤ length l → doubles (patterns n l) ++ drop (8 * n) l ≡ l
unfolding doubles patterns
doubles-patterns zero l b h = refl
doubles-patterns (suc n) l b h =
    let more : 8 * n ≤ length (drop 8 l) = rw length-drop (omega arith) in
    rw (← drop-eight, append_assoc, doubles-patterns n (drop 8 l) (bytes_drop 8 l b) more) (little-number 8 l b (omega arith))

pub patterns-doubles : (xs rest : List ℕ) → Patterns xs → patterns (length xs) (doubles xs ++ rest) ≡ xs
unfolding doubles patterns
patterns-doubles [] rest p = refl
patterns-doubles (x ∷ xs) rest p =
    rw (append_assoc, number-little 8 x (doubles xs ++ rest) p.0, drop_at (little 8 x) (doubles xs ++ rest) 8 (length-little 8 x), patterns-doubles xs rest p.1)

-- one pattern more
pub patterns-suc : (n : ℕ) (l : List ℕ) → patterns (suc n) l ≡ patterns n l ++ (number 8 (drop (8 * n) l) ∷ [])
unfolding patterns
patterns-suc zero l = refl
patterns-suc (suc n) l =
    rw (patterns-suc n (drop 8 l), drop-eight)

-- the bytes of one double more
pub doubles-append : (xs ys : List ℕ) → doubles (xs ++ ys) ≡ doubles xs ++ doubles ys
unfolding doubles
doubles-append [] ys = refl
doubles-append (x ∷ xs) ys = rw (doubles-append xs ys, append_assoc)

-- ---- doubles

-- one number more, read at its place
pub numbers_more : (j i : ℕ) (s : List ℕ) → numbers (patterns (j + 1) (drop i s)) ≡ numbers (patterns j (drop i s)) ++ (of_bits binary64 (number 8 (drop (i + 8 * j) s)) ∷ [])
numbers_more j i s = rw (add-one, patterns-suc, drop-drop) (map-append (λ (x : ℕ). of_bits binary64 x) (patterns j (drop i s)) _)

pub length-numbers : (j : ℕ) (l : List ℕ) → length (numbers (patterns j l)) ≡ j
length-numbers j l = length-map (patterns j l) (λ (x : ℕ). of_bits binary64 x) ∙ length-patterns j l

-- the bytes of one double more
pub doubles-more : (j : ℕ) (xs : List Float) → j < length xs → doubles (bits (take (j + 1) xs)) ≡ doubles (bits (take j xs)) ++ little 8 (to_bits binary64 (get_or xs j nan))
unfolding doubles
doubles-more j xs h =
    rw (add-one, take-suc xs j nan h, map-append (λ (x : Float). to_bits binary64 x) (take j xs) (get_or xs j nan ∷ []), doubles-append)
    (ap (λ (t : List ℕ). doubles (bits (take j xs)) ++ t) (append-nil (little 8 (to_bits binary64 (get_or xs j nan)))))

pub length-bits : (j : ℕ) (xs : List Float) → j ≤ length xs → length (doubles (bits (take j xs))) ≡ 8 * j
length-bits j xs h = rw (length-doubles, length-map, length-take-le)
