-- A product with k of the smallest doubles, 2 ^ -1074 each: IEEE 754 rounds it to the nearest double, a tie to the even one, and below 2 ^ -1022 a pattern is the number of the smallest doubles.
use Rattle.std.specs.Prelude.{ℕ, ◌+◌, ◌-◌, ◌*◌, ◌/◌, ◌%◌, ◌^◌, ◌&&◌, cond, ltb}
use Rattle.std.specs.Float.Ieee.Nearest.{closest}
use Rattle.tiny.specs.declared.Factor.{Factor}

-- The double of the pattern x as m / 2 ^ shift: with the exponent's field e and the digits' field t it is (2 ^ 52 + t) * 2 ^ (e - 1075).
-- Below 2 ^ -11 m is 0: the product with 1023 of the smallest doubles is less than half of one. From 2 ^ 42 on, and so with a sign, there is no factor, and the shift is 0.
unfoldable pub factor_of : ℕ → Factor
factor_of x =
    cond (ltb x 0x3f40_0000_0000_0000) (record { m = 0; shift = 63 })
    (cond (ltb x 0x4290_0000_0000_0000) (record { m = x % 2 ^ 52 + 2 ^ 52; shift = 1075 - x / 2 ^ 52 }) (record { m = 0; shift = 0 }))

-- k * m / 2 ^ shift to the nearest whole number, a tie to the even one; 0 where k is not below 1024 or f is no factor
unfoldable pub times_of : Factor → ℕ → ℕ
times_of f k = cond (ltb k 1024 && ltb f.m (2 ^ 53) && ltb 10 f.shift && ltb f.shift 64) (closest (k * f.m) (2 ^ f.shift)) 0
