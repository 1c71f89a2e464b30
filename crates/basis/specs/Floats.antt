-- The arithmetic of doubles, each operation one rounding of IEEE 754, with 0.0 and 1.0 as the program writes them.
use Rattle.std.specs.Prelude.{pos, Float}
use Rattle.std.specs.Float.{binary64}
use Rattle.std.specs.Float.Ieee.{add, sub, mul, div, neg, of_int, of_bits}
use Rattle.exact.specs.Scheme.{Arithmetic}

abbrev pub floats : Arithmetic Float
floats = record {
  add = add binary64;
  sub = sub binary64;
  mul = mul binary64;
  div = div binary64;
  neg = neg;
  nought = of_bits binary64 0;
  one = of_bits binary64 0x3ff0_0000_0000_0000;
  whole = λ n. of_int binary64 (pos n);
}
