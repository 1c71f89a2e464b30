-- A divisor that is an interval has a quotient, or holds 0; `Unbounded` is never answered. Assumes nothing.
use Rattle.std.proofs.Common.{Bool, true, false, T}
use lib.Ieee.{Float, nan, inf, fin, is_nan, lt, le, div, neg, of_bits, to_bits}
use Rattle.doubles.specs.Neighbour.{up_from, down_from}
use Rattle.exact.specs.Rational.{ℚ, q0, inv}
use Rattle.doubles.specs.Value.{val}
use Rattle.doubles.proofs.Order.{val-leq}
use Rattle.doubles.proofs.Limits.{lower-self, upper_self}
use Rattle.interval.specs.Inside.{Inside}
use Rattle.interval.specs.Ops.{contains_of, new_of, reciprocal_of, times_by, divide_of}
use Rattle.interval.specs.declared.Interval.{Interval}
use Rattle.interval.specs.declared.DivideError.{DivideError}
use Rattle.interval.specs.declared.DivideError.TheVariants.{HoldsZero, Unbounded}
use Rattle.std.specs.Prelude.{Result, Ok, Err}
use Rattle.interval.proofs.Contain.{Formed, reciprocal-formed}

-- a quotient, or none since the divisor holds 0
abbrev pub Reasoned : Result Interval DivideError → Type 0
Reasoned (Ok c) = Unit
Reasoned (Err HoldsZero) = Unit
Reasoned (Err Unbounded) = ⊥

formed-reasoned : (q : Result Interval DivideError) (x : ℚ) → Formed q x → Reasoned q
formed-reasoned (Ok c) x h = tt
formed-reasoned (Err HoldsZero) x h = tt
formed-reasoned (Err Unbounded) x h = h

abbrev pub between : Float → Float → Interval
between a b = record { lo = a; hi = b }

held-reasoned : (a b : Float) (x : ℚ) → Inside (between a b) x → Reasoned (reciprocal_of (between a b))
held-reasoned a b x i = formed-reasoned (reciprocal_of (between a b)) (inv x) (reciprocal-formed (between a b) x i)

-- both ends infinite and alike hold no fraction: their reciprocals are zeros, a step outward
infinite-reasoned : (s : Bool) → Reasoned (reciprocal_of (between (inf s) (inf s)))
unfolding reciprocal_of contains_of new_of up_from down_from div lt le is_nan of_bits to_bits neg
infinite-reasoned true = tt
infinite-reasoned false = tt

-- the others hold an end, or 0
reciprocal-reasoned : (a b : Float) → T (le a b) → Reasoned (reciprocal_of (between a b))
unfolding le is_nan
reciprocal-reasoned nan b h = absurd h
reciprocal-reasoned (inf true) nan h = absurd h
reciprocal-reasoned (inf true) (inf true) h = infinite-reasoned true
reciprocal-reasoned (inf true) (inf false) h = held-reasoned (inf true) (inf false) q0 (record { low = tt; high = tt })
reciprocal-reasoned (inf true) (fin s n e) h = held-reasoned (inf true) (fin s n e) (val (fin s n e)) (record { low = tt; high = upper_self (fin s n e) tt })
reciprocal-reasoned (inf false) nan h = absurd h
reciprocal-reasoned (inf false) (inf true) h = absurd h
reciprocal-reasoned (inf false) (inf false) h = infinite-reasoned false
reciprocal-reasoned (inf false) (fin s n e) h = absurd h
reciprocal-reasoned (fin r m d) nan h = absurd h
reciprocal-reasoned (fin r m d) (inf true) h = absurd h
reciprocal-reasoned (fin r m d) (inf false) h = held-reasoned (fin r m d) (inf false) (val (fin r m d)) (record { low = lower-self (fin r m d) tt; high = tt })
reciprocal-reasoned (fin r m d) (fin s n e) h =
    held-reasoned (fin r m d) (fin s n e) (val (fin r m d)) (record { low = lower-self (fin r m d) tt; high = val-leq (fin r m d) (fin s n e) tt tt h })

pub divide-reasoned : (a : Interval) (lo hi : Float) → T (le lo hi) → Reasoned (divide_of a (between lo hi))
unfolding divide_of
divide-reasoned a lo hi h = go (reciprocal_of (between lo hi)) (reciprocal-reasoned lo hi h)
  where
    go : (q : Result Interval DivideError) → Reasoned q → Reasoned (times_by a q)
    go (Ok c) m = tt
    go (Err HoldsZero) m = tt
    go (Err Unbounded) m = m
