-- What `tasulogi_interval_divide` returns is neither 28 nor 29: a divisor that is an interval has a quotient, or holds 0. Assumes nothing.
use Rattle.std.specs.Prelude.{Some, None, Result, Ok, Err}
use Rattle.interval.specs.declared.DivideError.TheVariants.{HoldsZero, Unbounded}
use Rattle.interval.specs.declared.DivideError.{DivideError}
use Rattle.interval.specs.declared.Interval.{Interval}
use Prim.Native.Nat.{ℕ}
use mathlib.Core.Path.{◌≡◌, refl, sym, subst}
use mathlib.Core.Bool.{Bool, true, false, cond}
use mathlib.Core.List.{List}
use lib.Dec.{T, ltb}
use lib.ListN.{length}
use lib.Ieee.{Float, le}
use Rattle.interval.specs.Ops.{new_of, divide_of}
use Rattle.interval.proofs.Quotients.{Reasoned, between, divide-reasoned}
use Rattle.bounds.specs.Holds.{NotIdle}
use Rattle.bounds.proofs.Idle.{idle}
use Rattle.exports.specs.Tables.{packed_of}
use Rattle.exports.specs.Answer.{Answer, number, Leaves}
use Rattle.exports.specs.Intervals.{on_both, both_of, quotient_answer}

reasoned-idle : (q : Result Interval DivideError) (n : ℕ) → Reasoned q → NotIdle (number (quotient_answer q) n)
unfolding packed_of
reasoned-idle (Ok i) n h = go (ltb n 2)
  where
    go : (x : Bool) → NotIdle (cond x 30 0)
    go true = idle 30 tt
    go false = idle 0 tt
reasoned-idle (Err HoldsZero) n h = idle 26 tt
reasoned-idle (Err Unbounded) n h = absurd h

module _ (al ah bl bh : Float) where
  abbrev pub quotient : Answer
  quotient = on_both (both_of (new_of al ah) (new_of bl bh)) (λ a b. quotient_answer (divide_of a b))

  divided-idle : (n : ℕ) → NotIdle (number quotient n)
  unfolding new_of
  divided-idle n = go (le al ah) (le bl bh) refl
    where
      go : (x y : Bool) → le bl bh ≡ y
          → NotIdle (number (on_both (both_of (cond x (Some (between al ah)) None) (cond y (Some (between bl bh)) None)) (λ a b. quotient_answer (divide_of a b))) n)
      go true true e = reasoned-idle (divide_of (between al ah) (between bl bh)) n (divide-reasoned (between al ah) bl bh (subst T (sym e) tt))
      go true false e = idle 99 tt
      go false true e = idle 99 tt
      go false false e = idle 99 tt

  -- both promises
  pub divided : {before after : List Float} {r : ℕ} → Leaves quotient before after r → Leaves quotient before after r × NotIdle r
  divided {before} l = (l, subst NotIdle (sym l.returned) (divided-idle (length before)))
