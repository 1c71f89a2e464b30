use Rattle.std.proofs.Common.{◌≡◌, cond, ◌||◌, T, sym, ◌∙◌, subst}
use lib.Ieee.{is_nan}
use Rattle.doubles.specs.Neighbour.{next_up, next_down}
use Rattle.interval.specs.Ops.{checked_of, entire}
use Rattle.interval.proofs.Facts.{checked-out}
use Rattle.interval.proofs.Interval.outward.Goals as goal

pub returns-then-is_nan : goal.returns-then-is_nan
returns-then-is_nan c = rw ((let tested' : checked_of (next_down c.args.lo) (next_up c.args.hi) ≡ cond (is_nan c.args.lo || is_nan c.args.hi) entire (record { lo = next_down c.args.lo; hi = next_up c.args.hi }) = checked-out c.args.lo c.args.hi (subst T (sym c.well_formed.0.1) tt) (subst T (sym c.well_formed.1.0.1) tt) in tested'), ← c.is_nan.ensures, c.if-is_nan.true) c.entire.ensures

pub returns-then-is_nan-2 : goal.returns-then-is_nan-2
returns-then-is_nan-2 c = rw (
  (let tested' : checked_of (next_down c.args.lo) (next_up c.args.hi) ≡ cond (is_nan c.args.lo || is_nan c.args.hi) entire (record { lo = next_down c.args.lo; hi = next_up c.args.hi }) = checked-out c.args.lo c.args.hi (subst T (sym c.well_formed.0.1) tt) (subst T (sym c.well_formed.1.0.1) tt) in tested'),
  ← c.is_nan.ensures,
  c.if-is_nan.false,
  ← c.is_nan-2.ensures,
  c.if-is_nan-2.true,
)
    c.entire-then-is_nan-2.ensures

pub below-requires : goal.below-requires
below-requires c = sym c.is_nan.ensures ∙ c.if-is_nan.false

pub above-requires : goal.above-requires
above-requires c = sym c.is_nan-2.ensures ∙ c.if-is_nan-2.false

pub returns : goal.returns
returns c = rw (
  (let tested' : checked_of (next_down c.args.lo) (next_up c.args.hi) ≡ cond (is_nan c.args.lo || is_nan c.args.hi) entire (record { lo = next_down c.args.lo; hi = next_up c.args.hi }) = checked-out c.args.lo c.args.hi (subst T (sym c.well_formed.0.1) tt) (subst T (sym c.well_formed.1.0.1) tt) in tested'),
  ← c.is_nan.ensures,
  c.if-is_nan.false,
  ← c.is_nan-2.ensures,
  c.if-is_nan-2.false,
  c.below.ensures,
  c.above.ensures,
)
