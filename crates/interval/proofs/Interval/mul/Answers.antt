use Rattle.std.proofs.Common.{◌≡◌, false, sym, ap, ◌∙◌}
use lib.Ieee.{binary64, is_nan}
use Rattle.doubles.proofs.Products.{Products}
use Rattle.doubles.proofs.Extremes.{min-number, max-number, least-pairs, greatest-pairs}
use Rattle.interval.specs.Ops.{mul_of}
use Rattle.interval.proofs.Facts.{none-nan}
use Rattle.interval.proofs.Interval.mul.Goals as goal

pub returns-then-some_nan : goal.returns-then-some_nan
unfolding mul_of
returns-then-some_nan c = rw (← c.some_nan.ensures, c.if-some_nan.true) c.entire.ensures

pub least-requires : goal.least-requires
least-requires c = (let none' : (let a = c.args.self in
    let o = c.args.o in Products (λ x. is_nan x ≡ false) binary64 a.lo a.hi o.lo o.hi) = none-nan _ _ _ _ (sym c.some_nan.ensures ∙ c.if-some_nan.false) in none').one

pub least-requires-2 : goal.least-requires-2
least-requires-2 c = (let none' : (let a = c.args.self in
    let o = c.args.o in Products (λ x. is_nan x ≡ false) binary64 a.lo a.hi o.lo o.hi) = none-nan _ _ _ _ (sym c.some_nan.ensures ∙ c.if-some_nan.false) in none').three

pub least-lo-requires : goal.least-lo-requires
least-lo-requires c = ap is_nan c.least.ensures ∙ min-number _ _ (let none' : (let a = c.args.self in
    let o = c.args.o in Products (λ x. is_nan x ≡ false) binary64 a.lo a.hi o.lo o.hi) = none-nan _ _ _ _ (sym c.some_nan.ensures ∙ c.if-some_nan.false) in none').one

pub most-requires : goal.most-requires
most-requires c = (let none' : (let a = c.args.self in
    let o = c.args.o in Products (λ x. is_nan x ≡ false) binary64 a.lo a.hi o.lo o.hi) = none-nan _ _ _ _ (sym c.some_nan.ensures ∙ c.if-some_nan.false) in none').one

pub most-requires-2 : goal.most-requires-2
most-requires-2 c = (let none' : (let a = c.args.self in
    let o = c.args.o in Products (λ x. is_nan x ≡ false) binary64 a.lo a.hi o.lo o.hi) = none-nan _ _ _ _ (sym c.some_nan.ensures ∙ c.if-some_nan.false) in none').three

pub most-hi-requires : goal.most-hi-requires
most-hi-requires c = ap is_nan c.most.ensures ∙ max-number _ _ (let none' : (let a = c.args.self in
    let o = c.args.o in Products (λ x. is_nan x ≡ false) binary64 a.lo a.hi o.lo o.hi) = none-nan _ _ _ _ (sym c.some_nan.ensures ∙ c.if-some_nan.false) in none').one

pub returns : goal.returns
unfolding mul_of
returns c = let n = (let none' : (let a = c.args.self in
    let o = c.args.o in Products (λ x. is_nan x ≡ false) binary64 a.lo a.hi o.lo o.hi) = none-nan _ _ _ _ (sym c.some_nan.ensures ∙ c.if-some_nan.false) in none') in
    rw (
      ← c.some_nan.ensures,
      c.if-some_nan.false,
      ← (least-pairs _ _ _ _ n),
      ← (greatest-pairs _ _ _ _ n),
      c.outward.ensures,
      c.least-lo.ensures,
      c.least-2.ensures,
      c.least.ensures,
      c.most-hi.ensures,
      c.most-2.ensures,
      c.most.ensures,
    )
