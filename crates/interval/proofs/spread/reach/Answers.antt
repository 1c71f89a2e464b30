use Rattle.std.proofs.Common.{sym, ap, ◌∙◌}
use Rattle.interval.specs.declared.Interval.{Interval}
use Rattle.interval.proofs.Symmetric.{about-zero}
use Rattle.interval.proofs.spread.reach.Goals as goal

pub returns-then-is_nan : goal.returns-then-is_nan
returns-then-is_nan c = let a = c.args in
    rw (ap (λ (i : Interval). i.hi) (about-zero a.s a.a), ← c.is_nan.ensures, c.if-is_nan.true) c.infinity.ensures

pub returns-then-is_nan-2 : goal.returns-then-is_nan-2
returns-then-is_nan-2 c = let a = c.args in
    rw (
      ap (λ (i : Interval). i.hi) (about-zero a.s a.a),
      ← c.is_nan.ensures,
      c.if-is_nan.false,
      ← c.is_nan-2.ensures,
      c.if-is_nan-2.true,
    )
    c.infinity-then-is_nan-2.ensures

pub above_sizes-requires : goal.above_sizes-requires
above_sizes-requires c = (sym c.is_nan.ensures ∙ c.if-is_nan.false, sym c.is_nan-2.ensures ∙ c.if-is_nan-2.false)

pub returns : goal.returns
returns c = let a = c.args in
    rw (
      c.above_sizes.ensures,
      ap (λ (i : Interval). i.hi) (about-zero a.s a.a),
      ← c.is_nan.ensures,
      c.if-is_nan.false,
      ← c.is_nan-2.ensures,
      c.if-is_nan-2.false,
    )
