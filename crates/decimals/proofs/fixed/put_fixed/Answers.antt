-- The bits tell which of the four answers it is.
-- Assumes nothing.
use lib.Dec.{T, leb}
use native.Mathlib.Omega.{arith}
use mathlib.Core.Path.{sym, subst}
use lib.Ieee.{binary64, fits}
use Rattle.decimals.proofs.Decimals.{inf-stored}
use Rattle.decimals.proofs.Patterns.{nan_is, inf-is, small_is, large_is}
use Rattle.decimals.proofs.fixed.put_fixed.Goals as goal

pub returns-then-size-gt9218868437227405312 : goal.returns-then-size-gt9218868437227405312
returns-then-size-gt9218868437227405312 c = let a = c.args in
    let good = c.well_formed in
    let fit : T (fits binary64 a.x) = subst T (sym good.1.1.1.0.1) tt in
    let f = nan_is a.up a.x fit _ c.bits_of-bits.ensures c.if-size-gt9218868437227405312.true in
    let w = c.store.ensures.stored in
    rw f (record {
      out_after = w.run;
      value = w.end;
      upper_bound = omega arith;
    })

pub returns-then-size-eq9218868437227405312 : goal.returns-then-size-eq9218868437227405312
returns-then-size-eq9218868437227405312 c = let a = c.args in
    let good = c.well_formed in
    let fit : T (fits binary64 a.x) = subst T (sym good.1.1.1.0.1) tt in
    let f =
    inf-is
    a.up a.x fit _ c.bits_of-bits.ensures
    c.if-size-eq9218868437227405312.true in
    let m = c.put_minus-next.ensures in
    let w = c.store-then-size-eq9218868437227405312.ensures.stored in
    let r =
    inf-stored
    a.out.now a.at (leb 0x8000000000000000 c.bits_of-bits.result) m.out_after m.value m.upper_bound w.run w.end in
    rw f (record {
      out_after = r.0;
      value = r.1;
      upper_bound = r.2;
    })

pub returns-then-field-eq0 : goal.returns-then-field-eq0
returns-then-field-eq0 c = let a = c.args in
    let good = c.well_formed in
    let fit : T (fits binary64 a.x) = subst T (sym good.1.1.1.0.1) tt in
    let f =
    small_is
    a.up a.x fit _ c.bits_of-bits.ensures c.if-size-gt9218868437227405312.false
    c.if-size-eq9218868437227405312.false c.if-field-eq0.true in
    let w = c.put_finite.ensures in
    rw f (record { out_after = w.out_after; value = w.value; upper_bound = w.upper_bound })

pub returns : goal.returns
returns c = let a = c.args in
    let good = c.well_formed in
    let fit : T (fits binary64 a.x) = subst T (sym good.1.1.1.0.1) tt in
    let f =
    large_is
    a.up a.x fit _ c.bits_of-bits.ensures c.if-size-gt9218868437227405312.false
    c.if-size-eq9218868437227405312.false c.if-field-eq0.false in
    let w = c.put_finite-2.ensures in
    rw f (record { out_after = w.out_after; value = w.value; upper_bound = w.upper_bound })
