use Rattle.std.proofs.Common.{◌≡◌, true, T, sym, refl, subst}
use lib.Ieee.{Float, nan, inf, fin, is_nan}
use Rattle.doubles.specs.Neighbour.{next_up, up_from}
use Rattle.doubles.proofs.TestFacts.{nan-no, nan-yes}
use Rattle.interval.proofs.float.next_up.Goals as goal

-- a NaN is its own
nan_up : (x : Float) → is_nan x ≡ true → x ≡ next_up x
unfolding up_from is_nan
nan_up nan e = refl
nan_up (inf s) e = absurd (subst T (sym e) tt)
nan_up (fin s m d) e = absurd (subst T (sym e) tt)

pub above-requires : goal.above-requires
above-requires c = nan-no c.args.x c.if-x.true

pub returns-else-x : goal.returns-else-x
returns-else-x c = nan_up c.args.x (nan-yes _ c.if-x.false)
