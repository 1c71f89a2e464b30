use Rattle.std.proofs.Common.{◌≡◌, refl, sym, ap, ◌∙◌}
use Rattle.std.specs.Prelude.{Option, Some, None}
use Rattle.std.specs.Option.{ok_or}
use Rattle.interval.specs.declared.Interval.{Interval}
use Rattle.interval.specs.declared.DivideError.TheVariants.{Unbounded}
use lib.Ieee.{of_bits, is_nan}
use Rattle.doubles.proofs.Extremes.{min-number, max-number}
use Rattle.interval.specs.Ops.{contains_of, reciprocal_of, made_by}
use Rattle.interval.proofs.Nans.{no_number, stepped}
use Rattle.interval.proofs.reciprocal.Goals as goal

pub returns-then-contains : goal.returns-then-contains
unfolding of_bits reciprocal_of contains_of
returns-then-contains c = rw (← c.contains.ensures, c.if-contains.true)

pub returns-then-is_nan : goal.returns-then-is_nan
unfolding of_bits reciprocal_of contains_of
returns-then-is_nan c = rw (← c.contains.ensures, c.if-contains.false) (sym (ap made_by (no_number _ _ (ap is_nan (sym c.number-x.ensures) ∙ sym c.is_nan.ensures ∙ c.if-is_nan.true))))

pub least-requires : goal.least-requires
least-requires c = sym c.is_nan.ensures ∙ c.if-is_nan.false

pub below-requires : goal.below-requires
below-requires c = ap is_nan c.least.ensures ∙ min-number _ _ (sym c.is_nan.ensures ∙ c.if-is_nan.false)

pub most-requires : goal.most-requires
most-requires c = sym c.is_nan.ensures ∙ c.if-is_nan.false

pub above-requires : goal.above-requires
above-requires c = ap is_nan c.most.ensures ∙ max-number _ _ (sym c.is_nan.ensures ∙ c.if-is_nan.false)

made : (n : Option Interval) → ok_or n Unbounded ≡ made_by n
made (Some r) = refl
made None = refl

pub returns : goal.returns
unfolding of_bits reciprocal_of contains_of
returns c = rw (← c.contains.ensures, c.if-contains.false) (
    c.ok_or.ensures.value ∙ made c.new.result ∙ ap made_by (c.new.ensures ∙ stepped _ _ _ _ _ _ _ c.number-x.ensures c.least.ensures c.below.ensures c.most.ensures c.above.ensures)
    )
