use Rattle.std.proofs.Common.{◌≡◌, ℕ, ◌+◌, ◌-◌, ◌*◌, ◌/◌, ◌<◌, ◌≤◌, ltb, sym, ap, ◌∙◌, inl, inr, arith, ltb→lt, nltb→le}
use lib.Ieee.{binary64, of_bits, to_bits}
use lib.Ieee.Bits.{nan_bits_is, of_bits-fits, to_bits-of_bits}
use Rattle.doubles.specs.Value.{Number}
use Rattle.doubles.proofs.TestFacts.{Tn-of, yes_or_no}
use Rattle.doubles.proofs.Stepping.{up-at-sign, up-at-top, up-clear, up-set}
use Rattle.interval.proofs.step.pattern_above.Goals as goal

-- the sign's weight, and the step as it counts the sign
abbrev sign : ℕ
sign = 0x8000_0000_0000_0000

clear_step : (b : ℕ) → b < sign → b - 2 * (b / sign) + 1 ≡ b + 1
clear_step b h = omega arith

set-step : (b : ℕ) → sign ≤ b → b < 2 * sign → b - 2 * (b / sign) + 1 ≡ b - 1
set-step b h k = omega arith

pub returns-then-b-eq9223372036854775808 : goal.returns-then-b-eq9223372036854775808
returns-then-b-eq9223372036854775808 c = let b = c.args.b in
    sym (up-at-sign binary64 (of_bits binary64 b) (of_bits-fits binary64 b) (let number' : Number (of_bits binary64 c.args.b) = Tn-of _ (sym (nan_bits_is binary64 c.args.b) ∙ c.requires) in number') ((let bits' : to_bits binary64 (of_bits binary64 c.args.b) ≡ c.args.b = to_bits-of_bits binary64 c.args.b (omega arith) (let number' : Number (of_bits binary64 c.args.b) = Tn-of _ (sym (nan_bits_is binary64 c.args.b) ∙ c.requires) in number') in bits') ∙ c.if-b-eq9223372036854775808.true))

pub returns-then-b-eq9218868437227405312 : goal.returns-then-b-eq9218868437227405312
returns-then-b-eq9218868437227405312 c = let b = c.args.b in
    sym (up-at-top binary64 (of_bits binary64 b) (of_bits-fits binary64 b) (let number' : Number (of_bits binary64 c.args.b) = Tn-of _ (sym (nan_bits_is binary64 c.args.b) ∙ c.requires) in number') ((let bits' : to_bits binary64 (of_bits binary64 c.args.b) ≡ c.args.b = to_bits-of_bits binary64 c.args.b (omega arith) (let number' : Number (of_bits binary64 c.args.b) = Tn-of _ (sym (nan_bits_is binary64 c.args.b) ∙ c.requires) in number') in bits') ∙ c.if-b-eq9218868437227405312.true))

pub returns : goal.returns
returns c = let b = c.args.b in
    let x = of_bits binary64 b in
    let h = of_bits-fits binary64 b in
    let n = (let number' : Number (of_bits binary64 c.args.b) = Tn-of _ (sym (nan_bits_is binary64 c.args.b) ∙ c.requires) in number') in
    let e = (let bits' : to_bits binary64 (of_bits binary64 c.args.b) ≡ c.args.b = to_bits-of_bits binary64 c.args.b (omega arith) (let number' : Number (of_bits binary64 c.args.b) = Tn-of _ (sym (nan_bits_is binary64 c.args.b) ∙ c.requires) in number') in bits') in
    elim (yes_or_no (ltb b sign)) [
      | inl t ↦ let l = ltb→lt b sign t in ap (of_bits binary64) (clear_step b l ∙ ap (λ (z : ℕ). z + 1) (sym e)) ∙ sym (up-clear binary64 x h n (omega (arith, e)) (λ k. c.if-b-eq9218868437227405312.false (sym e ∙ k)))
      | inr t ↦ let l = nltb→le b sign t in ap (of_bits binary64) (set-step b l (omega arith) ∙ ap (λ (z : ℕ). z - 1) (sym e))
          ∙ sym (up-set binary64 x h n (omega (arith, e)) (λ k. c.if-b-eq9223372036854775808.false (sym e ∙ k)))
    ]
