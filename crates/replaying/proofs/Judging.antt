-- What the tests of an answer's bits say of the answer.
-- Assumes nothing.
use Prim.Native.Nat.{ℕ}
use mathlib.Core.Path.{◌≡◌, sym, ap, ◌∙◌}
use mathlib.Core.Bool.{Bool, true}
use mathlib.Core.Logic.{inl, inr}
use lib.Dec.{T, eqb}
use lib.Ieee.{Float, binary64, fits, eq, of_bits, to_bits}
use lib.Ieee.Bits.{of_bits-to_bits, of_bits-fits}
use borrow.Author.Tests.{eqb-true, eq-eqb}
use Rattle.replaying.specs.Same.{Zero, Same, Judges}

-- doubles of one pattern are one double
pub one-pattern : (x y : Float) → T (fits binary64 x) → T (fits binary64 y) → to_bits binary64 x ≡ to_bits binary64 y → x ≡ y
one-pattern x y p q e = sym (of_bits-to_bits binary64 x p) ∙ (ap (λ (n : ℕ). of_bits binary64 n) e ∙ of_bits-to_bits binary64 y q)

-- where a zero may have either sign, a zero is judged by the wanted one's being a zero
pub zero-judged : (x : Float) (want : ℕ) (either : Bool) → either ≡ true → Zero x → Judges (Same x want either) (eq (of_bits binary64 want) (of_bits binary64 0))
zero-judged x want either o z = record {
  holds = λ e. inr (o, (z, e));
  says = λ s. says s;
}
  where
    says : Same x want either → Zero (of_bits binary64 want)
    says (inl e) = rw e at z
    says (inr s) = s.1.1

-- all else is judged by the bits
pub bits-judged : (x : Float) (want : ℕ) (either : Bool) → T (fits binary64 x) → (either ≡ true → Zero x → ⊥)
    → Judges (Same x want either) (eqb (to_bits binary64 x) (to_bits binary64 (of_bits binary64 want)))
bits-judged x want either p other = record {
  holds = λ e. inl (one-pattern x (of_bits binary64 want) p (of_bits-fits binary64 want) (eqb-true _ _ e));
  says = λ s. says s;
}
  where
    says : Same x want either → eqb (to_bits binary64 x) (to_bits binary64 (of_bits binary64 want)) ≡ true
    says (inl e) = eq-eqb _ _ (ap (λ (y : Float). to_bits binary64 y) e)
    says (inr s) = absurd (other s.0 s.1.0)
