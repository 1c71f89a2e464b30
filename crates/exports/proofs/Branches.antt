-- What a call leaves, from the branch that it took: each operand is an interval, or it is none.
-- Assumes nothing.
use Rattle.std.specs.Prelude.{Option, Some, None, Result, Err}
use Rattle.interval.specs.declared.DivideError.{DivideError}
use Prim.Native.Nat.{ℕ}
use mathlib.Core.Path.{◌≡◌, sym, ◌∙◌, ap}
use mathlib.Core.Bool.{Bool, cond}
use mathlib.Core.List.{List}
use lib.Ieee.{Float}
use Rattle.interval.specs.declared.Interval.{Interval}
use Rattle.interval.specs.declared.Sign.{Sign}
use Rattle.interval.specs.Ops.{contains_of, sign_of}
use Rattle.interval.specs.declared.DivideError.TheVariants.{HoldsZero, Unbounded}
use Rattle.knots.specs.Refusal.{refused_quotient}
use Rattle.exports.specs.Tables.{packed_of}
use Rattle.exports.specs.Answer.{Answer, refused, Leaves}
use Rattle.exports.specs.Intervals.{no-interval, ends, new_answer, on_new, on_both, both_of, quotient_answer, inside_number, sign_number, sign_case}
use Rattle.exports.proofs.Put.{leaves_by}

pub both-are : {n m : Option Interval} {a b : Interval} → n ≡ Some a → m ≡ Some b → Some (a, b) ≡ both_of n m
both-are {n} {m} {a} {b} e f = sym (ap (λ (k : Option Interval). both_of k m) e ∙ ap (both_of (Some a)) f)

pub second_none : {n m : Option Interval} {a : Interval} → n ≡ Some a → m ≡ None → None ≡ both_of n m
second_none {n} {m} {a} e f = sym (ap (λ (k : Option Interval). both_of k m) e ∙ ap (both_of (Some a)) f)

pub first-none : {n : Option Interval} (m : Option Interval) → n ≡ None → None ≡ both_of n m
first-none m e = sym (ap (λ (k : Option Interval). both_of k m) e)

pub inside_one : {n : Option Interval} {a : Interval} (x : Float) {t : Bool} → n ≡ Some a → contains_of a x ≡ t → cond t 1 0 ≡ inside_number n x
inside_one x e f = sym (ap (λ (k : Option Interval). inside_number k x) e ∙ ap (λ (b : Bool). cond b 1 0) f)

pub sign-one : {n : Option Interval} {a : Interval} {s : Sign} → n ≡ Some a → sign_of a ≡ s → sign_case s ≡ sign_number n
sign-one {n} {a} {s} e f = sym (ap sign_number e ∙ ap sign_case f)

module _ {before after : List Float} {r : ℕ} where
  pub on-new : {n : Option Interval} {a : Interval} (f : Interval → Answer) → n ≡ Some a → Leaves (f a) before after r → Leaves (on_new n f) before after r
  on-new f e = leaves_by (sym (ap (λ (k : Option Interval). on_new k f) e))

  pub no-new : {n : Option Interval} (f : Interval → Answer) → n ≡ None → Leaves (refused no-interval) before after r → Leaves (on_new n f) before after r
  no-new f e = leaves_by (sym (ap (λ (k : Option Interval). on_new k f) e))

  pub on_both-leaves : {p : Option (Interval × Interval)} {a b : Interval} (f : Interval → Interval → Answer) → p ≡ Some (a, b) → Leaves (f a b) before after r → Leaves (on_both p f) before after r
  on_both-leaves f e = leaves_by (sym (ap (λ (k : Option (Interval × Interval)). on_both k f) e))

  pub no_both : {p : Option (Interval × Interval)} (f : Interval → Interval → Answer) → p ≡ None → Leaves (refused no-interval) before after r → Leaves (on_both p f) before after r
  no_both f e = leaves_by (sym (ap (λ (k : Option (Interval × Interval)). on_both k f) e))

  -- the ends that were put are those of the operation's result
  pub ends_of : {i j : Interval} → i ≡ j → Leaves (ends i) before after r → Leaves (ends j) before after r
  ends_of e = leaves_by (ap ends e)

  pub new-of : {n m : Option Interval} → n ≡ m → Leaves (new_answer m) before after r → Leaves (new_answer n) before after r
  new-of e = leaves_by (sym (ap new_answer e))

  pub quotient-of : {q s : Result Interval DivideError} → q ≡ s → Leaves (quotient_answer s) before after r → Leaves (quotient_answer q) before after r
  quotient-of e = leaves_by (sym (ap quotient_answer e))

  -- a quotient that is none is answered by its number
  pub refused-by : (e : DivideError) → Leaves (refused (refused_quotient e).number) before after r → Leaves (quotient_answer (Err e)) before after r
  unfolding packed_of
  refused-by HoldsZero h = h
  refused-by Unbounded h = h
