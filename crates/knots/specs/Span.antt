-- What lies outside the domain, the span of a parameter, what the search for it finds on any knots, and the answer of `find_span`, by its mode.
-- Assumes nothing.
use Rattle.std.specs.Prelude.{ℕ, zero, suc, ◌+◌, ◌-◌, ◌/◌, ◌≤◌, ◌<◌, Bool, true, false, not, cond, ◌&&◌, ◌||◌, ◌≡◌, List, length, leb, eqb, Float, Result, Ok, Err}
use Rattle.std.specs.Float.Ieee.{lt, le}
use Rattle.std.specs.Float.Ieee.Scale.{finite}
use Rattle.doubles.specs.Run.{at}
use Rattle.knots.specs.Refusal.{refuse, accepted, or_else, LengthBad, ParameterNotFinite, ParameterOutside}
use Rattle.knots.specs.Knots.{knot_refusal, ValidKnots}
use Rattle.knots.specs.Curve.{over_long}
use Rattle.knots.specs.declared.refusal.Refusal.{Refusal}

-- u lies outside the domain, as a number: an end with the other zero's sign does not
unfoldable pub outside : ℕ → ℕ → List Float → Float → Bool
outside p n ks u = lt u (at ks p) || lt (at ks n) u

-- the clamped parameter, which is looked up: u, or the nearer end of the domain where u lies outside it. A call that refuses comes here only where u is not outside, and there it is u
unfoldable pub clamped : ℕ → ℕ → List Float → Float → Float
clamped p n ks u = cond (lt u (at ks p)) (at ks p) (cond (lt (at ks n) u) (at ks n) u)

-- the mode of a call: a parameter outside the domain is refused, or the nearer end is looked up
abbrev pub refusing : Bool
refusing = false

abbrev pub clamping : Bool
clamping = true

-- of a parameter: 12, then 43 in the mode that refuses
unfoldable pub domain_refusal : Bool → ℕ → ℕ → List Float → Float → Refusal
domain_refusal c p n ks u =
    cond (not (finite u)) (refuse ParameterNotFinite) (cond (not c && outside p n ks u) (refuse ParameterOutside) accepted)

-- the knots of the place s differ
abbrev pub nonempty : List Float → ℕ → Bool
nonempty ks s = lt (at ks s) (at ks (s + 1))

-- s is the span of v. Before the domain's end: the s with knots[s] <= v < knots[s+1]. At the end: the largest nonempty s
pub record SpanAt (p n : ℕ) (ks : List Float) (v : Float) (s : ℕ) : Type 0 where
  pub from : p ≤ s
  pub below : s < n
  pub inside : lt v (at ks n) ≡ true → (le (at ks s) v ≡ true) × (lt v (at ks (s + 1)) ≡ true)
  pub ending : lt v (at ks n) ≡ false → (nonempty ks s ≡ true) × ((k : ℕ) → s < k → k < n → nonempty ks k ≡ false)

-- ---- the same span, computed
-- the last of the k places after p at which a test passes, and p where there is none
unfoldable pub last_after : (ℕ → Bool) → ℕ → ℕ → ℕ
last_after f p zero = p
last_after f p (suc k) = cond (f (p + suc k)) (p + suc k) (last_after f p k)

-- the last nonempty span of p..=n-1
abbrev pub last_nonempty : ℕ → ℕ → List Float → ℕ
last_nonempty p n ks = last_after (nonempty ks) p (n - p - 1)

-- before the domain's end the last place whose knot is not above v, else the last nonempty span
unfoldable pub span_of : ℕ → ℕ → List Float → Float → ℕ
span_of p n ks v = cond (lt v (at ks n)) (last_after (λ s. le (at ks s) v) p (n - p - 1)) (last_nonempty p n ks)

-- ---- the search, on any knots
-- the window low..high is halved, to its lower half where v is below the knot at its middle, until it is one place wide. It halves at most k times
unfoldable pub halved : ℕ → List Float → Float → ℕ → ℕ → ℕ
halved zero ks v low high = low
halved (suc k) ks v low high =
    cond (leb high (low + 1)) low
    (cond (lt v (at ks ((low + high) / 2))) (halved k ks v low ((low + high) / 2)) (halved k ks v ((low + high) / 2) high))

-- what is found of v: p where the run has no place n, or p is not below n
unfoldable pub searched : ℕ → ℕ → List Float → Float → ℕ
searched p n ks v = cond (leb (length ks) n) p (cond (lt v (at ks n)) (halved (n - p) ks v p n) (last_nonempty p n ks))

-- what `span_of` answers: on any run what the search finds; on valid knots that is the span
pub record SpanFound (p n : ℕ) (ks : List Float) (u : Float) (s : ℕ) : Type 0 where
  pub found : s ≡ searched p n ks (clamped p n ks u)
  pub meets : ValidKnots p n ks → finite u ≡ true → SpanAt p n ks (clamped p n ks u) s

-- ---- find_span, by its mode
-- its refusals: 30, 1 to 7, 12, 43, in this order
unfoldable pub span_refusal : Bool → ℕ → ℕ → List Float → Float → Refusal
span_refusal c p n ks u = cond (over_long true ks) (refuse LengthBad) (or_else (knot_refusal p n ks) (domain_refusal c p n ks u))

-- what an answer says: the span is that of u itself, or of the parameter that is looked up
abbrev pub SpanMeets : Bool → ℕ → ℕ → List Float → Float → Result ℕ Refusal → Type 0
SpanMeets c p n ks u (Ok s) = ((span_refusal c p n ks u).number ≡ 0) × SpanAt p n ks (cond c (clamped p n ks u) u) s
SpanMeets c p n ks u (Err r) = (span_refusal c p n ks u ≡ r) × (r.number ≡ 0 → ⊥)

-- the one answer that it permits, computed
unfoldable pub span_answer : Bool → ℕ → ℕ → List Float → Float → Result ℕ Refusal
span_answer c p n ks u =
    cond (eqb (span_refusal c p n ks u).number 0)
    (Ok (span_of p n ks (clamped p n ks u)))
    (Err (span_refusal c p n ks u))
