-- The place that a search ends at lies in the domain, on any knots; on valid knots it is the span.
-- Assumes nothing.
use Prim.Native.Nat.{ℕ, zero, suc, ◌+◌, ◌-◌, ◌/◌, ◌≤◌, ◌<◌}
use mathlib.Core.Bool.{Bool, true, false, cond}
use mathlib.Core.Path.{◌≡◌, refl, sym, subst}
use mathlib.Core.List.{List}
use native.Mathlib.Omega.{arith}
use lib.ListN.{length}
use lib.Dec.{leb}
use lib.Ieee.{Float, lt}
use lib.Ieee.Scale.{finite}
use borrow.Author.Tests.{leb-false, lt-leb}
use Rattle.doubles.specs.Run.{at}
use Rattle.knots.specs.Knots.{ValidKnots}
use Rattle.knots.specs.Span.{SpanAt, SpanFound, nonempty, halved, last_nonempty, searched, clamped, span_of}
use Rattle.knots.proofs.Last.{last-is}
use Rattle.knots.proofs.Spans.{search-meets, span-is}
use Rattle.knots.proofs.Answers.{clamped-in, clamp-in}

-- ---- the search
module _ (ks : List Float) (v : Float) where
  In : ℕ → ℕ → ℕ → Type 0
  In low high s = (low ≤ s) × (s < high)

  half : (low high : ℕ) → low < high → (a : Bool) → leb high (low + 1) ≡ a → (b : Bool) (x y : ℕ)
      → (low < (low + high) / 2 → In low ((low + high) / 2) x) → ((low + high) / 2 < high → In ((low + high) / 2) high y) → In low high (cond a low (cond b x y))
  unfolding In
  half low high l true a b x y f g = (omega arith, l)
  half low high l false a true x y f g =
      let w = leb-false high (low + 1) a in
      let h = f (omega arith) in
      let k = h.1 in
      (h.0, omega arith)
  half low high l false a false x y f g =
      let w = leb-false high (low + 1) a in
      let h = g (omega arith) in
      let k = h.0 in
      (omega arith, h.1)

  halved-in : (k low high : ℕ) → low < high → In low high (halved k ks v low high)
  unfolding halved In
  halved-in zero low high l = (omega arith, l)
  halved-in (suc k) low high l =
      half low high l (leb high (low + 1)) refl (lt v (at ks ((low + high) / 2))) _ _ (halved-in k low ((low + high) / 2)) (halved-in k ((low + high) / 2) high)

  pub searched-in : (p n : ℕ) → p < n → n < length ks → (p ≤ searched p n ks v) × (searched p n ks v < n)
  unfolding searched In
  searched-in p n l h = simp (lt-leb (length ks) n h) (go (lt v (at ks n)))
    where
      go : (b : Bool) → (p ≤ cond b (halved (n - p) ks v p n) (last_nonempty p n ks)) × (cond b (halved (n - p) ks v p n) (last_nonempty p n ks) < n)
      go true = halved-in (n - p) p n l
      go false = let w = last-is (nonempty ks) p (n - p - 1) in let T = w.to in (w.from, omega arith)

-- on valid knots it ends at the span
pub searched-is : (p n : ℕ) (ks : List Float) (t : Float) → ValidKnots p n ks → finite t ≡ true → searched p n ks (clamped p n ks t) ≡ span_of p n ks (clamped p n ks t)
searched-is p n ks t v T =
    let w = clamped-in p n ks t v T in
    span-is p n ks v (clamped p n ks t) (searched p n ks (clamped p n ks t)) w.0 (search-meets p n ks v (clamped p n ks t) w.0 w.1)

-- ---- a parameter that is not outside
module _ (p n : ℕ) (ks : List Float) (t : Float) where
  pub record Within : Type 0 where
    pub parameter : finite t ≡ true
    pub low : lt t (at ks p) ≡ false
    pub high : lt (at ks n) t ≡ false

  -- it is looked up as it is
  pub span-found : ValidKnots p n ks → Within → (s : ℕ) → SpanFound p n ks t s → SpanAt p n ks t s × (s ≡ span_of p n ks t)
  span-found v w s S =
      let c : t ≡ clamped p n ks t = clamp-in p n ks t w.low w.high in
      let m : SpanAt p n ks t s = subst (λ (x : Float). SpanAt p n ks x s) (sym c) (S.meets v w.parameter) in
      (m, span-is p n ks v t s w.parameter m)
