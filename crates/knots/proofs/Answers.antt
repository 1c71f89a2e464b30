-- The parameter that is looked up, inside the domain and outside, and the answers of `span_of` and `find_span` in either mode: any two that the contract permits coincide.
-- Assumes nothing.
use Prim.Native.Nat.{ℕ, ◌-◌, ◌≤◌, ◌<◌}
use mathlib.Core.Bool.{Bool, true, false, not, cond, ◌&&◌}
use mathlib.Core.Path.{◌≡◌, refl, sym, ◌∙◌, ap, subst}
use mathlib.Core.List.{List}
use native.Mathlib.Omega.{arith}
use lib.Dec.{leb}
use lib.ListN.{length, get_or-eq_default}
use lib.Ieee.{Float, nan, inf, fin, lt}
use lib.Ieee.Scale.{finite}
use borrow.Author.Tests.{eq-eqb, ne_eqb, le-leb, lt-leb, not-false}
use Rattle.doubles.specs.Run.{at}
use Rattle.knots.specs.Refusal.{refuse, accepted, LengthBad, ParameterNotFinite, ParameterOutside}
use Rattle.knots.specs.Knots.{ValidKnots, knot_refusal}
use Rattle.knots.specs.Curve.{over_long}
use Rattle.knots.specs.Span.{SpanAt, SpanFound, SpanMeets, outside, clamped, refusing, clamping, domain_refusal, nonempty, halved, last_nonempty, searched, span_refusal, span_answer}
use Rattle.knots.specs.declared.refusal.Refusal.{Refusal}
use Rattle.std.specs.Prelude.{Result, Ok, Err}
use Rattle.doubles.proofs.TestedOrder.{lt_irrefl, lt-asym}
use Rattle.knots.proofs.Last.{last_none}
use Rattle.knots.proofs.Refusals.{passed, or_else-none}
use Rattle.knots.proofs.Valid.{valid}
use Rattle.knots.proofs.Curves.{or-false}
use Rattle.knots.proofs.Spans.{finite-at, search-meets, span-is}

-- ---- past the end of a run stands a NaN, which is neither below nor above
pub past : (ks : List Float) (k : ℕ) → length ks ≤ k → at ks k ≡ nan
past ks k h = get_or-eq_default ks nan h

under-nan : (x : Float) → lt x nan ≡ false
unfolding lt
under-nan nan = refl
under-nan (inf s) = refl
under-nan (fin s m e) = refl

nan-under : (x : Float) → lt nan x ≡ false
unfolding lt
nan-under x = refl

pub not-under : (ks : List Float) (k : ℕ) (x : Float) → length ks ≤ k → lt x (at ks k) ≡ false
not-under ks k x h = ap (lt x) (past ks k h) ∙ under-nan x

pub not-over : (ks : List Float) (k : ℕ) (x : Float) → length ks ≤ k → lt (at ks k) x ≡ false
not-over ks k x h = ap (λ (y : Float). lt y x) (past ks k h) ∙ nan-under x

-- ---- the parameter that is looked up
module _ (p n : ℕ) (ks : List Float) (u : Float) where
  pub clamp-low : lt u (at ks p) ≡ true → at ks p ≡ clamped p n ks u
  unfolding clamped
  clamp-low h = simp h

  pub clamp-high : lt u (at ks p) ≡ false → lt (at ks n) u ≡ true → at ks n ≡ clamped p n ks u
  unfolding clamped
  clamp-high g h = simp (g, h)

  pub clamp-in : lt u (at ks p) ≡ false → lt (at ks n) u ≡ false → u ≡ clamped p n ks u
  unfolding clamped
  clamp-in g h = simp (g, h)

  -- ---- outside the domain: below its lower end, else above its upper one
  pub outside_low : lt u (at ks p) ≡ true → true ≡ outside p n ks u
  unfolding outside
  outside_low h = simp h

  pub outside_high : lt u (at ks p) ≡ false → lt (at ks n) u ≡ outside p n ks u
  unfolding outside
  outside_high h = simp h

  -- a parameter that is not outside is looked up as it is
  pub inside-same : outside p n ks u ≡ false → clamped p n ks u ≡ u
  unfolding outside
  inside-same h = let o = or-false (lt u (at ks p)) _ h in sym (clamp-in o.0 o.1)

  module _ (v : ValidKnots p n ks) (U : finite u ≡ true) where
    -- it is finite and not below the domain
    pub clamped-in : (finite (clamped p n ks u) ≡ true) × (lt (clamped p n ks u) (at ks p) ≡ false)
    unfolding clamped
    clamped-in = go (lt u (at ks p)) refl (lt (at ks n) u) refl
      where
        C : p < n
        C = v.count

        P : finite (at ks p) ≡ true
        P = finite-at p n ks v p (omega arith)

        N : finite (at ks n) ≡ true
        N = finite-at p n ks v n (omega arith)

        go : (x : Bool) → lt u (at ks p) ≡ x → (y : Bool) → lt (at ks n) u ≡ y → (finite (clamped p n ks u) ≡ true) × (lt (clamped p n ks u) (at ks p) ≡ false)
        go true e y f = simp e (P, lt_irrefl (at ks p))
        go false e true f = simp (e, f) (N, lt-asym (at ks p) (at ks n) v.domain)
        go false e false f = simp (e, f) (U, refl)

  -- ---- span_of
  pub found-meets : (s : ℕ) → s ≡ searched p n ks (clamped p n ks u) → SpanFound p n ks u s
  found-meets s e =
      record {
        found = e;
        meets = λ v U. let w = clamped-in v U in subst (SpanAt p n ks (clamped p n ks u)) (sym e) (search-meets p n ks v (clamped p n ks u) w.0 w.1);
      }

  -- ---- the refusal of a parameter
  module _ (c : Bool) where
    pub domain-open : (domain_refusal c p n ks u).number ≡ 0 → (finite u ≡ true) × ((not c && outside p n ks u) ≡ false)
    unfolding domain_refusal
    domain-open h =
        let a = passed (not (finite u)) (refuse ParameterNotFinite) _ (λ e. omega arith) h in
        let b = passed (not c && outside p n ks u) (refuse ParameterOutside) accepted (λ e. omega arith) a.1 in
        (not-false (finite u) a.0, b.0)

    pub domain-none : (domain_refusal c p n ks u).number ≡ 0 → domain_refusal c p n ks u ≡ accepted
    unfolding domain_refusal
    domain-none h = let o = domain-open h in simp (o.0, o.1)

    -- the parameter that an answer speaks of is the one that is looked up
    pub spoken : (not c && outside p n ks u) ≡ false → cond c (clamped p n ks u) u ≡ clamped p n ks u
    spoken = go c
      where
        go : (c : Bool) → (not c && outside p n ks u) ≡ false → cond c (clamped p n ks u) u ≡ clamped p n ks u
        go true h = refl
        go false h = sym (inside-same h)

    pub spoken-span : (not c && outside p n ks u) ≡ false → (s : ℕ) → SpanAt p n ks (clamped p n ks u) s → SpanAt p n ks (cond c (clamped p n ks u) u) s
    spoken-span h s = subst (λ (v : Float). SpanAt p n ks v s) (sym (spoken h))

  -- where a parameter is not outside, both modes refuse alike; where it is, the one refuses by 43 what the other takes
  pub modes-same : outside p n ks u ≡ false → domain_refusal refusing p n ks u ≡ domain_refusal clamping p n ks u
  unfolding domain_refusal
  modes-same h = simp h

  pub outside-refused : (domain_refusal clamping p n ks u).number ≡ 0 → outside p n ks u ≡ true → domain_refusal refusing p n ks u ≡ refuse ParameterOutside
  unfolding domain_refusal
  outside-refused h o = simp ((passed (not (finite u)) (refuse ParameterNotFinite) accepted (λ e. omega arith) h).0, o)

  -- ---- find_span
  module _ (c : Bool) where
    pub unrefused : (span_refusal c p n ks u).number ≡ 0 → ValidKnots p n ks × (finite u ≡ true) × ((not c && outside p n ks u) ≡ false)
    unfolding span_refusal
    unrefused h =
        let a = passed (over_long true ks) (refuse LengthBad) _ (λ e. omega arith) h in
        let b = or_else-none (knot_refusal p n ks) (domain_refusal c p n ks u) a.1 in
        let d = domain-open c b.1 in
        (valid p n ks b.0, d.0, d.1)

    -- an answer that the contract permits is the computed one
    pub answer-is : (a : Result ℕ Refusal) → SpanMeets c p n ks u a → a ≡ span_answer c p n ks u
    unfolding span_answer
    answer-is (Ok s) x =
        let q = unrefused x.0 in
        let w = clamped-in q.0 q.1 in
        let m = subst (λ (v : Float). SpanAt p n ks v s) (spoken c q.2) x.1 in
        simp (eq-eqb (span_refusal c p n ks u).number 0 x.0) (ap Ok (span-is p n ks q.0 (clamped p n ks u) s w.0 m))
    answer-is (Err r) x = simp (ne_eqb (span_refusal c p n ks u).number 0 (λ z. x.1 (ap (λ (a : Refusal). a.number) (sym x.0) ∙ z))) (ap Err (sym x.0))

    pub answer-unique : (a b : Result ℕ Refusal) → SpanMeets c p n ks u a → SpanMeets c p n ks u b → a ≡ b
    answer-unique a b x y = answer-is a x ∙ sym (answer-is b y)

  -- where the parameter is not outside, both modes answer alike
  pub span-inside-same : outside p n ks u ≡ false → span_answer refusing p n ks u ≡ span_answer clamping p n ks u
  unfolding span_answer span_refusal
  span-inside-same h = simp (modes-same h)

  -- where it is, and the one answers, the other refuses by 43
  pub span-outside : (span_refusal clamping p n ks u).number ≡ 0 → outside p n ks u ≡ true → span_answer refusing p n ks u ≡ Err (refuse ParameterOutside)
  unfolding span_answer span_refusal
  span-outside h o =
      let a = passed (over_long true ks) (refuse LengthBad) _ (λ e. omega arith) h in
      let b = or_else-none (knot_refusal p n ks) (domain_refusal clamping p n ks u) a.1 in
      simp (a.0, eq-eqb (knot_refusal p n ks).number 0 b.0, outside-refused b.1 o)

-- ---- the search where no place is tested
module _ (p n : ℕ) (ks : List Float) (w : Float) where
  pub searched-short : length ks ≤ n → p ≡ searched p n ks w
  unfolding searched
  searched-short h = simp (le-leb (length ks) n h)

  pub searched-inner : n < length ks → lt w (at ks n) ≡ true → halved (n - p) ks w p n ≡ searched p n ks w
  unfolding searched
  searched-inner h t = simp (lt-leb (length ks) n h, t)

  pub searched-end : n < length ks → lt w (at ks n) ≡ false → last_nonempty p n ks ≡ searched p n ks w
  unfolding searched
  searched-end h t = simp (lt-leb (length ks) n h, t)

  pub searched-none : n ≤ p → p ≡ searched p n ks w
  unfolding searched halved
  searched-none h = go (leb (length ks) n) (lt w (at ks n))
    where
      e : n - p ≡ 0
      e = omega arith

      f : n - p - 1 ≡ 0
      f = omega arith

      go : (b t : Bool) → p ≡ cond b p (cond t (halved (n - p) ks w p n) (last_nonempty p n ks))
      go true t = refl
      go false true = sym (ap (λ (k : ℕ). halved k ks w p n) e)
      go false false = sym (last_none (nonempty ks) p (n - p - 1) f)
