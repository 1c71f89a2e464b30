-- De Boor's levels over jets hold the exact ones: Source.work and its derivative Jets.dwork. Assumes nothing.
use mathlib.Core.Path.{◌≡◌, refl, sym, ◌∙◌, subst}
use mathlib.Core.Bool.{Bool, true, false, not, ◌||◌, cond}
use mathlib.Core.List.{List, [], ◌∷◌}
use Prim.Native.Nat.{ℕ, zero, suc, ◌+◌, ◌-◌, ◌≤◌, ◌<◌}
use native.Mathlib.Omega.{arith}
use lib.Dec.{T, leb, eqb, leb→le, nleb→lt}
use lib.Ieee.{Float}
use Rattle.std.specs.Prelude.{Result, Ok, Err}
use Rattle.knots.specs.declared.refusal.Refusal.{Refusal}
use Rattle.doubles.specs.Run.{at}
use Rattle.doubles.specs.Value.{one+}
use Rattle.exact.proofs.DeBoor.{wide}
use Rattle.exact.proofs.Field.{qring, q-ring}
use Rattle.exact.proofs.Jets.{dalpha, dwork, dwork-in, dwork-out}
use Rattle.exact.proofs.Source.{alpha, work, work_in, work-out}
use Rattle.exact.specs.Rational.{ℚ, ◌+q◌, ◌-q◌, ◌*q◌, ◌/q◌, inv, q0, q1, ◌<q◌}
use Rattle.exact.specs.Spline.{Knots}
use Rattle.interval.proofs.Contain.{sub-inside, divide-formed, Formed}
use Rattle.interval.specs.Inside.{Inside}
use Rattle.interval.specs.Ops.{point_of, sub_of, divide_of}
use Rattle.interval.specs.declared.Interval.{Interval}
use Rattle.interval.specs.declared.DivideError.{DivideError}
use Rattle.interval.specs.declared.DivideError.TheVariants.{HoldsZero, Unbounded}
use Rattle.jets.specs.declared.jet.Jet.{Jet}
use Rattle.jets.specs.declared.net.Control.{Control}
use Rattle.jets.specs.Net.{last_by, net_control, refusal_up, share_by, share_of, share_at, mix_jet, mix_of, mix_by, refused_by, or_else, level_of, refusal_from, net_of, refusal_levels}
use Rattle.jets.proofs.JetIn.{JetIn, jet-eq, jet-const, jet-sub, jet-scale, jet-mix, in_one}

-- a number that is not 28 and not 29
abbrev pub Neither : ℕ → Type 0
Neither n = T (not (eqb n 28 || eqb n 29))

-- no refusal, or one with such a number
abbrev pub Given : Result (Unit {0}) Refusal → Type 0
Given (Ok x) = Unit
Given (Err r) = Neither r.number

-- a jet that holds, or a refusal that is neither 28 nor 29
abbrev pub Shares : Result Jet Refusal → ℚ → ℚ → ℚ → Type 0
Shares (Ok j) x u v = JetIn j x u v
Shares (Err r) x u v = Given (Err r)

share-given : (g : Result Jet Refusal) (x u v : ℚ) → Shares g x u v → Given (refused_by g)
share-given (Ok j) x u v h = tt
share-given (Err r) x u v h = h

pub or_else-given : (a b : Result (Unit {0}) Refusal) → Given a → Given b → Given (or_else a b)
or_else-given (Ok x) b h k = k
or_else-given (Err r) b h k = h

pub or_else-none : (a b : Result (Unit {0}) Refusal) → or_else a b ≡ Ok tt → (a ≡ Ok tt) × (b ≡ Ok tt)
or_else-none (Ok x) b h = (refl, h)
or_else-none (Err r) b h = cc

ring-v : (t l i : ℚ) → (t -q l) *q (q1 *q i) ≡ (t -q l) *q i
ring-v t l i = q-ring (t ∷ l ∷ i ∷ []) (search qring depth 20) tt

-- G is the derivative of `work` in a direction in which the parameter's derivative is e
pub record Family (K : ℕ → ℚ) (t : ℚ) (p s : ℕ) (C : ℕ → ℚ) (e : ℚ) (G : ℕ → ℕ → ℚ) : Type 0 where
  pub inside : (l j : ℕ) → l < j → G (suc l) j ≡
      ((q0 -q e *q dalpha K p s (suc l) j) *q work K t p s C l (j - 1) +q (q1 -q alpha K t p s (suc l) j) *q G l (j - 1))
      +q (e *q dalpha K p s (suc l) j *q work K t p s C l j +q alpha K t p s (suc l) j *q G l j)
  pub outside : (l j : ℕ) → j ≤ l → G (suc l) j ≡ G l j

module _ (K : ℕ → ℚ) (t : ℚ) (p s : ℕ) (C : ℕ → ℚ) where
  pub along : (D : ℕ → ℚ) → Family K t p s C q1 (dwork K t p s C D)
  along D = record {
    inside =
        λ l j h. dwork-in K t p s C D l j h ∙ q-ring
        (alpha K t p s (suc l) j ∷ dalpha K p s (suc l) j ∷ work K t p s C l (j - 1) ∷ work K t p s C l j ∷ dwork K t p s C D l (j - 1) ∷ dwork K t p s C D l j ∷ []) (search qring depth 20) tt;
    outside = λ l j h. dwork-out K t p s C D l j h;
  }

  pub across : (D : ℕ → ℚ) → Family K t p s C q0 (work K t p s D)
  across D = record {
    inside =
        λ l j h. work_in K t p s D l j h ∙ q-ring
        (alpha K t p s (suc l) j ∷ dalpha K p s (suc l) j ∷ work K t p s C l (j - 1) ∷ work K t p s C l j ∷ work K t p s D l (j - 1) ∷ work K t p s D l j ∷ []) (search qring depth 20) tt;
    outside = λ l j h. work-out K t p s D l j h;
  }

  pub nowhere : Family K t p s C q0 (λ l j. q0)
  nowhere = record {
    inside = λ l j h. q-ring (alpha K t p s (suc l) j ∷ dalpha K p s (suc l) j ∷ work K t p s C l (j - 1) ∷ work K t p s C l j ∷ []) (search qring depth 20) tt;
    outside = λ l j h. refl;
  }

module _ (ks : List Float) (p s : ℕ) (J : Jet) where
  -- none of k places from j down is refused
  pub from-0 : (l k j : ℕ) → refusal_from ks p s J l k j ≡ Ok tt → (i : ℕ) → i < k → refused_by (share_at ks p s J l (j - i)) ≡ Ok tt
  unfolding refusal_from
  from-0 l zero j h i m = absurd (omega arith)
  from-0 l (suc k) j h zero m = let e : j - 0 ≡ j = omega arith in rw e (or_else-none _ _ h).0
  from-0 l (suc k) j h (suc i) m =
      let e : j - suc i ≡ j - 1 - i = omega arith in
      rw e (from-0 l k (j - 1) (or_else-none (refused_by (share_at ks p s J l j)) _ h).1 i (omega arith))

  pub levels-0 : (l k : ℕ) → refusal_levels ks p s J l k ≡ Ok tt → (i : ℕ) → i < k → refusal_from ks p s J (l + i) (p + 1 - (l + i)) p ≡ Ok tt
  unfolding refusal_levels
  levels-0 l zero h i m = absurd (omega arith)
  levels-0 l (suc k) h zero m = let e : l + 0 ≡ l = omega arith in rw e (or_else-none _ _ h).0
  levels-0 l (suc k) h (suc i) m =
      let e : l + suc i ≡ l + 1 + i = omega arith in
      rw e (levels-0 (l + 1) k (or_else-none (refusal_from ks p s J l (p + 1 - l) p) _ h).1 i (omega arith))

  -- so no share of any level is refused
  pub none : refusal_levels ks p s J 1 p ≡ Ok tt → (l j : ℕ) → l < j → j ≤ p → refused_by (share_at ks p s J (suc l) j) ≡ Ok tt
  none h l j a b =
      let e : p - (p - j) ≡ j = omega arith in
      let f : 1 + l ≡ suc l = omega arith in
      subst (λ k. refused_by (share_at ks p s J (suc l) k) ≡ Ok tt) e
      (from-0 (suc l) (p + 1 - suc l) p (subst (λ k. refusal_from ks p s J k (p + 1 - k) p ≡ Ok tt) f (levels-0 1 p h l (omega arith))) (p - j) (omega arith))

  -- U are fractions that the 2 p knots around the span hold
  module _ {U : ℕ → ℚ} {n : ℕ} (K : Knots U n s) (low : p ≤ s) (long : s + p < n) (held : (i : ℕ) → s < i + p → i ≤ s + p → Inside (point_of (at ks i)) (U i))
      (t e f : ℚ) (param : JetIn J t e f) where
    pub share_in : (l j : ℕ) → l < j → j ≤ p → Shares (share_at ks p s J (suc l) j) (alpha U t p s (suc l) j) (e *q dalpha U p s (suc l) j) (f *q dalpha U p s (suc l) j)
    unfolding share_at share_of alpha dalpha
    share_in l j a b = go (divide_of (point_of one+) (sub_of (point_of (at ks hi)) (point_of (at ks lo)))) (divide-formed _ _ _ _ in_one (sub-inside _ _ _ _ right left))
      where
        lo : ℕ
        lo = s - p + j

        hi : ℕ
        hi = s + j - suc l + 1

        left : Inside (point_of (at ks lo)) (U lo)
        left = held lo (omega arith) (omega arith)

        right : Inside (point_of (at ks hi)) (U hi)
        right = held hi (omega arith) (omega arith)

        apart : q0 <q U hi -q U lo
        apart =
            let x : lo + suc (p - suc l) ≡ hi = omega arith in
            subst (λ k. q0 <q U k -q U lo) x (wide K (p - suc l) lo (omega arith) (omega arith) (omega arith))

        go : (q : Result Interval DivideError) → Formed q (q1 /q (U hi -q U lo)) → Shares (share_by J (point_of (at ks lo)) q) ((t -q U lo) /q (U hi -q U lo)) (e *q inv (U hi -q U lo)) (f *q inv (U hi -q U lo))
        go (Ok q) d =
            let i = inv (U hi -q U lo) in
            jet-eq (q-ring (t ∷ U lo ∷ i ∷ []) (search qring depth 20) tt) (q-ring (e ∷ i ∷ []) (search qring depth 20) tt) (q-ring (f ∷ i ∷ []) (search qring depth 20) tt)
            (jet-scale _ q (jet-sub J _ param (jet-const (point_of (at ks lo)) left)) d)
        go (Err HoldsZero) d = tt
        go (Err Unbounded) d = absurd d

    from-given : (l k j : ℕ) → k + suc l ≤ j + 1 → j ≤ p → Given (refusal_from ks p s J (suc l) k j)
    unfolding refusal_from
    from-given l zero j h m = tt
    from-given l (suc k) j h m = or_else-given (refused_by (share_at ks p s J (suc l) j)) (refusal_from ks p s J (suc l) k (j - 1))
        (share-given (share_at ks p s J (suc l) j) _ _ _ (share_in l j (omega arith) m)) (from-given l k (j - 1) (omega arith) (omega arith))

    pub levels-given : (l k : ℕ) → l + k ≤ p → Given (refusal_levels ks p s J (suc l) k)
    unfolding refusal_levels
    levels-given l zero h = tt
    levels-given l (suc k) h =
        let e : suc l + 1 ≡ suc (suc l) = omega arith in
        or_else-given (refusal_from ks p s J (suc l) (p + 1 - suc l) p) (refusal_levels ks p s J (suc l + 1) k)
        (from-given l (p + 1 - suc l) p (omega arith) (omega arith)) (subst (λ i. Given (refusal_levels ks p s J i k)) (sym e) (levels-given (suc l) k (omega arith)))

    -- one of the four jets of each point of the net, with its derivatives G and H
    module _ (sel : Control → Jet) (mixes : (α : Jet) (a b : Control) → sel (mix_of α a b) ≡ mix_jet α (sel a) (sel b))
        (c : ℕ → Control) (C : ℕ → ℚ) (G H : ℕ → ℕ → ℚ) (FG : Family U t p s C e G) (FH : Family U t p s C f H)
        (start : (m : ℕ) → m ≤ p → JetIn (sel (c m)) (C m) (G 0 m) (H 0 m))
        (right : (l j : ℕ) → l < j → j ≤ p → refused_by (share_at ks p s J (suc l) j) ≡ Ok tt) where
      step : (l j : ℕ) → j ≤ p → ((i : ℕ) → i ≤ p → JetIn (sel (net_of ks p s J c l i)) (work U t p s C l i) (G l i) (H l i))
          → JetIn (sel (net_of ks p s J c (suc l) j)) (work U t p s C (suc l) j) (G (suc l) j) (H (suc l) j)
      unfolding net_of level_of
      step l j h old = go (leb (suc l) j) (leb→le (suc l) j) (nleb→lt (suc l) j)
        where
          mixed : l < j → (g : Result Jet Refusal) → Shares g (alpha U t p s (suc l) j) (e *q dalpha U p s (suc l) j) (f *q dalpha U p s (suc l) j) → refused_by g ≡ Ok tt
              → JetIn (sel (mix_by g (net_of ks p s J c l (j - 1)) (net_of ks p s J c l j))) (work U t p s C (suc l) j) (G (suc l) j) (H (suc l) j)
          mixed m (Err r) g z = cc
          mixed m (Ok α) g z =
              subst (λ z. JetIn z (work U t p s C (suc l) j) (G (suc l) j) (H (suc l) j)) (sym (mixes α _ _))
              (jet-eq (sym (work_in U t p s C l j m)) (sym (FG.inside l j m)) (sym (FH.inside l j m))
              (jet-mix α _ _ g (old (j - 1) (omega arith)) (old j h)))

          go : (b : Bool) → (T b → suc l ≤ j) → (T (not b) → j < suc l)
              → JetIn (sel (cond b (mix_by (share_at ks p s J (suc l) j) (net_of ks p s J c l (j - 1)) (net_of ks p s J c l j)) (net_of ks p s J c l j))) (work U t p s C (suc l) j) (G (suc l) j)
              (H (suc l) j)
          go true x g = mixed (x tt) (share_at ks p s J (suc l) j) (share_in l j (x tt) h) (right l j (x tt) h)
          go false x g =
              let k : j < suc l = g tt in
              let m : j ≤ l = omega arith in
              jet-eq (sym (work-out U t p s C l j m)) (sym (FG.outside l j m)) (sym (FH.outside l j m)) (old j h)

      pub net-in : (l j : ℕ) → j ≤ p → JetIn (sel (net_of ks p s J c l j)) (work U t p s C l j) (G l j) (H l j)
      unfolding net_of work
      net-in zero j h = start j h
      net-in (suc l) j h = step l j h (λ i k. net-in l i k)

-- ---- the answers that fill a net

pub up-0 : (f : ℕ → Result Control Refusal) (k i : ℕ) → refusal_up f k i ≡ Ok tt → (m : ℕ) → m < k → refused_by (f (i + m)) ≡ Ok tt
unfolding refusal_up
up-0 f zero i h m l = absurd (omega arith)
up-0 f (suc k) i h zero l = let e : i + 0 ≡ i = omega arith in rw e (or_else-none _ _ h).0
up-0 f (suc k) i h (suc m) l =
    let e : i + suc m ≡ i + 1 + m = omega arith in
    rw e (up-0 f k (i + 1) (or_else-none (refused_by (f i)) _ h).1 m (omega arith))

pub up-given : (f : ℕ → Result Control Refusal) (k i : ℕ) → ((m : ℕ) → m < k → Given (refused_by (f (i + m)))) → Given (refusal_up f k i)
unfolding refusal_up
up-given f zero i h = tt
up-given f (suc k) i h =
    let e : i + 0 ≡ i = omega arith in
    or_else-given (refused_by (f i)) (refusal_up f k (i + 1)) (subst (λ j. Given (refused_by (f j))) e (h 0 (omega arith)))
    (up-given f k (i + 1) (λ m l. let e : i + suc m ≡ i + 1 + m = omega arith in subst (λ j. Given (refused_by (f j))) e (h (suc m) (omega arith))))

-- a net that is not refused, and what it stands on
pub last-none : (L : Result (Unit {0}) Refusal) (x : Control) → refused_by (last_by L x) ≡ Ok tt → (L ≡ Ok tt) × (net_control (last_by L x) ≡ x)
unfolding last_by
last-none (Ok y) x h = (refl, refl)
last-none (Err r) x h = cc

pub last-given : (L : Result (Unit {0}) Refusal) (x : Control) → Given L → Given (refused_by (last_by L x))
unfolding last_by
last-given (Ok y) x h = tt
last-given (Err r) x h = h
