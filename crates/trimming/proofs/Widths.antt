-- The width of a range inside a range of finite width is finite: differences of doubles round in order. Assumes nothing.
use Prim.Native.Nat.{ℕ, ◌*◌, ◌≤◌, ◌<◌}
use mathlib.Core.Bool.{Bool, true, false, not}
use mathlib.Core.Path.{◌≡◌, refl, sym, ◌∙◌, ap, subst}
use lib.IntN.{pos}
use lib.Dec.{T, nltb→le}
use lib.Ieee.{Float, nan, inf, fin, Format, binary64, up, down, round, add, sub, neg, lt, le, fits}
use lib.Ieee.Scale.{finite}
use lib.Ieee.Bits.{is_true}
use lib.Ieee.Fits.{down_pos}
use lib.Ieee.Order.{round_mono}
use Rattle.exact.specs.Rational.{ℚ, ◌+q◌, ◌-q◌, q0, ◌≤q◌, ◌<q◌}
use Rattle.exact.proofs.Field.{sub_is, ≤_trans, ≤-eq, +-mono, neg-le, not-both, <-≤-trans, lt-sub, lt→le}
use Rattle.doubles.specs.Value.{ratio, val, zero+, ◌⊑◌}
use Rattle.doubles.proofs.TestFacts.{T_of, Tn-of}
use Rattle.doubles.proofs.Value.{ratio-le, le-ratio, val_is, val-lt, val-le, val-neg, val-zero}
use Rattle.doubles.proofs.Enclose.{above-rounds}
use Rattle.doubles.proofs.Sums.{Rounded, add-rounded}

diff-rounded : (f : Format) (x y : Float) → T (finite x) → T (finite y) → Rounded f (sub f x y) (val x -q val y)
unfolding sub neg
diff-rounded f nan y a b = absurd a
diff-rounded f (inf s) y a b = absurd a
diff-rounded f (fin s m e) nan a b = absurd b
diff-rounded f (fin s m e) (inf t) a b = absurd b
diff-rounded f (fin s m e) (fin t n d) a b =
    subst (Rounded f (add f (fin s m e) (fin (not t) n d))) (ap (λ (z : ℚ). val (fin s m e) +q z) (val-neg t n d) ∙ sym (sub_is (val (fin s m e)) (val (fin t n d)))) (add-rounded f s m e (not t) n d)

zero_is : ratio false (0 * up (pos 0)) (down (pos 0)) ≡ q0
zero_is = sym (val_is false 0 (pos 0)) ∙ val-zero

-- a fraction above 0 has no sign
plain : (s : Bool) (n d : ℕ) → 0 < d → q0 <q ratio s n d → s ≡ false
plain false n d D h = refl
plain true n d D h = absurd (not-both h (≤_trans (ratio-le false (0 * up (pos 0)) (down (pos 0)) true n d (down_pos (pos 0)) D tt) (≤-eq zero_is)))

module _ (f : Format) {r u : Float} {q p : ℚ} (z : Rounded f r q) (w : Rounded f u p) (h : q0 <q q) (k : q ≤q p) where
  rounds-up : T (le r u)
  rounds-up =
      let s = plain z.sign z.num z.den z.proper (subst (λ (x : ℚ). q0 <q x) (sym z.worth) h) in
      let t = plain w.sign w.num w.den w.proper (subst (λ (x : ℚ). q0 <q x) (sym w.worth) (<-≤-trans h k)) in
      let a : r ≡ round f false z.num z.den = z.made ∙ ap (λ (b : Bool). round f b z.num z.den) s in
      let b : u ≡ round f false w.num w.den = w.made ∙ ap (λ (b : Bool). round f b w.num w.den) t in
      let c : ratio false z.num z.den ≡ q = ap (λ (b : Bool). ratio b z.num z.den) (sym s) ∙ z.worth in
      let d : ratio false w.num w.den ≡ p = ap (λ (b : Bool). ratio b w.num w.den) (sym t) ∙ w.worth in
      let m : z.num * w.den ≤ w.num * z.den =
      nltb→le _ _ (le-ratio false w.num w.den false z.num z.den w.proper z.proper (≤_trans (≤-eq c) (≤_trans k (≤-eq (sym d))))) in
      rw (a, b) (round_mono f z.num z.den w.num w.den z.proper w.proper m)

  not-below : T (fits f zero+) → zero+ ⊑ r
  not-below g =
      subst (λ (x : Float). zero+ ⊑ x) (sym z.made)
      (above-rounds f false 0 (pos 0) z.sign z.num z.den z.proper g (≤_trans (≤-eq val-zero) (≤_trans (lt→le h) (≤-eq (sym z.worth)))))

between : (r u : Float) → T (le r u) → T (finite u) → zero+ ⊑ r → T (finite r)
unfolding le lt
between nan u h g k = absurd h
between (inf true) u h g k = absurd k
between (inf false) nan h g k = absurd g
between (inf false) (inf t) h g k = absurd g
between (inf false) (fin t n d) h g k = absurd h
between (fin s m e) u h g k = tt

-- from x to y, inside from a to b
module _ (a b x y : Float) (A : finite a ≡ true) (B : finite b ≡ true) (X : finite x ≡ true) (Y : finite y ≡ true) where
  pub narrower : lt x a ≡ false → lt x y ≡ true → lt b y ≡ false → finite (sub binary64 b a) ≡ true → finite (sub binary64 y x) ≡ true
  unfolding fits
  narrower h i j k =
      let TA = T_of (finite a) A in
      let TB = T_of (finite b) B in
      let TX = T_of (finite x) X in
      let TY = T_of (finite y) Y in
      let z = diff-rounded binary64 y x TY TX in
      let w = diff-rounded binary64 b a TB TA in
      let p = lt-sub (val-lt x y TX TY (T_of (lt x y) i)) in
      let l : val y -q val x ≤q val b -q val a =
      rw (sub_is (val y) (val x), sub_is (val b) (val a)) (+-mono (val-le b y TB TY (Tn-of (lt b y) j)) (neg-le (val-le x a TX TA (Tn-of (lt x a) h)))) in
      is_true (finite (sub binary64 y x))
      (between (sub binary64 y x) (sub binary64 b a) (rounds-up binary64 z w p l) (T_of (finite (sub binary64 b a)) k) (not-below binary64 z w p l tt))
