-- Knot insertion and degree elevation over any arithmetic, operation by operation in the source's order and for one coordinate. At doubles they are what the
-- code computes; at fractions they are `inserted` and `raised` (proofs/Textbook, proofs/Homogeneous). U is the knots and h the controls, by index.
use Prim.Native.Nat.{ℕ, zero, suc, ◌+◌, ◌-◌}
use Rattle.std.proofs.Math.Bool.{cond}
use Rattle.std.specs.Prelude.{leb, eqb}
use Rattle.exact.specs.Scheme.{Arithmetic}

module _ {X : Type 0} (A : Arithmetic X) where
  -- a (1 - s) + b s
  abbrev pub mix_of : X → X → X → X
  mix_of a b s = A.add (A.mul a (A.sub A.one s)) (A.mul b s)

  -- how far t has come from the knot a to the knot b
  unfoldable pub share_by : X → X → X → X
  share_by t a b = A.div (A.sub t a) (A.sub b a)

  -- control i with the knot t more, of degree p: k the last place whose knot is at most t, s the multiplicity of t
  unfoldable pub blend_by : ℕ → ℕ → ℕ → X → (ℕ → X) → (ℕ → X) → ℕ → X
  unfolding share_by
  blend_by p k s t U h i = cond (leb i (k - p)) (h i) (cond (leb i (k - s)) (mix_of (h (i - 1)) (h i) (share_by t (U i) (U (i + p)))) (h (i - 1)))

  -- control i of the degree above d
  unfoldable pub raise_by : ℕ → (ℕ → X) → ℕ → X
  raise_by d h i = cond (eqb i 0) (h 0) (cond (leb i d) (mix_of (h i) (h (i - 1)) (A.div (A.whole i) (A.whole (d + 1)))) (h d))

  -- n degrees up
  unfoldable pub raise_to_by : ℕ → ℕ → (ℕ → X) → ℕ → X
  unfolding raise_by
  raise_to_by d zero h = h
  raise_to_by d (suc n) h = raise_by (d + n) (raise_to_by d n h)

  -- a coordinate q relative to the reference o, times its weight; and back
  unfoldable pub lift_by : X → X → X → X
  lift_by o q w = A.mul (A.sub q o) w

  unfoldable pub lower_by : X → X → X → X
  lower_by o q w = A.add o (A.div q w)

  -- a coordinate of point i with the knot t more: v is the weights and P that coordinate of the points
  unfoldable pub insert_by : ℕ → ℕ → ℕ → X → (ℕ → X) → X → (ℕ → X) → (ℕ → X) → ℕ → X
  unfolding lower_by lift_by blend_by
  insert_by p k s t U o v P i = lower_by o (blend_by p k s t U (λ j. lift_by o (P j) (v j)) i) (blend_by p k s t U v i)

  -- and of point i of a segment n degrees up
  unfoldable pub elevate_by : ℕ → ℕ → X → (ℕ → X) → (ℕ → X) → ℕ → X
  unfolding lower_by lift_by raise_to_by
  elevate_by d n o v P i = lower_by o (raise_to_by d n (λ j. lift_by o (P j) (v j)) i) (raise_to_by d n v i)
