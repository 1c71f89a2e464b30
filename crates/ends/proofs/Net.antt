-- Every interval of a net that starts with products is good, so that a step by ends is a step of the net. Assumes nothing.
use Prim.Native.Nat.{ℕ, zero, suc, ◌-◌, ◌≤◌}
use mathlib.Core.Path.{◌≡◌, refl, sym, ◌∙◌}
use mathlib.Core.Bool.{Bool, true, false, cond}
use mathlib.Core.List.{List}
use native.Mathlib.Omega.{arith}
use lib.Dec.{leb}
use lib.Ieee.{Float}
use Rattle.std.specs.Prelude.{Result, Ok, Err}
use Rattle.knots.specs.declared.refusal.Refusal.{Refusal}
use Rattle.jets.specs.Net.{share_at, mix_by, refused_by, level_of, net_of}
use Rattle.jets.specs.declared.jet.Jet.{Jet}
use Rattle.jets.specs.declared.net.Control.{Control}
use Rattle.ends.specs.declared.flat.Flat.{Flat}
use Rattle.ends.specs.Flat.{flat_of, flat_mix, flat_neighbours}
use Rattle.ends.specs.Good.{GoodPoint}
use Rattle.ends.proofs.Mixed.{mix-good, mix-same}

-- one place of a level, from the level before
module _ (a : Result Jet Refusal) (x y : Control) (X : GoodPoint x) (Y : GoodPoint y) where
  mixed-good : GoodPoint (mix_by a x y)
  mixed-good = go a
    where
      go : (a : Result Jet Refusal) → GoodPoint (mix_by a x y)
      go (Ok α) = mix-good α x y X Y
      go (Err r) = Y

  place-good : (b : Bool) → GoodPoint (cond b (mix_by a x y) y)
  place-good true = mixed-good
  place-good false = Y

module _ (ks : List Float) (p s : ℕ) (t : Jet) (c : ℕ → Control) (G : (m : ℕ) → m ≤ p → GoodPoint (c m)) where
  pub net-good : (l i : ℕ) → i ≤ p → GoodPoint (net_of ks p s t c l i)
  unfolding net_of level_of
  net-good zero i h = G i h
  net-good (suc l) i h = place-good (share_at ks p s t (suc l) i) _ _ (net-good l (i - 1) (omega arith)) (net-good l i h) (leb (suc l) i)

-- what a step by ends answers
pub flat-is : (a : Result Jet Refusal) (x y : Control) (v : Flat) → GoodPoint x → GoodPoint y → flat_neighbours a (flat_of x) (flat_of y) ≡ Ok v → (v ≡ flat_of (mix_by a x y)) × (refused_by a ≡ Ok tt)
flat-is (Ok α) x y v X Y e = (let z : flat_mix α.v (flat_of x) (flat_of y) ≡ v = cc in sym z ∙ mix-same α x y X Y, refl)
flat-is (Err r) x y v X Y e = cc

pub flat-refused : (a : Result Jet Refusal) (x y : Flat) (r : Refusal) → flat_neighbours a x y ≡ Err r → a ≡ Err r
flat-refused (Ok α) x y r e = cc
flat-refused (Err q) x y r e = cc
