-- The promises of a bound together: its answer, that bounds hold the exact values, and that 28 and 29 are not given. Assumes nothing.
use Prim.Native.Nat.{ℕ}
use mathlib.Core.Path.{◌≡◌, sym, subst}
use mathlib.Core.Bool.{Bool}
use mathlib.Core.List.{List}
use lib.Ieee.{Float}
use Rattle.knots.specs.Curve.{count_of}
use Rattle.runs.specs.Fraction.{coordinate_value}
use Rattle.bounds.specs.Curve.{bound_of, bound_at}
use Rattle.bounds.specs.Surface.{surface_of}
use Rattle.bounds.specs.Numbers.{bounded_refusal}
use Rattle.bounds.specs.Holds.{Holds, HoldsOn, SurfaceHolds, NotIdle}
use Rattle.bounds.proofs.CurveHolds.{bound-holds, step-holds}
use Rattle.bounds.proofs.SurfaceHolds.{surface-holds}
use Rattle.bounds.proofs.Idle.{bound-idle, step-idle, surface-idle}
use Rattle.std.specs.Prelude.{Result}
use Rattle.bounds.specs.declared.answer.NurbsBounds.{NurbsBounds}
use Rattle.knots.specs.declared.refusal.Refusal.{Refusal}

-- A is B, F holds of it, and its refusal is neither 28 nor 29
abbrev pub Promised : Result NurbsBounds Refusal → Result NurbsBounds Refusal → (Result NurbsBounds Refusal → Type 0) → Type 0
Promised A B F = (A ≡ B) × (F A × NotIdle (bounded_refusal A).number)

promised : (A B : Result NurbsBounds Refusal) (F : Result NurbsBounds Refusal → Type 0) → A ≡ B → F B → NotIdle (bounded_refusal B).number → Promised A B F
promised A B F e h i = (e, (subst F (sym e) h, subst (λ (a : Result NurbsBounds Refusal). NotIdle (bounded_refusal a).number) (sym e) i))

pub bound-promised : (p : ℕ) (ks ps ws : List Float) (r : Bool) (lo hi : Float) (A : Result NurbsBounds Refusal) → A ≡ bound_of p ks ps r ws lo hi → Promised A (bound_of p ks ps r ws lo hi) (Holds p ks ps r ws lo hi)
bound-promised p ks ps ws r lo hi A e = promised A _ (Holds p ks ps r ws lo hi) e (bound-holds p ks ps ws r lo hi) (bound-idle p ks ps ws r lo hi)

pub step-promised : (p s : ℕ) (ks ps ws : List Float) (r : Bool) (lo hi : Float) (A : Result NurbsBounds Refusal) → A ≡ bound_at p s ks ps r ws lo hi
    → Promised A (bound_at p s ks ps r ws lo hi) (HoldsOn p s ks (count_of ps) r ws lo hi (coordinate_value ps))
step-promised p s ks ps ws r lo hi A e = promised A _ (HoldsOn p s ks (count_of ps) r ws lo hi (coordinate_value ps)) e (step-holds p s ks ps ws r lo hi) (step-idle p s ks ps ws r lo hi)

pub surface-promised : (p q : ℕ) (uk vk : List Float) (nu nv : ℕ) (ps ws : List Float) (r : Bool) (ulo uhi vlo vhi : Float) (A : Result NurbsBounds Refusal) → A ≡ surface_of p q uk vk nu nv ps r ws ulo uhi vlo vhi
    → Promised A (surface_of p q uk vk nu nv ps r ws ulo uhi vlo vhi) (SurfaceHolds p q uk vk nu nv ps r ws ulo uhi vlo vhi)
surface-promised p q uk vk nu nv ps ws r ulo uhi vlo vhi A e =
    promised A _ (SurfaceHolds p q uk vk nu nv ps r ws ulo uhi vlo vhi) e (surface-holds p q uk vk nu nv ps ws r ulo uhi vlo vhi) (surface-idle p q uk vk nu nv ps ws r ulo uhi vlo vhi)
