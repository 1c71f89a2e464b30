-- De Boor's levels over jets, with the source's operations. Definitions only.
use Rattle.std.specs.Prelude.{cond, List, ℕ, zero, suc, ◌+◌, ◌-◌, leb, Float, Result, Ok, Err}
use Rattle.doubles.specs.Run.{at}
use Rattle.doubles.specs.Value.{zero+, one+}
use Rattle.interval.specs.Ops.{point_of, add_of, sub_of, mul_of, divide_of}
use Rattle.interval.specs.declared.Interval.{Interval}
use Rattle.interval.specs.declared.DivideError.{DivideError}
use Rattle.knots.specs.Numbers.{quotient_by}
use Rattle.knots.specs.declared.refusal.Refusal.{Refusal}
use Rattle.jets.specs.declared.jet.Jet.{Jet}
use Rattle.jets.specs.declared.net.Control.{Control}
use Rattle.jets.specs.Jet.{constant_of, jet_sub, jet_add, jet_mul, jet_scale}

-- the share by the quotient of its denominator
abbrev pub share_by : Jet → Interval → Result Interval DivideError → Result Jet Refusal
share_by t l = quotient_by (λ q. Ok (jet_scale (jet_sub t (constant_of l)) q))

unfoldable pub share_of : Jet → Float → Float → Result Jet Refusal
share_of t left right = share_by t (point_of left) (divide_of (point_of one+) (sub_of (point_of right) (point_of left)))

-- b' a + b a' + c' d + c d': how b a + c d changes
unfoldable pub slope_of : Interval → Interval → Interval → Interval → Interval → Interval → Interval → Interval → Interval
slope_of b b' a a' c c' d d' = add_of (add_of (mul_of b' a) (mul_of b a')) (add_of (mul_of c' d) (mul_of c d'))

-- (1 - alpha) a + alpha b
unfoldable pub mix_jet : Jet → Jet → Jet → Jet
mix_jet alpha a b = jet_add (jet_mul (jet_sub (constant_of (point_of one+)) alpha) a) (jet_mul alpha b)

unfoldable pub mix_of : Jet → Control → Control → Control
mix_of alpha a b = record { x = mix_jet alpha a.x b.x; y = mix_jet alpha a.y b.y; z = mix_jet alpha a.z b.z; w = mix_jet alpha a.w b.w }

-- what an answer refuses
abbrev pub refused_by : {A : Type 0} → Result A Refusal → Result Unit Refusal
refused_by (Ok a) = Ok tt
refused_by (Err r) = Err r

-- two points of the net under a share. A share that is refused leaves the right one
abbrev pub mix_by : Result Jet Refusal → Control → Control → Control
mix_by (Ok alpha) a b = mix_of alpha a b
mix_by (Err r) a b = b

-- two neighbours under their share, or its refusal
abbrev pub neighbours : Result Jet Refusal → Control → Control → Result Control Refusal
neighbours (Ok alpha) a b = Ok (mix_of alpha a b)
neighbours (Err r) a b = Err r

-- the first that refuses
abbrev pub or_else : Result Unit Refusal → Result Unit Refusal → Result Unit Refusal
or_else (Ok x) b = b
or_else (Err r) b = Err r

module _ (ks : List Float) (p s : ℕ) (t : Jet) where
  -- the share at place j of level l
  unfoldable pub share_at : ℕ → ℕ → Result Jet Refusal
  share_at l j = share_of t (at ks (s - p + j)) (at ks (s + j - l + 1))

  -- place j after level l, from the places before it
  unfoldable pub level_of : ℕ → (ℕ → Control) → ℕ → Control
  level_of l c j = cond (leb l j) (mix_by (share_at l j) (c (j - 1)) (c j)) (c j)

  -- the first refusal of k places of level l, from j down
  unfoldable pub refusal_from : ℕ → ℕ → ℕ → Result Unit Refusal
  refusal_from l zero j = Ok tt
  refusal_from l (suc k) j = or_else (refused_by (share_at l j)) (refusal_from l k (j - 1))

  -- place j after l levels, from the net c
  unfoldable pub net_of : (ℕ → Control) → ℕ → ℕ → Control
  net_of c zero j = c j
  net_of c (suc l) j = level_of (suc l) (net_of c l) j

  -- the first refusal of k levels, from level l up
  unfoldable pub refusal_levels : ℕ → ℕ → Result Unit Refusal
  refusal_levels l zero = Ok tt
  refusal_levels l (suc k) = or_else (refusal_from l (p + 1 - l) p) (refusal_levels (l + 1) k)

-- the answer of all levels
unfoldable pub last_by : Result Unit Refusal → Control → Result Control Refusal
last_by (Ok x) c = Ok c
last_by (Err r) c = Err r

unfoldable pub deboor_of : List Float → ℕ → ℕ → Jet → (ℕ → Control) → Result Control Refusal
deboor_of ks p s t c = last_by (refusal_levels ks p s t 1 p) (net_of ks p s t c p p)

-- ---- a net whose places may be refused

abbrev pub zero_control : Control
zero_control = let z = constant_of (point_of zero+) in record { x = z; y = z; z = z; w = z }

abbrev pub net_control : Result Control Refusal → Control
net_control (Ok c) = c
net_control (Err r) = zero_control

-- the first refusal of k places from i up
unfoldable pub refusal_up : (ℕ → Result Control Refusal) → ℕ → ℕ → Result Unit Refusal
refusal_up f zero i = Ok tt
refusal_up f (suc k) i = or_else (refused_by (f i)) (refusal_up f k (i + 1))

abbrev pub refuse_net : Result Unit Refusal → Result Control Refusal → Result Control Refusal
refuse_net (Ok x) a = a
refuse_net (Err r) a = Err r

-- all levels on places 0 to p
unfoldable pub filled_of : List Float → ℕ → ℕ → Jet → (ℕ → Result Control Refusal) → Result Control Refusal
filled_of ks p s t f = refuse_net (refusal_up f (p + 1) 0) (deboor_of ks p s t (λ m. net_control (f m)))
