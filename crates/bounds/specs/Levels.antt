-- De Boor's levels on a net, one after the other. Definitions only.
use Rattle.std.specs.Prelude.{ℕ, ◌+◌, ◌-◌, ◌≤◌, ◌≡◌, List, Result, Err, get_or, Float}
use Rattle.std.specs.Result.{MatchResult}
use Rattle.jets.specs.declared.jet.Jet.{Jet}
use Rattle.jets.specs.declared.net.Control.{Control}
use Rattle.knots.specs.declared.refusal.Refusal.{Refusal}
use Rattle.jets.specs.Net.{zero_control, net_of, refusal_levels, deboor_of}

-- the places of a net as a function
abbrev pub held : List Control → ℕ → Control
held net i = get_or net i zero_control

module _ (ks : List Float) (p s : ℕ) (t : Jet) {X : Type 0} (keep : Control → X) (c : ℕ → Control) where
  -- the levels before l are done on places that start as c, and none was refused: g has what is kept of each place
  pub record Reached (g : ℕ → X) (l : ℕ) : Type 0 where
    pub within : l ≤ p + 1
    pub clear : refusal_levels ks p s t l (p + 1 - l) ≡ refusal_levels ks p s t 1 p
    pub held : (i : ℕ) → i ≤ p → g i ≡ keep (net_of ks p s t c (l - 1) i)

  -- level l, from what is kept before it to what is kept after it, or the refusal of all levels
  abbrev pub LevelMeets : ℕ → (ℕ → X) → (ℕ → X) → Result (Unit {0}) Refusal → Type 0
  LevelMeets l g h A = Reached g l → MatchResult A (λ _. Reached h (l + 1)) (λ r. Err r ≡ deboor_of ks p s t c)
