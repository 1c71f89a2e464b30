-- A net without derivatives in a run: eight numbers a point. Definitions only.
use Rattle.std.specs.Prelude.{ℕ, ◌+◌, ◌*◌, ◌≤◌, ◌<◌, ◌≡◌, List, [], ◌∷◌, Float, Result}
use Rattle.doubles.specs.Run.{at}
use Rattle.jets.specs.declared.jet.Jet.{Jet}
use Rattle.jets.specs.declared.net.Control.{Control}
use Rattle.jets.specs.Net.{deboor_of}
use Rattle.ends.specs.declared.ends.Ends.{Ends}
use Rattle.ends.specs.declared.flat.Flat.{Flat}
use Rattle.knots.specs.declared.refusal.Refusal.{Refusal}
use Rattle.ends.specs.Flat.{flat_of, flat_net}
use Rattle.ends.specs.Good.{GoodPoint}

-- the interval whose ends stand at k and l
abbrev pub ends_at : List Float → ℕ → ℕ → Ends
ends_at xs k l = record { under = at xs k; over = at xs l }

-- point m
unfoldable pub flat_at : List Float → ℕ → Flat
flat_at xs m = let k = m * 8 in record { x = ends_at xs k (k + 1); y = ends_at xs (k + 2) (k + 3); z = ends_at xs (k + 4) (k + 5); w = ends_at xs (k + 6) (k + 7) }

abbrev pub eight_of : Flat → List Float
eight_of c = c.x.under ∷ c.x.over ∷ c.y.under ∷ c.y.over ∷ c.z.under ∷ c.z.over ∷ c.w.under ∷ c.w.over ∷ []

-- the first n points are those of f
abbrev pub FilledTo : (ℕ → Flat) → ℕ → List Float → Type 0
FilledTo f n net = (i : ℕ) → i < n → flat_at net i ≡ f i

-- the levels on a net that has the points of c, which are products
abbrev pub LevelsMeet : List Float → ℕ → ℕ → Jet → List Float → Result Flat Refusal → Type 0
LevelsMeet ks p s t net A = (c : ℕ → Control) → ((m : ℕ) → m ≤ p → GoodPoint (c m)) → FilledTo (λ m. flat_of (c m)) (p + 1) net → A ≡ flat_net (deboor_of ks p s t c)
