-- Points in a run of coordinates.
-- Assumes nothing.
use Rattle.std.specs.Prelude.{ℕ, ◌+◌, ◌*◌, Bool, ◌&&◌, List, [], ◌∷◌, set, Float}
use Rattle.std.proofs.lemmas.List.Edits.{sets}
use Rattle.std.specs.Float.Ieee.Scale.{finite}
use Rattle.runs.specs.Coordinate.{coordinate}
use Rattle.runs.specs.declared.vector.Vector.{Vector}

abbrev pub point_of : List Float → ℕ → Vector
point_of ps i = record { x = coordinate ps i 0; y = coordinate ps i 1; z = coordinate ps i 2 }

-- the run with v at point i; outside nothing is stored
abbrev pub point_put : List Float → ℕ → Vector → List Float
point_put ps i v = set (set (set ps (i * 3) v.x) (i * 3 + 1) v.y) (i * 3 + 2) v.z

-- the three numbers of a vector, and the run with them from place k on
abbrev pub three_of : Vector → List Float
three_of v = v.x ∷ v.y ∷ v.z ∷ []

abbrev pub stored_three : List Float → ℕ → Vector → List Float
stored_three l k v = sets l k (three_of v)

unfoldable pub finite_vector : Vector → Bool
finite_vector v = finite v.x && (finite v.y && finite v.z)
