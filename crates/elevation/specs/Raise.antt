-- A Bezier segment of degree d in homogeneous form is raised to degree d + 1: h is its controls by their places.
-- Assumes nothing.
use Rattle.std.specs.Prelude.{ℕ, zero, suc, ◌+◌, ◌-◌, cond, leb, eqb, pos, Float}
use Rattle.std.specs.Float.{binary64}
use Rattle.std.specs.Float.Ieee.{div, of_int}
use Rattle.edits.specs.Control.{blend_of}
use Rattle.edits.specs.declared.control.Control.{Control}

-- i / (d + 1)
unfoldable pub raise_share : ℕ → ℕ → Float
raise_share d i = div binary64 (of_int binary64 (pos i)) (of_int binary64 (pos (d + 1)))

-- control i of d + 2: the ends stay, and between them each is blended with the one before it
unfoldable pub raise_once : ℕ → (ℕ → Control) → ℕ → Control
raise_once d h i = cond (eqb i 0) (h 0) (cond (leb i d) (blend_of (h i) (h (i - 1)) (raise_share d i)) (h d))

-- m times, from degree p
unfoldable pub raise_times : ℕ → ℕ → (ℕ → Control) → ℕ → Control
raise_times p zero h = h
raise_times p (suc m) h = raise_once (p + m) (raise_times p m h)
