-- A bound's answer in the paper's numbers, case by case: its refusal, which is `accepted` where there is none, and its values. Definitions only.
use Rattle.std.specs.Prelude.{ℕ, List, [], Float, Result, Ok, Err}
use Rattle.std.proofs.lemmas.List.Edits.{sets}
use Rattle.knots.specs.Refusal.{accepted}
use Rattle.knots.specs.declared.refusal.Refusal.{Refusal}
use Rattle.interval.specs.Numbers.{ends_onto}
use Rattle.interval.specs.declared.Interval.{Interval}
use Rattle.bounds.specs.declared.answer.Triple.{Triple}
use Rattle.bounds.specs.declared.answer.NurbsBounds.{NurbsBounds}

-- the six ends of three intervals, x before y before z, then xs
abbrev pub six_onto : Triple → List Float → List Float
six_onto t xs = ends_onto t.x (ends_onto t.y (ends_onto t.z xs))

-- the numbers of an interval and of three, and a run with them from place k on
abbrev pub two_of : Interval → List Float
two_of i = ends_onto i []

abbrev pub six_of : Triple → List Float
six_of t = six_onto t []

abbrev pub stored_two : List Float → ℕ → Interval → List Float
stored_two l k i = sets l k (two_of i)

abbrev pub stored_six : List Float → ℕ → Triple → List Float
stored_six l k t = sets l k (six_of t)

abbrev pub bounded_refusal : Result NurbsBounds Refusal → Refusal
bounded_refusal (Ok b) = accepted
bounded_refusal (Err r) = r

-- point, du, dv
abbrev pub bounded_values : Result NurbsBounds Refusal → List Float
bounded_values (Ok b) = six_onto b.point (six_onto b.du (six_onto b.dv []))
bounded_values (Err r) = []

-- the same of an answer for the point alone
abbrev pub point_refusal : Result Triple Refusal → Refusal
point_refusal (Ok t) = accepted
point_refusal (Err r) = r

abbrev pub point_values : Result Triple Refusal → List Float
point_values (Ok t) = six_of t
point_values (Err r) = []
