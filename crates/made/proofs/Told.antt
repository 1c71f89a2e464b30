-- An answer of which a test has told whether something is refused.
-- Assumes nothing.
use Rattle.std.proofs.Common.{◌≡◌, refl, true, false}
use Rattle.std.specs.Prelude.{Result, Ok, Err}
use Rattle.std.specs.Result.{is_err}
use Rattle.knots.specs.declared.refusal.Refusal.{Refusal}

pub told-ok : (r : Result (Unit {0}) Refusal) → is_err r ≡ false → r ≡ Ok tt
told-ok (Ok x) h = refl
told-ok (Err x) h = cc

pub told-err : (r : Result (Unit {0}) Refusal) → is_err r ≡ true → (x : Refusal) × (r ≡ Err x)
told-err (Ok x) h = cc
told-err (Err x) h = (x, refl)
