-- `record::read::is_rational` meets its contract.
-- Assumes nothing.
use mathlib.Core.Bool.{Bool, true, false, not, beq}
use mathlib.Core.Path.{◌≡◌, refl}
use borrow.Author.Rules.{rules}
use Rattle.record.proofs.read.is_rational.Goals as goal

-- not needed as the code is: with it the answer may be spelt as a test of the field
is-there : (b : Bool) → not (beq b false) ≡ b
is-there true = refl
is-there false = refl

pub returns : goal.returns
returns c = search (rules, is-there)
