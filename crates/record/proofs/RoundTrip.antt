-- Reading what was written gives the same table and the same doubles, bit for bit.
-- Assumes nothing.
use Rattle.std.specs.Prelude.{Result, Ok, Err}
use Prim.Native.Nat.{ℕ, suc, ◌-◌}
use mathlib.Core.Bool.{Bool, true, false}
use mathlib.Core.Path.{◌≡◌, refl, sym, ◌∙◌}
use mathlib.Core.List.{List, [], ◌∷◌, ◌++◌}
use native.Mathlib.Omega.{arith}
use lib.Dec.{T}
use lib.ListN.{length, get_or, replicate}
use lib.Seq.{take_at}
use lib.Ieee.{Float, nan, binary64, fits}
use lib.Ieee.Bits.{of_bits-to_bits, to_bits-lt}
use borrow.Author.Tests.{ltb-true, leb-true}
use Rattle.knots.specs.Refusal.{refuse}
use Rattle.knots.specs.declared.refusal.Reason.TheVariants.{LengthBad}
use Rattle.knots.specs.declared.refusal.Refusal.{Refusal}
use Rattle.record.specs.Format.{Patterns, IsRecordOf, encode, given}
use Rattle.record.specs.Reading.{numbers}
use Rattle.record.specs.Writing.{bits, Kept, chosen, table_from, holdable, writable, Writes, ReadsBack}
use Rattle.record.proofs.Tests.{both, held}
use Rattle.record.proofs.Tables.{complete}

-- every element is a double, as in each slice of doubles
abbrev pub Doubles : List Float → Type 0
Doubles xs = (i : ℕ) → T (fits binary64 (get_or xs i nan))

pub bits-patterns : (xs : List Float) → Doubles xs → Patterns (bits xs)
bits-patterns [] d = tt
bits-patterns (x ∷ xs) d = (to_bits-lt binary64 x (d 0), bits-patterns xs (λ i. d (suc i)))

pub numbers-bits : (xs : List Float) → Doubles xs → numbers (bits xs) ≡ xs
numbers-bits [] d = refl
numbers-bits (x ∷ xs) d = rw (of_bits-to_bits binary64 x (d 0), numbers-bits xs (λ i. d (suc i)))

pub kept : (xs : List Float) → Doubles xs → Kept xs
kept xs d = (bits-patterns xs d, numbers-bits xs d)

chosen-patterns : (rational : Bool) (ws : List Float) → Kept ws → Patterns (given (chosen rational ws))
chosen-patterns false ws d = tt
chosen-patterns true ws d = d.0

refused-written : {x : Refusal} {n : ℕ} → Err x ≡ Ok n → ⊥
refused-written e = let z : ◌≡◌ {A = ℕ} 0 1 = cc in omega arith

module _ (p : ℕ) (ks ps : List Float) (rational : Bool) (ws : List Float) (dk : Kept ks) (dp : Kept ps) (dw : Kept ws) where
  -- the record of a call's numbers holds their table
  pub holds-encode : holdable (table_from p ks ps rational ws) ≡ true → IsRecordOf (encode (table_from p ks ps rational ws)) (table_from p ks ps rational ws)
  holds-encode h =
      let ok = both _ _ h in
      record {
        bytes = refl;
        short = leb-true _ _ ok.1;
        degree = ltb-true _ _ ok.0;
        knots = dk.0;
        points = dp.0;
        weights = chosen-patterns rational ws dw;
      }

  pub reads-back : (before after : List ℕ) (r : Result ℕ Refusal) → Writes (table_from p ks ps rational ws) before after r → ReadsBack p ks ps rational ws after r
  reads-back before after r w =
      record {
        table = λ n e.
            let t = table_from p ks ps rational ws in
            let yes = held (Err (refuse LengthBad)) (Ok n) refused-written (writable t (length before)) (Ok (length (encode t))) (sym w.answer ∙ e) in
            let n-is : length (encode t) ≡ n = cc in
            let out : after ≡ encode t ++ replicate (length before - length (encode t)) 0 = w.left ∙ rw yes.0 in
            rw (out, take_at (encode t) (replicate (length before - length (encode t)) 0) n n-is) (complete (encode t) t (holds-encode (both _ _ yes.0).0));
        knots = dk.1;
        points = dp.1;
        weights = dw.1;
      }
