-- What a line shows of the next span, by that span and its knots.
-- Assumes nothing.
use Rattle.std.specs.Prelude.{Option, Some, None}
use Prim.Native.Nat.{ℕ, ◌+◌}
use mathlib.Core.Path.{◌≡◌, refl, ap}
use mathlib.Core.List.{List}
use native.Mathlib.Omega.{arith}
use lib.ListN.{length, replicate}
use lib.Ieee.{Float}
use Rattle.doubles.specs.Run.{at}
use Rattle.listing.specs.Text.{Shown}
use Rattle.listing.specs.declared.Range.{Range}
use Rattle.listing.specs.Range.{range_of}
use Rattle.listing.specs.Listing.{shown_of, answer_of}
use Rattle.listing.proofs.Lines.{shown-whole, cleared-shown}

range-said : (ks : List Float) (n : Option ℕ) (x : Range) → Some x ≡ range_of ks n → (n ≡ Some x.span) × (x.lower ≡ at ks x.span) × (x.upper ≡ at ks (x.span + 1))
range-said ks (Some t) x e =
    let same : x ≡ record { span = t; lower = at ks t; upper = at ks (t + 1) } = cc in
    rw same (refl, refl, refl)
range-said ks None x e = let z : ◌≡◌ {A = ℕ} 0 1 = cc in absurd (omega arith)

none_said : (ks : List Float) (n : Option ℕ) → None ≡ range_of ks n → n ≡ None
none_said ks (Some t) e = let z : ◌≡◌ {A = ℕ} 0 1 = cc in absurd (omega arith)
none_said ks None e = refl

module _ (line : ℕ → List ℕ) (ks : List Float) (n : Option ℕ) (room : ℕ) {after : List ℕ} where
  -- the line of the span that was found
  pub next-shown : {x : Range} {r : ℕ} (text : Float → Float → List ℕ) → Some x ≡ range_of ks n → line x.span ≡ text (at ks x.span) (at ks (x.span + 1))
      → Shown room (text x.lower x.upper) after r →
      (Some (record { span = x.span; length = r }) ≡ answer_of line n) × Shown room (shown_of line n) after (length (shown_of line n))
  next-shown {x} {r} text found is shown =
      let said = range-said ks n x found in
      let it : Shown room (line x.span) after r = rw (is, ← said.1, ← said.2) shown in
      rw said.0 (ap (λ (m : ℕ). Some (record { span = x.span; length = m })) it.count, shown-whole it)

  -- nothing where there is none
  pub end-shown : {k : ℕ} → None ≡ range_of ks n → after ≡ replicate k 0 → k ≡ room → (None ≡ answer_of line n) × Shown room (shown_of line n) after (length (shown_of line n))
  end-shown {k} none cleared long = rw (none_said ks n none) (refl, cleared-shown room k cleared long)
