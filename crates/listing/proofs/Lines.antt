-- A text at the front of cleared bytes, and the knots that a line shows.
-- Assumes nothing.
use Rattle.std.specs.Prelude.{Some}
use Prim.Native.Nat.{ℕ, ◌+◌, ◌≤◌, ◌<◌}
use mathlib.Core.Bool.{Bool, true, false}
use mathlib.Core.Path.{◌≡◌, refl, sym, ◌∙◌, ap}
use mathlib.Core.List.{List, []}
use native.Mathlib.Nat.{zero-add}
use native.Mathlib.Omega.{arith}
use lib.ListN.{length, take, replicate, length-append, length-replicate}
use lib.Dec.{ltb}
use lib.Seq.{sets, length-sets, length-take-le}
use lib.Ieee.{Float}
use borrow.Author.Tests.{ltb-true, ltb-false}
use Rattle.doubles.specs.Run.{at}
use Rattle.knots.specs.Span.{nonempty}
use Rattle.knots.specs.Walk.{next_span}
use Rattle.knots.proofs.Answers.{not-under}
use Rattle.knots.proofs.Walks.{next-at}
use Rattle.record.proofs.Stores.{sets-front}
use Rattle.decimals.specs.Stored.{Stored}
use Rattle.listing.specs.Text.{Shown}

-- a text at the front of cleared bytes
pub shown : (room : ℕ) (text after : List ℕ) (n : ℕ) → after ≡ sets (replicate room 0) 0 text → n ≡ length text → n ≤ room → Shown room text after n
shown room text after n e count h =
    record {
      count = count;
      bytes = e ∙ sets-front room 0 text (omega arith);
      long = ap length e ∙ length-sets (replicate room 0) 0 text ∙ length-replicate room 0;
    }

pub front-shown : (room n : ℕ) {text o after : List ℕ} {r : ℕ} → o ≡ replicate n 0 → n ≡ room → Stored o 0 text after r → r ≤ room → Shown room text after r
front-shown room n {text} {after = after} {r} cleared long s h = let t = rw (cleared, long) at s in shown room text after r t.run (t.end ∙ zero-add (length text)) h

-- the count of a text is its length
pub shown-whole : {room : ℕ} {text after : List ℕ} {n : ℕ} → Shown room text after n → Shown room text after (length text)
shown-whole s = record { count = refl; bytes = s.bytes; long = s.long }

-- any two outcomes are one
pub one-shown : {room : ℕ} {text a b : List ℕ} {m n : ℕ} → Shown room text a m → Shown room text b n → (m ≡ n) × (a ≡ b)
one-shown x y = (x.count ∙ sym y.count, x.bytes ∙ sym y.bytes)

-- nothing at all
pub none-shown : (room : ℕ) → Shown room [] (replicate room 0) 0
none-shown room = shown room [] (replicate room 0) 0 refl refl (omega arith)

-- cleared bytes hold nothing
pub cleared-shown : (room n : ℕ) {o : List ℕ} → o ≡ replicate n 0 → n ≡ room → Shown room [] o 0
cleared-shown room n e h = rw (e, h) (none-shown room)

-- ---- the knots of a nonempty span are in the run: past its end stands a NaN

nonempty-in : (ks : List Float) (s : ℕ) → nonempty ks s ≡ true → s + 1 < length ks
nonempty-in ks s h = go (ltb (s + 1) (length ks)) refl
  where
    go : (t : Bool) → ltb (s + 1) (length ks) ≡ t → s + 1 < length ks
    go true e = ltb-true _ _ e
    go false e =
        let no : nonempty ks s ≡ false = not-under ks (s + 1) (at ks s) (ltb-false _ _ e) in
        let z : ◌≡◌ {A = ℕ} 0 1 = cc in
        absurd (omega arith)

pub span_in : (p n : ℕ) (ks : List Float) (i s : ℕ) → Some s ≡ next_span p n ks i → s + 1 < length ks
span_in p n ks i s e = nonempty-in ks s (next-at p n ks i s (sym e)).here

-- ---- what a caller prints

-- the count of a shown text is within its bytes
pub shown-counts : {room : ℕ} {text after : List ℕ} {n : ℕ} → Shown room text after n → (n ≤ length after) × (n ≡ length (take n after))
shown-counts {text = text} {after} {n} s =
    let sum = ap length s.bytes ∙ length-append text _ in
    let c = s.count in
    let within : n ≤ length after = omega arith in
    (within, sym (length-take-le n after within))
