-- The walk by `next_line`: what a caller knows of an answer, and that the lines one after the other are the listing.
-- Assumes nothing.
use Rattle.std.specs.Prelude.{Option, Some, None}
use Prim.Native.Nat.{ℕ, zero, suc, ◌+◌, ◌-◌, ◌≤◌, ◌<◌}
use mathlib.Core.Bool.{Bool, true, false, cond}
use mathlib.Core.Path.{◌≡◌, refl}
use mathlib.Core.List.{List, [], ◌++◌}
use native.Mathlib.Omega.{arith}
use lib.Dec.{ltb}
use lib.ListN.{length, take}
use lib.Ieee.{Float}
use borrow.Author.Tests.{ltb-false, le-ltb}
use Rattle.knots.specs.Span.{nonempty}
use Rattle.knots.specs.Walk.{first_of, first_from, next_span}
use Rattle.knots.proofs.Walks.{next-at}
use Rattle.listing.specs.declared.Line.{Line}
use Rattle.listing.specs.Text.{Shown}
use Rattle.listing.specs.Listing.{shown_of, answer_of, lines_of, listing}
use Rattle.listing.proofs.Lines.{shown-counts}

-- ---- what a caller knows of a line

pub record Told (p n : ℕ) (ks : List Float) (i s m : ℕ) (after : List ℕ) : Type 0 where
  pub span : next_span p n ks i ≡ Some s
  pub from : i ≤ s
  pub below : s < n
  pub within : m ≤ length after
  pub whole : m ≡ length (take m after)

line-said : (line : ℕ → List ℕ) (r : Option ℕ) (x : Line) → Some x ≡ answer_of line r → (r ≡ Some x.span) × (x.length ≡ length (shown_of line r))
line-said line (Some t) x e = let same : x ≡ record { span = t; length = length (line t) } = cc in rw same (refl, refl)
line-said line None x e = let z : ◌≡◌ {A = ℕ} 0 1 = cc in absurd (omega arith)

pub told : (line : ℕ → List ℕ) (room p n : ℕ) (ks : List Float) (i : ℕ) (x : Line) (after : List ℕ) → Some x ≡ answer_of line (next_span p n ks i) →
    Shown room (shown_of line (next_span p n ks i)) after (length (shown_of line (next_span p n ks i))) → Told p n ks i x.span x.length after
told line room p n ks i x after e shown =
    let said = line-said line (next_span p n ks i) x e in
    let next = next-at p n ks i x.span said.0 in
    let counts = shown-counts shown in
    record {
      span = said.0;
      from = next.from;
      below = next.below;
      within = rw said.1 counts.0;
      whole = rw said.1 counts.1;
    }

-- ---- the listing, a line at a time

module _ (line : ℕ → List ℕ) where
  -- the lines behind the next one, up to the place n
  abbrev pub behind : ℕ → List Float → Option ℕ → List ℕ
  behind n ks (Some s) = lines_of line (n - (s + 1)) ks (s + 1)
  behind n ks None = []

  lines_step : (k : ℕ) (ks : List Float) (i n : ℕ) → i + k ≡ n → lines_of line k ks i ≡ shown_of line (first_of k ks i) ++ behind n ks (first_of k ks i)
  unfolding lines_of first_of
  lines_step zero ks i n e = refl
  lines_step (suc k) ks i n e = go (nonempty ks i) (lines_step k ks (i + 1) n (omega arith))
    where
      go : (t : Bool) → lines_of line k ks (i + 1) ≡ shown_of line (first_of k ks (i + 1)) ++ behind n ks (first_of k ks (i + 1)) →
          cond t (line i) [] ++ lines_of line k ks (i + 1) ≡ shown_of line (cond t (Some i) (first_of k ks (i + 1))) ++ behind n ks (cond t (Some i) (first_of k ks (i + 1)))
      go true rest =
          let left : n - (i + 1) ≡ k = omega arith in
          rw left
      go false rest = rest

module _ (line : ℕ → List ℕ) (p n : ℕ) (ks : List Float) where
  -- from a place in the domain on
  pub listing-next : (i : ℕ) → p ≤ i → i ≤ n → lines_of line (n - i) ks i ≡ shown_of line (next_span p n ks i) ++ behind line n ks (next_span p n ks i)
  listing-next i h l = rw (le-ltb i p h) (lines_step line (n - i) ks i n (omega arith))

  -- from the start
  pub listing-first : p ≤ n → listing line p n ks ≡ shown_of line (next_span p n ks 0) ++ behind line n ks (next_span p n ks 0)
  unfolding listing
  listing-first l = go (ltb 0 p) refl
    where
      go : (t : Bool) → ltb 0 p ≡ t →
          lines_of line (n - p) ks p ≡ shown_of line (cond t (first_from n ks p) (first_from n ks 0)) ++ behind line n ks (cond t (first_from n ks p) (first_from n ks 0))
      go true e = lines_step line (n - p) ks p n (omega arith)
      go false e =
          let z : p ≡ 0 = omega (arith, ltb-false 0 p e) in
          rw z (lines_step line (n - 0) ks 0 n (omega arith))
