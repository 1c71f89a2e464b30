-- The walk over the parts of a span: from a span that was found, the same span is found, so that each of its parts is shown.
-- Assumes nothing.
use Rattle.std.specs.Prelude.{Some}
use Prim.Native.Nat.{ℕ}
use mathlib.Core.Path.{◌≡◌, sym, ap}
use mathlib.Core.List.{List}
use lib.Ieee.{Float}
use borrow.Author.Tests.{le-ltb}
use Rattle.knots.specs.Walk.{next_span}
use Rattle.knots.proofs.Walks.{walk_here, next-at}
use Rattle.listing.specs.Listing.{shown_of}

module _ (p n : ℕ) (ks : List Float) (i s : ℕ) (found : next_span p n ks i ≡ Some s) where
  pub same_span : next_span p n ks s ≡ Some s
  same_span =
      let a = next-at p n ks i s found in
      rw (le-ltb s p a.above) (sym (walk_here n ks s a.below a.here))

  pub part-shown : (line : ℕ → List ℕ) → shown_of line (next_span p n ks s) ≡ line s
  part-shown line = ap (shown_of line) same_span
