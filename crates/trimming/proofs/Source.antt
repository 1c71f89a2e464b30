-- The definition of a cut is the source's: its loops run as often as the ends are missing, its partition points are the counts, and 13 and 14 never fire.
-- Assumes nothing.
use Prim.Native.Nat.{ℕ, ◌+◌, ◌-◌, ◌*◌, ◌≤◌, ◌<◌}
use mathlib.Core.Bool.{Bool, true, false}
use mathlib.Core.Path.{◌≡◌, refl, sym, ◌∙◌, ap, ap₂, subst}
use mathlib.Core.List.{List}
use native.Mathlib.Omega.{arith}
use lib.ListN.{length, take, drop, replicate, length-take, length-drop}
use lib.Seq.{get_or-take, get_or-drop}
use lib.Ieee.{Float, binary64, nan, sub, lt}
use lib.Ieee.Scale.{finite}
use Rattle.doubles.specs.Run.{at}
use Rattle.doubles.proofs.TestedOrder.{lt-ge-trans}
use Rattle.knots.specs.Refusal.{accepted}
use Rattle.knots.specs.Knots.{ValidKnots}
use Rattle.knots.specs.Curve.{count_of, is_weight, ValidControls}
use Rattle.knots.specs.declared.refusal.Refusal.{Refusal}
use Rattle.knots.proofs.Valid.{sorted}
use Rattle.knots.proofs.Curves.{formed-not-refused}
use Rattle.edits.specs.Counts.{multiplicity_of, below_of}
use Rattle.edits.specs.Rows.{given}
use Rattle.insertion.specs.Fold.{insert_all}
use Rattle.edits.specs.Outcome.{gives, refuses}
use Rattle.edits.specs.Whole.{given_of}
use Rattle.insertion.proofs.KnotCounts.{not-both, eq_self, lt-not-eq, below-past, below-first, below_rest, below-room}
use Rattle.insertion.proofs.ListResult.{made, made-controls}
use Rattle.insertion.proofs.Never.{Late, late-not}
use Rattle.insertion.proofs.Repeated.{repeated, Cut, cut-late, cut-made}
use Rattle.trimming.specs.Trim.{ends_of, kept_of, cut_refusal}
use Rattle.trimming.proofs.Widths.{narrower}
use Rattle.trimming.proofs.Ranges.{Range, range-is, Open}

given-controls : (n : ℕ) (ps : List Float) (g : Bool) (ws : List Float) → ValidControls n ps g ws → ValidControls n ps g (given_of g ws)
given-controls n ps true ws v = v
given-controls n ps false ws v = record { coordinates = v.coordinates; weights = λ e. absurd (not-both false e refl); positive = λ e. absurd (not-both false e refl) }

-- what is true of every number of a run is true of every number of a part of it
part : (P : Float → Type 0) (xs : List Float) (f m : ℕ) → ((k : ℕ) → k < length xs → P (at xs k)) → (k : ℕ) → k < length (take m (drop f xs)) → P (at (take m (drop f xs)) k)
part P xs f m h k l =
    let a = length-take m (drop f xs) in
    let b = length-drop f xs in
    subst P (sym (get_or-take m (drop f xs) k nan (omega arith) ∙ get_or-drop f xs k nan)) (h (f + k) (omega arith))

window : (n f m : ℕ) (ps : List Float) (g : Bool) (ws : List Float) → f + m ≤ n → ValidControls n ps g ws → ValidControls m (take (m * 3) (drop (f * 3) ps)) g (take (given g m) (drop f ws))
window n f m ps g ws b v = record {
  coordinates = part (λ x. finite x ≡ true) ps (f * 3) (m * 3) v.coordinates;
  weights = λ e.
      let w = v.weights e in
      let s : given g m ≡ m = ap (λ (y : Bool). given y m) e in
      length-take (given g m) (drop f ws) ∙ omega (arith, length-drop f ws);
  positive = λ e. part (λ x. is_weight x ≡ true) ws f (given g m) (v.positive e);
}

module _ (p : ℕ) (ks ps : List Float) (g : Bool) (ws : List Float) (lo hi : Float) (a b c d : ℕ) (o : Open p ks ps g ws lo hi a b c d) where
  pub range : Range (at ks p) (at ks (count_of ps)) lo hi
  range = range-is (at ks p) (at ks (count_of ps)) lo hi o.range

  -- ---- a knot is refused by 8, 19 or 20 alone
  pub ends-late : (r : Refusal) → insert_all p g (count_of ps) ks ps (given_of g ws) (ends_of p ks lo hi) ≡ refuses r → Late r
  unfolding ends_of
  ends-late r = cut-late p g (count_of ps) ks ps (given_of g ws) o.curve.knots lo hi range.low range.high range.less o.clamped range.from range.to r

  pub never-13 : (r : Refusal) → insert_all p g (count_of ps) ks ps (given_of g ws) (ends_of p ks lo hi) ≡ refuses r → r.number ≡ 13 → ⊥
  never-13 r e = late-not r (ends-late r e) 13 (omega arith) (omega arith)

  pub never-14 : (r : Refusal) → insert_all p g (count_of ps) ks ps (given_of g ws) (ends_of p ks lo hi) ≡ refuses r → r.number ≡ 14 → ⊥
  never-14 r e = late-not r (ends-late r e) 14 (omega arith) (omega arith)

  -- ---- the source inserts an end while it stands there less than degree + 1 times: each time it stands there once more
  pub low-loop : (j : ℕ) (ks' ps' ws' : List Float) → insert_all p g (count_of ps) ks ps (given_of g ws) (replicate j lo) ≡ gives ks' ps' ws'
      → (multiplicity_of ks' lo ≡ multiplicity_of ks lo + j) × (multiplicity_of ks' hi ≡ multiplicity_of ks hi)
  low-loop j ks' ps' ws' e =
      let R = repeated p g (count_of ps) ks ps (given_of g ws) o.curve.knots lo j ks' ps' ws' e in
      (R.multiplicity lo ∙ rw (eq_self lo range.low) (omega arith), R.multiplicity hi ∙ rw (lt-not-eq lo hi range.less) (omega arith))

  -- ---- what the loops leave
  module _ (ks' ps' ws' : List Float) (e : insert_all p g (count_of ps) ks ps (given_of g ws) (ends_of p ks lo hi) ≡ gives ks' ps' ws') where
    -- both ends stand degree + 1 times, the knots below them are as many as the definition says
    pub ends-full : Cut p (count_of ps) ks lo hi ks'
    unfolding ends_of
    ends-full = cut-made p g (count_of ps) ks ps (given_of g ws) o.curve.knots lo hi range.low range.high range.less ks' ps' ws' e

    -- the source's last - first
    pub kept-is : kept_of p ks lo hi ≡ below_of ks' hi - below_of ks' lo
    unfolding kept_of
    kept-is = omega (arith, ends-full.below-low, ends-full.below-high)

    pub ends-valid : ValidKnots p (count_of ps + length (ends_of p ks lo hi)) ks'
    ends-valid = (made p g (count_of ps) ks ps (given_of g ws) (ends_of p ks lo hi) ks' ps' ws' o.curve.knots e).valid

    -- below_of is the partition point: every knot before it is below, and none from it on
    pub partition-first : (u : Float) (j : ℕ) → j < below_of ks' u → lt (at ks' j) u ≡ true
    partition-first = below-first p (count_of ps + length (ends_of p ks lo hi)) ks' ends-valid

    pub partition-rest : (u : Float) (j : ℕ) → j < length ks' → below_of ks' u ≤ j → lt (at ks' j) u ≡ false
    partition-rest = below_rest p (count_of ps + length (ends_of p ks lo hi)) ks' ends-valid

    -- ---- the knots of the cut are valid
    abbrev F : ℕ
    F = below_of ks lo

    abbrev M : ℕ
    M = kept_of p ks lo hi

    abbrev cut : List Float
    cut = take (M + p + 1) (drop F ks')

    pub kept-most : (p < M) × (F + M ≡ below_of ks' hi) × (F + M + p + 1 ≤ length ks')
    kept-most =
        let E = ends-full in
        let x = below-past p (count_of ps + length (ends_of p ks lo hi)) ks' ends-valid lo hi range.low range.less in
        let y = below-room ks' hi in
        let k = kept-is in
        let l = E.below-low in
        let m = E.full-low in
        let h = E.full-high in
        (omega arith, omega arith, omega arith)

    cut-long : length cut ≡ M + p + 1
    cut-long = let k = kept-most in length-take (M + p + 1) (drop F ks') ∙ omega (arith, length-drop F ks', k.2)

    pub cut_at : (j : ℕ) → j < M + p + 1 → at cut j ≡ at ks' (F + j)
    cut_at j b = get_or-take (M + p + 1) (drop F ks') j nan b ∙ get_or-drop F ks' j nan

    cut-domain : lt (at ks' (F + p)) (at ks' (F + M)) ≡ true
    cut-domain =
        let k = kept-most in
        let c = k.0 in
        let q = k.1 in
        let r = k.2 in
        lt-ge-trans (at ks' (F + p)) hi (at ks' (F + M)) (ends-valid.finites (F + M) (omega arith)) (partition-first hi (F + p) (omega arith)) (partition-rest hi (F + M) (omega arith) (omega arith))

    cut-width : finite (sub binary64 (at ks' (F + M)) (at ks' (F + p))) ≡ true
    cut-width =
        let k = kept-most in
        let c = k.0 in
        let r = k.2 in
        let v = ends-valid in
        let l = v.long in
        let N = count_of ps + length (ends_of p ks lo hi) in
        narrower (at ks' p) (at ks' N) (at ks' (F + p)) (at ks' (F + M)) (v.finites p (omega arith)) (v.finites N (omega arith)) (v.finites (F + p) (omega arith)) (v.finites (F + M) (omega arith))
        (sorted p N ks' v p (F + p) (omega arith) (omega arith)) cut-domain (sorted p N ks' v (F + M) N (omega arith) (omega arith)) v.width

    pub cut-valid : ValidKnots p M cut
    cut-valid =
        let k = kept-most in
        let c = k.0 in
        let r = k.2 in
        let l = cut-long in
        let v = ends-valid in
        record {
          degree = v.degree;
          count = c;
          long = l;
          finites = λ j b. ap finite (cut_at j (omega arith)) ∙ v.finites (F + j) (omega arith);
          rises = λ j b.
              let s : F + (j + 1) ≡ F + j + 1 = omega arith in
              ap₂ lt (cut_at (j + 1) (omega arith) ∙ ap (at ks') s) (cut_at j (omega arith)) ∙ v.rises (F + j) (omega arith);
          domain = ap₂ lt (cut_at p (omega arith)) (cut_at M (omega arith)) ∙ cut-domain;
          width = ap₂ (λ (x y : Float). finite (sub binary64 x y)) (cut_at M (omega arith)) (cut_at p (omega arith)) ∙ cut-width;
          multiplicity = λ j b.
              let s : F + (j + (p + 1)) ≡ F + j + (p + 1) = omega arith in
              ap₂ lt (cut_at j (omega arith)) (cut_at (j + (p + 1)) (omega arith) ∙ ap (at ks') s) ∙ v.multiplicity (F + j) (omega arith);
        }

    -- ---- its points and weights are valid, as those of every curve that is formed: its check never refuses
    ends-controls : ValidControls (count_of ps + length (ends_of p ks lo hi)) ps' g ws'
    ends-controls = made-controls p g (count_of ps) ks ps (given_of g ws) (ends_of p ks lo hi) ks' ps' ws' (given-controls (count_of ps) ps g ws o.curve.controls) e

    pub cut-accepted : cut_refusal p g F M ks' ps' ws' ≡ accepted
    unfolding cut_refusal
    cut-accepted = formed-not-refused p M cut (take (M * 3) (drop (F * 3) ps')) g (take (given g M) (drop F ws')) cut-valid
        (window (count_of ps + length (ends_of p ks lo hi)) F M ps' g ws' (let k = kept-most in let r = k.2 in let l = ends-valid.long in omega arith) ends-controls)
