-- The answers of `iso_curve`: one direction, and the choice between the two.
-- Assumes nothing.
use Prim.Native.Nat.{ℕ, zero, suc, ◌+◌, ◌-◌, ◌*◌, ◌/◌, ◌≤◌, ◌<◌}
use mathlib.Core.Bool.{Bool, true, false, not, ◌&&◌}
use mathlib.Core.Path.{◌≡◌, refl, sym, ◌∙◌, ap, ap₂, subst}
use mathlib.Core.List.{List, [], ◌∷◌, ◌++◌}
use native.Mathlib.Omega.{arith}
use lib.ListN.{length, take, drop}
use lib.Ieee.{Float, lt, binary64, mul}
use lib.Ieee.Scale.{finite}
use borrow.Author.Tests.{eq-eqb, not-false}
use Rattle.exact.specs.Scheme.{ders_of}
use Rattle.doubles.specs.Run.{at}
use Rattle.knots.specs.Below.{all_below}
use Rattle.knots.specs.Clear.{zeros}
use Rattle.std.specs.Prelude.{Result, Err}
use Rattle.std.specs.Result.{is_err}
use Rattle.knots.specs.Refusal.{refuse, checked}
use Rattle.knots.specs.declared.refusal.Reason.TheVariants.{IsoOutside, IsoWeightBad}
use Rattle.knots.specs.Knots.{ValidKnots}
use Rattle.knots.specs.Curve.{is_weight, formed_refusal}
use Rattle.knots.specs.Surface.{surface_refusal, ValidSurface}
use Rattle.knots.specs.Span.{outside, span_of}
use Rattle.knots.specs.declared.refusal.Refusal.{Refusal}
use Rattle.made.proofs.Told.{told-ok, told-err}
use Rattle.knots.proofs.Refusals.{passed, or_else-none, let_by, stopped_by, refused-first}
use Rattle.knots.proofs.Curves.{or-false}
use Rattle.knots.proofs.Surfaces.{valid-surface}
use Rattle.knots.proofs.Searches.{Within}
use Rattle.basis.specs.Floats.{floats}
use Rattle.basis.specs.Basis.{cell, left_of, right_of}
use Rattle.runs.specs.Tabulate.{tabulate}
use Rattle.basis.specs.Ders.{basis_table}
use Rattle.basis.proofs.Whole.{Reach, basis-at}
use Rattle.runs.proofs.Tabulated.{length-tabulate}
use Rattle.knots.specs.Shape.{room_refusal}
use Rattle.evaluate.specs.Surface.{degrees_refusal}
use Rattle.runs.specs.Lent.{padded}
use Rattle.evaluate.specs.Controls.{no_sums}
use Rattle.runs.specs.Weight.{weight_at}
use Rattle.runs.specs.Point.{point_of}
use Rattle.made.specs.Iso.{place_of, iso_term, iso_part, iso_sums, iso_coordinate, iso_weight, IsoReach, IsoDone}
use Rattle.made.specs.IsoCurve.{Side, hull_of, iso_points, iso_weights, iso_outside, along_start, along_refusal, AlongDone, iso_side, iso_hull, iso_start, iso_refusal, IsoMeets}
use Rattle.evaluate.specs.declared.sums.Sums.{Sums}
use Rattle.evaluate.proofs.Summed.{sums-cong}
use Rattle.knots.proofs.Shapes.{room_open}
use Rattle.evaluate.proofs.Nets.{net-place}
use Rattle.evaluate.proofs.Surfaces.{degrees-open, size_is}
use Rattle.runs.proofs.Overlays.{stored, take-padded, left-refused, left-answered}

-- ---- a parameter that is not outside
pub within : (p n : ℕ) (ks : List Float) (t : Float) → iso_outside p n ks t ≡ false → Within p n ks t
unfolding iso_outside outside
within p n ks t h =
    let f = or-false (not (finite t)) _ h in
    let l = or-false (lt t (at ks p)) _ f.1 in
    record { parameter = not-false _ f.0; low = l.0; high = l.1 }

-- ---- what is made of the table is the hull
module _ (ps : List Float) (g : Bool) (ws : List Float) (u : Bool) (n : ℕ) where
  -- homogeneous points depend only on the basis functions that they use
  iso-cong : (b : ℕ) (f h : ℕ → Float) (c k : ℕ) → ((j : ℕ) → j < c → f j ≡ h j) → iso_sums ps g ws u n b f c k ≡ iso_sums ps g ws u n b h c k
  unfolding iso_sums iso_part
  iso-cong b f h c k e =
      sums-cong no_sums (iso_part ps g ws u n b f k) (iso_part ps g ws u n b h k) c
      (λ j l. ap (λ (x : Float). iso_term (point_of ps (place_of u n (b + j) k)) (mul binary64 (weight_at g ws (place_of u n (b + j) k)) x)) (e j l))

  pub hull-is : (d : Side) (t : Float) (s : ℕ) → s ≡ span_of d.degree d.count d.knots t → Reach 195 d.degree 0 d.knots s
      → (ders : List Float) → ders ≡ basis_table 195 d.degree 0 d.knots s t → (k : ℕ)
      → iso_sums ps g ws u n (s - d.degree) (cell ders 0) (d.degree + 1) k ≡ hull_of ps g ws n u d t k
  unfolding hull_of
  hull-is d t s S R ders D k =
      iso-cong (s - d.degree) (cell ders 0) (ders_of floats (left_of d.knots s t) (right_of d.knots s t) d.degree 0) (d.degree + 1) k
      (λ j l. ap (λ (x : List Float). cell x 0 j) D ∙ basis-at d.degree 0 d.knots s t 195 R 0 j (omega arith) (omega arith))
      ∙ ap (λ (i : ℕ). iso_sums ps g ws u n (i - d.degree) (ders_of floats (left_of d.knots i t) (right_of d.knots i t) d.degree 0) (d.degree + 1) k) S

  -- the places that it reads
  pub strip-in : (m p s count c : ℕ) → p ≤ s → s < count → ((i : ℕ) → i < count → (k : ℕ) → k < c → place_of u n i k < m) → (k : ℕ) → k < c → IsoReach m u n (s - p) p k
  strip-in m p s count c P S h k K j J = h (s - p + j) (omega arith) k K

-- ---- the same over functions that agree
below-cong : (f g : ℕ → Bool) (n : ℕ) → ((k : ℕ) → f k ≡ g k) → all_below f n ≡ all_below g n
unfolding all_below
below-cong f g zero e = refl
below-cong f g (suc n) e = ap₂ (λ (x y : Bool). x && y) (below-cong f g n e) (e n)

tabulate-cong : (f g : ℕ → Float) (n : ℕ) → ((k : ℕ) → f k ≡ g k) → tabulate n f ≡ tabulate n g
tabulate-cong f g zero e = refl
tabulate-cong f g (suc n) e = ap₂ (λ (x : Float) (l : List Float). x ∷ l) (e 0) (tabulate-cong (λ k. f (suc k)) (λ k. g (suc k)) n (λ k. e (suc k)))

coordinate-cong : (f g : ℕ → Sums) → ((k : ℕ) → f k ≡ g k) → (i : ℕ) → iso_coordinate f i ≡ iso_coordinate g i
unfolding iso_coordinate
coordinate-cong f g e i = simp (e (i / 3))

done-cong : (f g : ℕ → Sums) (c : ℕ) (p₀ w₀ p₁ w₁ : List Float) (r : Bool) → ((k : ℕ) → f k ≡ g k) → IsoDone f c p₀ w₀ p₁ w₁ r → IsoDone g c p₀ w₀ p₁ w₁ r
done-cong f g c p₀ w₀ p₁ w₁ r e D = record {
  answer = D.answer ∙ below-cong (λ k. is_weight (f k).w) (λ k. is_weight (g k).w) c (λ k. ap (λ (x : Sums). is_weight x.w) (e k));
  points = λ q. D.points q ∙ ap (λ (l : List Float). l ++ drop (c * 3) p₀) (tabulate-cong (iso_coordinate f) (iso_coordinate g) (c * 3) (coordinate-cong f g e));
  weights = λ q. D.weights q ∙ ap (λ (l : List Float). l ++ drop c w₀) (tabulate-cong (iso_weight f) (iso_weight g) c (λ k. ap (λ (x : Sums). x.w) (e k)));
}

take_all : (l : List Float) (n : ℕ) → n ≡ length l → take n l ≡ l
take_all [] zero e = refl
take_all [] (suc n) e = absurd (omega arith)
take_all (x ∷ l) zero e = absurd (omega arith)
take_all (x ∷ l) (suc n) e = ap (λ (t : List Float). x ∷ t) (take_all l n (omega arith))

-- ---- along one direction
module _ (f h : ℕ → Sums) (s : Side) (p₀ w₀ p₁ w₁ : List Float) (good : Bool) (same : (k : ℕ) → f k ≡ h k) (F : IsoDone f s.other-count p₀ w₀ p₁ w₁ good) where
  D : IsoDone h s.other-count p₀ w₀ p₁ w₁ good
  D = done-cong f h s.other-count p₀ w₀ p₁ w₁ good same F

  pub along-stopped : good ≡ false → (r : Refusal) → r ≡ refuse IsoWeightBad → AlongDone h s (length p₀) (length w₀) p₁ w₁ (Err r)
  unfolding along_refusal checked
  along-stopped e r R = record { refusal = simp (sym D.answer ∙ e) (ap Err R); points = λ z. cc; weights = λ z. cc }

  pub along-formed : good ≡ true → p₀ ≡ zeros (length p₀) → w₀ ≡ zeros (length w₀) → (n : ℕ) → n ≡ length s.other-knots → (r : Result (Unit {0}) Refusal)
      → r ≡ checked (formed_refusal s.other-degree s.other-count (take n s.other-knots) (take (s.other-count * 3) p₁) true (take s.other-count w₁))
      → AlongDone h s (length p₀) (length w₀) p₁ w₁ r
  unfolding along_refusal iso_points iso_weights
  along-formed e P W n N r R =
      let c = s.other-count in
      let p = stored (c * 3) (length p₀) (iso_coordinate h) p₀ p₁ P (D.points e) in
      let w = stored c (length w₀) (iso_weight h) w₀ w₁ W (D.weights e) in
      record {
        refusal = simp (sym D.answer ∙ e) (R
            ∙ (ap (λ (x : List Float). checked (formed_refusal s.other-degree c x (take (c * 3) p₁) true (take c w₁))) (take_all s.other-knots n N)
            ∙ ap₂ (λ (x y : List Float). checked (formed_refusal s.other-degree c s.other-knots x true y))
            (take-padded (c * 3) (length p₀) (iso_points h c) p₁ (length-tabulate (c * 3) (iso_coordinate h)) p)
            (take-padded c (length w₀) (iso_weights h c) w₁ (length-tabulate c (iso_weight h)) w)));
        points = λ z. p;
        weights = λ z. w;
      }

pub along-resized : (h : ℕ → Sums) (s : Side) (a b a' b' : ℕ) (p₁ w₁ : List Float) (r : Result (Unit {0}) Refusal) → a' ≡ a → b' ≡ b → AlongDone h s a' b' p₁ w₁ r → AlongDone h s a b p₁ w₁ r
along-resized h s a b a' b' p₁ w₁ r A B F = record {
  refusal = F.refusal;
  points = λ z. F.points z ∙ ap (λ (i : ℕ). padded i (iso_points h s.other-count)) A;
  weights = λ z. F.weights z ∙ ap (λ (i : ℕ). padded i (iso_weights h s.other-count)) B;
}

-- ---- the surface
module _ (p q : ℕ) (us vs : List Float) (m n : ℕ) (ps : List Float) (g : Bool) (ws : List Float) where
  -- what no refusal says before anything is formed, of the direction that is fixed
  pub record HeldOpen (u : Bool) (t : Float) (a b : ℕ) : Type 0 where
    pub high : (iso_side p q us vs m n ps g ws u t).degree ≤ 64
    pub knots : ValidKnots (iso_side p q us vs m n ps g ws u t).degree (iso_side p q us vs m n ps g ws u t).count (iso_side p q us vs m n ps g ws u t).knots
    pub inside : iso_outside (iso_side p q us vs m n ps g ws u t).degree (iso_side p q us vs m n ps g ws u t).count (iso_side p q us vs m n ps g ws u t).knots t ≡ false
    pub places : (i : ℕ) → i < (iso_side p q us vs m n ps g ws u t).count → (k : ℕ) → k < (iso_side p q us vs m n ps g ws u t).other-count → place_of u n i k < length ps / 3
    pub weights : g ≡ true → (i : ℕ) → i < (iso_side p q us vs m n ps g ws u t).count → (k : ℕ) → k < (iso_side p q us vs m n ps g ws u t).other-count → place_of u n i k < length ws
    pub points-room : (iso_side p q us vs m n ps g ws u t).other-count * 3 ≤ a
    pub weights-room : (iso_side p q us vs m n ps g ws u t).other-count ≤ b
    pub few : (iso_side p q us vs m n ps g ws u t).other-count ≤ 1048576

  pub few-u : ValidSurface p q us vs m n ps g ws → m ≤ 1048576
  few-u s = let L = s.u.long in let S = s.short-u in omega arith

  pub few-v : ValidSurface p q us vs m n ps g ws → n ≤ 1048576
  few-v s = let L = s.v.long in let S = s.short.knots in omega arith

  place-u : (i : ℕ) → i < m → (k : ℕ) → k < n → place_of true n i k < m * n
  unfolding place_of
  place-u i I k K = net-place m n i k I K

  place-v : (i : ℕ) → i < n → (k : ℕ) → k < m → place_of false n i k < m * n
  unfolding place_of
  place-v i I k K = net-place m n k i K I

  module _ (t : Float) (a b : ℕ) where
    along-open : (x y : ℕ) (ks : List Float) (c : ℕ) → (along_start x y ks t c a b).number ≡ 0 → (iso_outside x y ks t ≡ false) × (c * 3 ≤ a) × (c ≤ b)
    unfolding along_start
    along-open x y ks c h =
        let d = passed (iso_outside x y ks t) (refuse IsoOutside) _ (λ e. omega arith) h in
        let e = or_else-none (room_refusal a (c * 3)) (room_refusal b c) d.1 in
        (d.0, room_open a (c * 3) e.0, room_open b c e.1)

    pub held-open : (u : Bool) → (iso_start p q us vs m n ps g ws u t a b).number ≡ 0 → HeldOpen u t a b
    unfolding iso_start
    held-open true h =
        let x = or_else-none (surface_refusal p q us vs m n ps g ws) _ h in
        let y = or_else-none (degrees_refusal p q) _ x.1 in
        let s = valid-surface p q us vs m n ps g ws x.0 in
        let d = degrees-open p q y.0 in
        let o = along-open p m us n y.1 in
        record {
          high = d.0;
          knots = s.u;
          inside = o.0;
          places = λ i I k K. subst (λ (l : ℕ). place_of true n i k < l) (sym (size_is p q us vs m n ps g ws s)) (place-u i I k K);
          weights = λ e i I k K. subst (λ (l : ℕ). place_of true n i k < l) (sym (s.controls.weights e)) (place-u i I k K);
          points-room = o.1;
          weights-room = o.2;
          few = few-v s;
        }
    held-open false h =
        let x = or_else-none (surface_refusal p q us vs m n ps g ws) _ h in
        let y = or_else-none (degrees_refusal p q) _ x.1 in
        let s = valid-surface p q us vs m n ps g ws x.0 in
        let d = degrees-open p q y.0 in
        let o = along-open q n vs m y.1 in
        record {
          high = d.1;
          knots = s.v;
          inside = o.0;
          places = λ i I k K. subst (λ (l : ℕ). place_of false n i k < l) (sym (size_is p q us vs m n ps g ws s)) (place-v i I k K);
          weights = λ e i I k K. subst (λ (l : ℕ). place_of false n i k < l) (sym (s.controls.weights e)) (place-v i I k K);
          points-room = o.1;
          weights-room = o.2;
          few = few-u s;
        }

    -- what was done along a direction is what is asked for where that direction is
    pub chosen : (u x : Bool) → u ≡ x → (p₁ w₁ : List Float) (r : Result (Unit {0}) Refusal) → AlongDone (iso_hull p q us vs m n ps g ws x t) (iso_side p q us vs m n ps g ws x t) a b p₁ w₁ r
        → AlongDone (iso_hull p q us vs m n ps g ws u t) (iso_side p q us vs m n ps g ws u t) a b p₁ w₁ r
    chosen u x e p₁ w₁ r = subst (λ (y : Bool). AlongDone (iso_hull p q us vs m n ps g ws y t) (iso_side p q us vs m n ps g ws y t) a b p₁ w₁ r) (sym e)

    -- ---- the answers
    module _ (u : Bool) where
      iso-stopped : (r : Refusal) → Err r ≡ checked (iso_refusal p q us vs m n ps g ws u t a b) → (p₁ w₁ : List Float) → p₁ ≡ zeros a → w₁ ≡ zeros b
          → IsoMeets p q us vs m n ps g ws u t a b p₁ w₁ (Err r)
      iso-stopped r e p₁ w₁ P W = let h = (stopped_by _ e).1 in record { refusal = e; points = left-refused _ a _ p₁ h P; weights = left-refused _ b _ w₁ h W }

      pub iso-refused : {r : Refusal} → Err r ≡ checked (iso_start p q us vs m n ps g ws u t a b) → (p₁ w₁ : List Float) → p₁ ≡ zeros a → w₁ ≡ zeros b
          → IsoMeets p q us vs m n ps g ws u t a b p₁ w₁ (Err r)
      unfolding iso_refusal
      iso-refused e = iso-stopped _ (refused-first _ _ e)

      module _ (z : (iso_start p q us vs m n ps g ws u t a b).number ≡ 0) (r : Result (Unit {0}) Refusal) (p₁ w₁ : List Float)
          (F : AlongDone (iso_hull p q us vs m n ps g ws u t) (iso_side p q us vs m n ps g ws u t) a b p₁ w₁ r) where
        refusal_is : r ≡ checked (iso_refusal p q us vs m n ps g ws u t a b)
        unfolding iso_refusal
        refusal_is = simp (eq-eqb _ 0 z) F.refusal

        pub iso-answered : is_err r ≡ false → IsoMeets p q us vs m n ps g ws u t a b p₁ w₁ r
        iso-answered h =
            let e = told-ok r h in
            let n = let_by _ (sym e ∙ refusal_is) in
            record { refusal = refusal_is; points = left-answered _ a _ p₁ n (F.points e); weights = left-answered _ b _ w₁ n (F.weights e) }

        pub iso-unformed : is_err r ≡ true → (p₂ w₂ : List Float) → p₂ ≡ zeros a → w₂ ≡ zeros b → IsoMeets p q us vs m n ps g ws u t a b p₂ w₂ r
        iso-unformed h p₂ w₂ P W =
            let x = told-err r h in
            subst (IsoMeets p q us vs m n ps g ws u t a b p₂ w₂) (sym x.1) (iso-stopped x.0 (sym x.1 ∙ refusal_is) p₂ w₂ P W)

    -- any two outcomes that the contract permits coincide
    pub iso-unique : (u : Bool) (p₁ w₁ p₂ w₂ : List Float) (r s : Result (Unit {0}) Refusal) → IsoMeets p q us vs m n ps g ws u t a b p₁ w₁ r → IsoMeets p q us vs m n ps g ws u t a b p₂ w₂ s
        → (r ≡ s) × (p₁ ≡ p₂) × (w₁ ≡ w₂)
    iso-unique u p₁ w₁ p₂ w₂ r s M N = (M.refusal ∙ sym N.refusal, M.points ∙ sym N.points, M.weights ∙ sym N.weights)
