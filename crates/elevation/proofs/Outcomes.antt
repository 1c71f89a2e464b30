-- What `elevate_degree` forms, and that any two answers which its contract permits coincide.
-- Assumes nothing.
use Rattle.std.specs.Prelude.{Result, Ok}
use Prim.Native.Nat.{ℕ, ◌/◌, ◌≤◌, ◌<◌}
use mathlib.Core.Bool.{Bool, true, false}
use mathlib.Core.Path.{◌≡◌, refl, sym, subst}
use mathlib.Core.List.{List}
use native.Mathlib.Omega.{arith}
use borrow.Author.Tests.{eq-eqb, ne_eqb}
use lib.ListN.{length}
use lib.Ieee.{Float}
use Rattle.knots.specs.Clear.{zeros}
use Rattle.knots.specs.Curve.{count_of}
use Rattle.knots.specs.declared.refusal.Refusal.{Refusal}
use Rattle.runs.specs.Lent.{padded}
use Rattle.runs.proofs.Overlays.{cleared-length, cleared}
use Rattle.edits.specs.Rows.{given}
use Rattle.edits.specs.Outcome.{Outcome, gives}
use Rattle.edits.specs.Whole.{given_of}
use Rattle.edits.specs.Passes.{OutMeets}
use Rattle.edits.specs.declared.answer.FormedCurve.{FormedCurve}
use Rattle.edits.proofs.Outcomes.{edit-unique}
use Rattle.elevation.specs.Breaks.{breaks_of}
use Rattle.elevation.specs.Elevate.{raise_all}
use Rattle.elevation.specs.Whole.{elevated_count, elevate_start, elevated, elevate_outcome, ElevateMeets}
use Rattle.elevation.proofs.Opened.{opened}

-- ---- a copy, or the raised curve
given-room : (g : Bool) (n c : ℕ) (ws : List Float) → (g ≡ true → length ws ≡ n) → given g n ≤ c → g ≡ true → length ws ≤ c
given-room true n c ws h l e = let q = h refl in omega arith
given-room false n c ws h l e = let z : ◌≡◌ {A = ℕ} 0 1 = cc in absurd (omega arith)

module _ (p : ℕ) (ks ps : List Float) (g : Bool) (ws : List Float) (e a b c : ℕ) where
  pub copy-ready : (d : ℕ) → (elevate_start p ks ps g ws e a b c d).number ≡ 0 → e ≡ p → ((length ks ≤ a) × (length ps ≤ b)) × (g ≡ true → length ws ≤ c)
  unfolding elevated_count
  copy-ready d S E =
      let O = opened p ks ps g ws e a b c d S in
      let k = O.out.knots in
      let q = O.out.points in
      let w = O.out.weights in
      let i : elevated_count p e (count_of ps) ks ≡ count_of ps = simp (eq-eqb e p E) in
      let l = O.curve.knots.long in
      let t = O.curve.triples in
      ((omega arith, omega arith), given-room g (count_of ps) c ws O.curve.controls.weights (subst (λ (x : ℕ). given g x ≤ c) i w))

  module _ (k₁ p₁ w₁ : List Float) where
    pub copied : e ≡ p → (k₁ ≡ padded a ks) × (p₁ ≡ padded b ps) × (w₁ ≡ padded c (given_of g ws)) → OutMeets a b c (elevated p ks ps g ws e) k₁ p₁ w₁ (Ok tt)
    unfolding elevated OutMeets
    copied E m =
        let q : elevated p ks ps g ws e ≡ gives ks ps (given_of g ws) = simp (eq-eqb e p E) in
        rw q ((refl, m.0, m.1, m.2))

    pub raised-up : (r : Result Unit Refusal) → (e ≡ p → ⊥) → OutMeets a b c (raise_all p e (length ps / 3) ks ps g (given_of g ws) (breaks_of p (length ps / 3) ks)) k₁ p₁ w₁ r
        → OutMeets a b c (elevated p ks ps g ws e) k₁ p₁ w₁ r
    unfolding elevated
    raised-up r h m =
        let q : elevated p ks ps g ws e ≡ raise_all p e (length ps / 3) ks ps g (given_of g ws) (breaks_of p (length ps / 3) ks) = simp (ne_eqb e p h) in
        subst (λ (o : Outcome). OutMeets a b c o k₁ p₁ w₁ r) (sym q) m

-- ---- cleared runs are as long as they were
module _ (p : ℕ) (ks ps : List Float) (g : Bool) (ws : List Float) (e a b c d : ℕ) (k₁ p₁ w₁ : List Float) (K : k₁ ≡ zeros a) (P : p₁ ≡ zeros b) (W : w₁ ≡ zeros c) where
  pub start-ready : (elevate_start p ks ps g ws e a b c d).number ≡ 0
      → ((elevate_start p ks ps g ws e (length k₁) (length p₁) (length w₁) d).number ≡ 0) × ((k₁ ≡ zeros (length k₁)) × (p₁ ≡ zeros (length p₁)) × (w₁ ≡ zeros (length w₁)))
  start-ready S = (rw (cleared-length k₁ a K, cleared-length p₁ b P, cleared-length w₁ c W) S, (cleared k₁ a K, cleared p₁ b P, cleared w₁ c W))

  pub meets-moved : (o : Outcome) (k₂ p₂ w₂ : List Float) (r : Result Unit Refusal) → OutMeets (length k₁) (length p₁) (length w₁) o k₂ p₂ w₂ r → OutMeets a b c o k₂ p₂ w₂ r
  meets-moved o k₂ p₂ w₂ r m =
      subst (λ (i : ℕ). OutMeets a b i o k₂ p₂ w₂ r) (cleared-length w₁ c W)
      (subst (λ (i : ℕ). OutMeets a i (length w₁) o k₂ p₂ w₂ r) (cleared-length p₁ b P)
      (subst (λ (i : ℕ). OutMeets i (length p₁) (length w₁) o k₂ p₂ w₂ r) (cleared-length k₁ a K) m))

-- ---- what the count of points asks
pub counted_ready : (p : ℕ) (ks ps : List Float) (g : Bool) (ws : List Float) (e a b c d : ℕ) → (elevate_start p ks ps g ws e a b c d).number ≡ 0
    → ((p < length ps / 3) × (length ps / 3 ≤ length ks) × (length ps / 3 ≤ 1048576)) × ((e ≡ p → ⊥) → e ≤ 64)
counted_ready p ks ps g ws e a b c d z =
    let O = opened p ks ps g ws e a b c d z in
    let n = O.curve.knots.count in
    let l = O.curve.knots.long in
    let s = O.curve.short.points in
    ((n, omega arith, omega arith), O.high)

-- any two outcomes that the contract permits coincide
pub elevate-unique : (p : ℕ) (ks ps : List Float) (g : Bool) (ws : List Float) (e a b c d : ℕ) (k₁ p₁ w₁ s₁ k₂ p₂ w₂ s₂ : List Float) (r q : Result FormedCurve Refusal)
    → ElevateMeets p ks ps g ws e a b c d k₁ p₁ w₁ s₁ r → ElevateMeets p ks ps g ws e a b c d k₂ p₂ w₂ s₂ q
    → (r ≡ q) × (k₁ ≡ k₂) × (p₁ ≡ p₂) × (w₁ ≡ w₂) × (s₁ ≡ s₂)
elevate-unique p ks ps g ws e a b c d k₁ p₁ w₁ s₁ k₂ p₂ w₂ s₂ r q M N =
    edit-unique e (elevated_count p e (count_of ps) ks) (elevate_outcome p ks ps g ws e a b c d) a b c d k₁ p₁ w₁ s₁ k₂ p₂ w₂ s₂ r q M N
