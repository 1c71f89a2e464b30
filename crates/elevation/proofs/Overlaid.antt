-- A list over a run from a place on.
-- Assumes nothing.
use Prim.Native.Nat.{ℕ, ◌+◌, ◌-◌, ◌≤◌, ◌<◌}
use mathlib.Core.Bool.{Bool, true, false, cond}
use mathlib.Core.Path.{◌≡◌, refl, sym, ◌∙◌, ap, ap₂}
use mathlib.Core.List.{List, [], ◌∷◌, ◌++◌, append_assoc}
use native.Mathlib.Omega.{arith}
use native.Mathlib.Numerals.{add-one}
use lib.ListN.{length, set, take, drop, replicate, length-append, length-set, length-replicate, length-drop, take-append-drop}
use borrow.Rule.Slice.PartMut.{put_mid}
use lib.Seq.{length-take-le, take_at, drop-append-add, drop-drop, set_split}
use lib.Ieee.{Float}
use Rattle.knots.specs.Clear.{zeros}
use Rattle.runs.specs.Lent.{padded}
use Rattle.runs.specs.declared.vector.Vector.{Vector}
use Rattle.runs.proofs.Overlays.{drop-zeros}
use Rattle.runs.proofs.Cleared.{copied-whole}
use Rattle.edits.specs.Rows.{given}
use Rattle.edits.specs.Whole.{given_of}
use Rattle.runs.specs.Point.{three_of}
use Rattle.elevation.specs.Passes.{over}

pub over_none : (a : ℕ) (d : List Float) → over a [] d ≡ d
unfolding over
over_none a d = let e : a + 0 ≡ a = omega arith in ap (λ (i : ℕ). take a d ++ drop i d) e ∙ take-append-drop a d

pub over-long : (a : ℕ) (l d : List Float) → a + length l ≤ length d → length (over a l d) ≡ length d
unfolding over
over-long a l d h =
    length-append (take a d) (l ++ drop (a + length l) d)
    ∙ (ap₂ (λ (x y : ℕ). x + y) (length-take-le a d (omega arith)) (length-append l (drop (a + length l) d) ∙ ap (λ (x : ℕ). length l + x) (length-drop (a + length l) d)) ∙ omega arith)

-- one list after the other
pub over-over : (a b : ℕ) (l m d : List Float) → b ≡ a + length l → b ≤ length d → over b m (over a l d) ≡ over a (l ++ m) d
unfolding over
over-over a b l m d B h =
    ap (λ (x : List Float). take b x ++ (m ++ drop (b + length m) x)) (sym (append_assoc front l back))
    ∙ (ap₂ (λ (x y : List Float). x ++ (m ++ y)) (take_at (front ++ l) back b long) rest
    ∙ (append_assoc front l (m ++ drop (b + length m) d)
    ∙ ap (λ (x : List Float). front ++ x) (sym (append_assoc l m (drop (b + length m) d)) ∙ ap (λ (i : ℕ). (l ++ m) ++ drop i d) sum)))
  where
    front : List Float
    front = take a d

    back : List Float
    back = drop (a + length l) d

    long : length (front ++ l) ≡ b
    long = length-append front l ∙ (ap (λ (i : ℕ). i + length l) (length-take-le a d (omega arith)) ∙ sym B)

    sum : b + length m ≡ a + length (l ++ m)
    sum = let e = length-append l m in omega arith

    rest : drop (b + length m) ((front ++ l) ++ back) ≡ drop (b + length m) d
    rest =
        ap (λ (i : ℕ). drop (i + length m) ((front ++ l) ++ back)) (sym long)
        ∙ (drop-append-add (front ++ l) back (length m)
        ∙ (drop-drop (length m) (a + length l) d ∙ ap (λ (i : ℕ). drop (i + length m) d) (sym B)))

-- one store
pub over-one : (a : ℕ) (x : Float) (d : List Float) → a < length d → set d a x ≡ over a (x ∷ []) d
unfolding over
over-one a x d l = set_split d a x l ∙ ap (λ (i : ℕ). take a d ++ (x ∷ drop i d)) (sym (add-one a))

pub over-three : (a : ℕ) (v : Vector) (d : List Float) → a + 2 < length d → set (set (set d a v.x) (a + 1) v.y) (a + 2) v.z ≡ over a (three_of v) d
over-three a v d l =
    over-one (a + 2) v.z (set (set d a v.x) (a + 1) v.y) (simp length-set (omega arith))
    ∙ (ap (over (a + 2) (v.z ∷ []))
    (over-one (a + 1) v.y (set d a v.x) (simp length-set (omega arith))
    ∙ (ap (over (a + 1) (v.y ∷ [])) (over-one a v.x d (omega arith)) ∙ over-over a (a + 1) (v.x ∷ []) (v.y ∷ []) d refl (omega arith)))
    ∙ over-over a (a + 2) (v.x ∷ v.y ∷ []) (v.z ∷ []) d refl (omega arith))

-- a number m times: what a fill of the part from place a on leaves
pub filled : (a m k : ℕ) (t : Float) (d ys : List Float) → k ≡ m → a + m ≤ length d → ys ≡ replicate (length (take k (drop a d))) t → put_mid a k d ys ≡ over a (replicate m t) d
unfolding over
filled a m k t d ys K l E =
    let n = length-drop a d in
    let h : length (take k (drop a d)) ≡ m = length-take-le k (drop a d) (omega arith) ∙ K in
    ap₂ (λ (x y : List Float). take a d ++ (x ++ y)) (E ∙ ap (λ (i : ℕ). replicate i t) h)
    (drop-drop k a d ∙ ap (λ (i : ℕ). drop i d) (omega (arith, length-replicate m t)))

-- a weight, where there are weights
pub weight-over : (g : Bool) (i : ℕ) (w : Float) (d : List Float) → (g ≡ true → i < length d) → cond g (set d i w) d ≡ over (given g i) (given_of g (w ∷ [])) d
weight-over true i w d l = over-one i w d (l refl)
weight-over false i w d l = sym (over_none 0 d)

-- over a run of +0.0
pub over_zeros : (m : ℕ) (l d xs : List Float) → d ≡ zeros m → xs ≡ over 0 l d → xs ≡ padded m l
unfolding over padded
over_zeros m l d xs z e = e ∙ ap (λ (x : List Float). l ++ x) (ap (drop (0 + length l)) z ∙ (drop-zeros (0 + length l) m ∙ ap (λ (i : ℕ). zeros (m - i)) zero-sum))
  where
    zero-sum : 0 + length l ≡ length l
    zero-sum = omega arith

-- weights that are given are copied, and others are not
module _ (m : ℕ) (ws xs : List Float) where
  pub given-copied : (g : Bool) → g ≡ true → length ws ≤ m → xs ≡ padded m (take m ws) → xs ≡ padded m (given_of g ws)
  given-copied true e l h = h ∙ copied-whole m ws l
  given-copied false e l h = let y : ◌≡◌ {A = ℕ} 0 1 = cc in absurd (omega arith)

  pub given-left : (g : Bool) → g ≡ false → xs ≡ zeros m → xs ≡ padded m (given_of g ws)
  given-left true e z = let y : ◌≡◌ {A = ℕ} 0 1 = cc in absurd (omega arith)
  given-left false e z = over_zeros m [] xs xs z (sym (over_none 0 xs))
