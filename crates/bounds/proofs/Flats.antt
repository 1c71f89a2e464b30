-- A net without derivatives in a run: what a store does to its points, and one turn of each loop over it. Assumes nothing.
use Prim.Native.Nat.{ℕ, zero, suc, ◌+◌, ◌-◌, ◌*◌, ◌≤◌, ◌<◌}
use mathlib.Core.Path.{◌≡◌, refl, sym, ◌∙◌, ap, ap₂}
use mathlib.Core.List.{List, [], ◌∷◌}
use mathlib.Core.Logic.{inl, inr}
use native.Mathlib.Nat.{eq-or-lt_of_le}
use native.Mathlib.Omega.{arith}
use lib.Dec.{ltb, ltb→lt, nltb→le}
use Rattle.doubles.proofs.TestFacts.{yes_or_no}
use lib.ListN.{length, get_or, set, length-set}
use lib.Seq.{sets, length-sets, get_or-set_same, get_or-set_other}
use lib.Ieee.{Float, nan}
use mathlib.Core.Bool.{true}
use Rattle.doubles.specs.Run.{at}
use Rattle.doubles.proofs.TestFacts.{T_of}
use Rattle.interval.specs.Ops.{point_of, sub_of}
use Rattle.interval.specs.declared.Interval.{Interval}
use Rattle.jets.specs.Jet.{constant_of}
use Rattle.ends.specs.Ends.{ends_of, factor_of, is_factor, times_of}
use Rattle.ends.proofs.Good.{points-good}
use Rattle.ends.proofs.Same.{times-same, exchanged}
use Rattle.bounds.specs.Start.{moved_of}
use Rattle.jets.specs.declared.jet.Jet.{Jet}
use Rattle.jets.specs.declared.net.Control.{Control}
use Rattle.jets.specs.Net.{share_at, mix_by, refused_by, net_of, deboor_of}
use Rattle.jets.proofs.Levels.{Walked, walked-down}
use Rattle.ends.specs.declared.flat.Flat.{Flat}
use Rattle.ends.specs.Good.{GoodPoint}
use Rattle.ends.specs.Flat.{flat_of, flat_net, flat_neighbours}
use Rattle.ends.proofs.Net.{net-good, flat-is}
use Rattle.bounds.specs.Levels.{Reached}
use Rattle.bounds.specs.Flat.{flat_at, eight_of, FilledTo}
use Rattle.bounds.proofs.Steps.{walk_end, reached-end}
use Rattle.std.specs.Prelude.{Ok}

-- ---- a coordinate by its weight's factor
pub moved_same : (p o : Float) (q : Interval) → is_factor (factor_of q) ≡ true → times_of (factor_of q) (ends_of (sub_of (point_of p) (point_of o))) ≡ ends_of (moved_of p o q).v
unfolding moved_of constant_of
moved_same p o q e = let d = sub_of (point_of p) (point_of o) in times-same q d (points-good p o) (T_of _ e) ∙ ap ends_of (sym (exchanged q d))

-- ---- stores
pub stored-eight : (l : List Float) (i : ℕ) (a b c d e f g h : Float)
    → set (set (set (set (set (set (set (set l i a) (i + 1) b) (i + 2) c) (i + 3) d) (i + 4) e) (i + 5) f) (i + 6) g) (i + 7) h ≡ sets l i (a ∷ b ∷ c ∷ d ∷ e ∷ f ∷ g ∷ h ∷ [])
stored-eight l i a b c d e f g h =
    let e1 : i + 1 ≡ suc i = omega arith in
    let e2 : i + 2 ≡ suc (suc i) = omega arith in
    let e3 : i + 3 ≡ suc (suc (suc i)) = omega arith in
    let e4 : i + 4 ≡ suc (suc (suc (suc i))) = omega arith in
    let e5 : i + 5 ≡ suc (suc (suc (suc (suc i)))) = omega arith in
    let e6 : i + 6 ≡ suc (suc (suc (suc (suc (suc i))))) = omega arith in
    let e7 : i + 7 ≡ suc (suc (suc (suc (suc (suc (suc i)))))) = omega arith in
    rw (e1, e2, e3, e4, e5, e6, e7)

-- what a run of stores leaves before it, behind it and in it
module _ {Y : Type 0} where
  sets-before : (vs l : List Y) (i k : ℕ) (d : Y) → k < i → get_or (sets l i vs) k d ≡ get_or l k d
  sets-before [] l i k d h = refl
  sets-before (v ∷ vs) l i k d h = sets-before vs (set l i v) (suc i) k d (omega arith) ∙ get_or-set_other l i k v d (λ e. omega arith)

  sets_behind : (vs l : List Y) (i k : ℕ) (d : Y) → i + length vs ≤ k → get_or (sets l i vs) k d ≡ get_or l k d
  sets_behind [] l i k d h = refl
  sets_behind (v ∷ vs) l i k d h = sets_behind vs (set l i v) (suc i) k d (omega arith) ∙ get_or-set_other l i k v d (λ e. omega arith)

  sets-at : (vs l : List Y) (i n k : ℕ) (d : Y) → n < length vs → i + length vs ≤ length l → k ≡ i + n → get_or (sets l i vs) k d ≡ get_or vs n d
  sets-at [] l i n k d h r e = absurd (omega arith)
  sets-at (v ∷ vs) l i zero k d h r e =
      let z : k ≡ i = omega arith in
      ap (λ (x : ℕ). get_or (sets (set l i v) (suc i) vs) x d) z ∙ sets-before vs (set l i v) (suc i) i d (omega arith) ∙ get_or-set_same l i v d (omega arith)
  sets-at (v ∷ vs) l i (suc n) k d h r e = sets-at vs (set l i v) (suc i) n k d (omega arith) (omega (arith, length-set l i v)) (omega arith)

module _ (net : List Float) (m : ℕ) (c : Flat) where
  abbrev put : List Float
  put = sets net (m * 8) (eight_of c)

  pub put-long : length put ≡ length net
  put-long = length-sets net (m * 8) (eight_of c)

  pub put_same : m * 8 + 8 ≤ length net → flat_at put m ≡ c
  unfolding flat_at
  put_same h =
      let f : (n k : ℕ) → n < 8 → k ≡ m * 8 + n → at put k ≡ get_or (eight_of c) n nan = λ n k l e. sets-at (eight_of c) net (m * 8) n k nan l h e in
      rw (
        f 0 (m * 8) (omega arith) (omega arith),
        f 1 (m * 8 + 1) (omega arith) refl,
        f 2 (m * 8 + 2) (omega arith) refl,
        f 3 (m * 8 + 3) (omega arith) refl,
        f 4 (m * 8 + 4) (omega arith) refl,
        f 5 (m * 8 + 5) (omega arith) refl,
        f 6 (m * 8 + 6) (omega arith) refl,
        f 7 (m * 8 + 7) (omega arith) refl,
      )

  -- a number beside point m
  beside : (i k : ℕ) → (i ≡ m → ⊥) → i * 8 ≤ k → k < i * 8 + 8 → at put k ≡ at net k
  beside i k n l h = elim (yes_or_no (ltb i m)) [
    | inl x ↦ let y = ltb→lt i m x in sets-before (eight_of c) net (m * 8) k nan (omega arith)
    | inr x ↦ elim (eq-or-lt_of_le (nltb→le i m x)) [ inl y ↦ absurd (n (sym y)) | inr y ↦ sets_behind (eight_of c) net (m * 8) k nan (omega arith) ]
  ]

  pub put_other : (i : ℕ) → (i ≡ m → ⊥) → flat_at put i ≡ flat_at net i
  unfolding flat_at
  put_other i n =
      rw (
        beside i (i * 8) n (omega arith) (omega arith),
        beside i (i * 8 + 1) n (omega arith) (omega arith),
        beside i (i * 8 + 2) n (omega arith) (omega arith),
        beside i (i * 8 + 3) n (omega arith) (omega arith),
        beside i (i * 8 + 4) n (omega arith) (omega arith),
        beside i (i * 8 + 5) n (omega arith) (omega arith),
        beside i (i * 8 + 6) n (omega arith) (omega arith),
        beside i (i * 8 + 7) n (omega arith) (omega arith),
      )

-- ---- the loop that fills
pub record InFlat (f : ℕ → Flat) (p k : ℕ) (net : List Float) (m : ℕ) : Type 0 where
  pub long : length net ≡ k
  pub high : m ≤ p + 1
  pub done : FilledTo f m net

pub flat-more : (f : ℕ → Flat) (p k : ℕ) (net : List Float) (m : ℕ) → InFlat f p k net m → m ≤ p → p * 8 + 8 ≤ k → (c : Flat) → c ≡ f m
    → (after : List Float) → after ≡ sets net (m * 8) (eight_of c) → InFlat f p k after (m + 1)
flat-more f p k net m I h r c e after k' =
    let L = I.long in
    rw k' (record {
      long = put-long net m c ∙ L;
      high = omega arith;
      done = λ i q. elim (eq-or-lt_of_le (up_to i q)) [
        | inl w ↦ rw w (put_same net m c (omega arith) ∙ e)
        | inr w ↦ put_other net m c i (λ z. omega arith) ∙ I.done i w
      ];
    })
  where
    up_to : (i : ℕ) → i < m + 1 → i ≤ m
    up_to i q = omega arith

-- ---- the loop over a level's places

module _ (ks : List Float) (p s : ℕ) (t : Jet) (c : ℕ → Control) (G : (m : ℕ) → m ≤ p → GoodPoint (c m)) (net : List Float) (l j : ℕ) (W : Walked ks p s t c flat_of (flat_at net) l j) (h : l ≤ p)
    (r : p * 8 + 8 ≤ length net) (v : Flat) (is : flat_neighbours (share_at ks p s t l j) (flat_at net (j - 1)) (flat_at net j) ≡ Ok v) where
  abbrev after : List Float
  after = sets net (j * 8) (eight_of v)

  mixed : (v ≡ flat_of (mix_by (share_at ks p s t l j) (net_of ks p s t c (l - 1) (j - 1)) (net_of ks p s t c (l - 1) j))) × (refused_by (share_at ks p s t l j) ≡ Ok tt)
  mixed =
      let top = W.top in
      flat-is (share_at ks p s t l j) _ _ v (net-good ks p s t c G (l - 1) (j - 1) (omega arith)) (net-good ks p s t c G (l - 1) j top)
      (sym (ap₂ (flat_neighbours (share_at ks p s t l j)) (W.old (j - 1) (omega arith)) (W.old j (omega arith))) ∙ is)

  here : flat_at after j ≡ flat_of (mix_by (share_at ks p s t l j) (net_of ks p s t c (l - 1) (j - 1)) (net_of ks p s t c (l - 1) j))
  here = let top = W.top in put_same net j v (omega arith) ∙ mixed.0

  pub flat-down : l < j → Walked ks p s t c flat_of (flat_at after) l (j - 1)
  flat-down = walked-down ks p s t c flat_of (flat_at net) l j W h (flat_at after) mixed.1 here (λ i n q. put_other net j v i n)

  pub flat-done : j ≤ l → Reached ks p s t flat_of c (flat_at after) (l + 1)
  flat-done q = walk_end ks p s t flat_of c (flat_at net) l j W h q (flat_at after) mixed.1 here (λ i n q. put_other net j v i n)

pub levels-end : (ks : List Float) (p s : ℕ) (t : Jet) (c : ℕ → Control) (net : List Float) (l : ℕ) → Reached ks p s t flat_of c (flat_at net) l → p < l → Ok (flat_at net p) ≡ flat_net (deboor_of ks p s t c)
levels-end ks p s t c net l R h = let z = reached-end ks p s t flat_of c (flat_at net) l R h in ap Ok z.0 ∙ sym (ap flat_net z.1)
