-- Rounding p / 2h to the nearest whole number, a tie to the even one, by one division: h - 1 is added before it, and 1 more where the whole part is odd. Assumes nothing.
use mathlib.Core.Path.{◌≡◌, refl, sym, ap, ◌∙◌, subst}
use Prim.Native.Nat.{ℕ, zero, suc, ◌+◌, ◌-◌, ◌*◌, ◌/◌, ◌%◌, ◌≤◌, ◌<◌, compare, Ordering}
use native.Mathlib.Nat.{lt_irrefl, lt_trans, zero-lt-suc, add-zero, suc-mul, div-add-mod', mod-lt, div-eq_of_lt, mod-eq_of_lt}
use native.Mathlib.Numerals.{add-one}
use native.Mathlib.Omega.{arith}
use mathlib.Core.Bool.{not}
use lib.Dec.{T, is_le, compare_is_eq, leb→le, nleb→lt, eqb→eq, eqb, eqb_refl}
use lib.Arith.{digits_div, lt_of_le-ne}
use lib.Ieee.{nearest}
use lib.Ieee.Nearest.{closest}

-- what a comparison says
abbrev Compared : Ordering → ℕ → ℕ → Type 0
Compared Ordering.lt a b = a < b
Compared Ordering.eq a b = a ≡ b
Compared Ordering.gt a b = b < a

compared : (a b : ℕ) → Compared (compare a b) a b
compared a b = go (compare a b) (leb→le a b) (nleb→lt a b) (eqb→eq a b) (λ (e : a ≡ b). subst (λ (x : ℕ). T (eqb a x)) e (eqb_refl a))
  where
    go : (o : Ordering) → (T (is_le o) → a ≤ b) → (T (not (is_le o)) → b < a) → (T (compare_is_eq o) → a ≡ b) → (a ≡ b → T (compare_is_eq o)) → Compared o a b
    go Ordering.lt h k e n = lt_of_le-ne (h tt) n
    go Ordering.eq h k e n = e tt
    go Ordering.gt h k e n = k tt

module _ (q d h r : ℕ) (D : d ≡ h * 2) (R : r < d) where
  stays : (s : ℕ) → s < d → (q * d + s) / d ≡ q
  stays s l = digits_div q l

  moves : (s : ℕ) → d ≤ s → s < d + d → (q * d + s) / d ≡ suc q
  moves s l k =
      let e : suc q * d ≡ q * d + d = suc-mul q d in
      let e2 : q * d + s ≡ suc q * d + (s - d) = omega arith in
      ap (λ (z : ℕ). z / d) e2 ∙ digits_div (suc q) (omega arith)

  tie : (o : ℕ) → q % 2 ≡ o → o < 2 → r * 2 ≡ d → (q * d + (r + (h - 1) + o)) / d ≡ q + o
  tie zero e l t = stays (r + (h - 1) + 0) (omega arith) ∙ sym (add-zero q)
  tie (suc zero) e l t = moves (r + (h - 1) + 1) (omega arith) (omega arith) ∙ sym (add-one q)
  tie (suc (suc o)) e l t = absurd (no o l)
    where
      no : (o : ℕ) → suc (suc o) < 2 → ⊥
      no o l = omega arith

  rounds : (o : Ordering) → Compared o (r * 2) d → (q * d + (r + (h - 1) + q % 2)) / d ≡ nearest q o
  rounds Ordering.lt t = stays (r + (h - 1) + q % 2) (omega (arith, mod-lt q (zero-lt-suc 1)))
  rounds Ordering.eq t = tie (q % 2) refl (mod-lt q (zero-lt-suc 1)) t
  rounds Ordering.gt t = moves (r + (h - 1) + q % 2) (omega arith) (omega (arith, mod-lt q (zero-lt-suc 1)))

pub half-added : (p h : ℕ) → 0 < h → (p + (h - 1) + p / (h * 2) % 2) / (h * 2) ≡ closest p (h * 2)
half-added p h H = ap (λ (z : ℕ). z / d) (regroup (q * d) (p % d) (h - 1) (q % 2) p (div-add-mod' p d)) ∙ rounds q d h (p % d) refl (mod-lt p (omega arith)) (compare (p % d * 2) d) (compared (p % d * 2) d)
  where
    d : ℕ
    d = h * 2

    q : ℕ
    q = p / (h * 2)

    regroup : (a r k o p : ℕ) → a + r ≡ p → p + k + o ≡ a + (r + k + o)
    regroup a r k o p e = omega arith

-- less than half of the divisor rounds to 0
pub less-than-half : (a b : ℕ) → a * 2 < b → closest a b ≡ 0
less-than-half a b h =
    let l : a < b = omega arith in
    ap (λ (z : ℕ). nearest z (compare (a % b * 2) b)) (div-eq_of_lt l) ∙ ap (λ (z : ℕ). nearest 0 (compare (z * 2) b)) (mod-eq_of_lt l) ∙ go (compare (a * 2) b) (compared (a * 2) b)
  where
    go : (o : Ordering) → Compared o (a * 2) b → nearest 0 o ≡ 0
    go Ordering.lt t = refl
    go Ordering.eq t = refl
    go Ordering.gt t = absurd (lt_irrefl b (lt_trans t h))
