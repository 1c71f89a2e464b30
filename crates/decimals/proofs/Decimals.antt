-- The text of a double's decimal: the parts that are stored, and the double's bits that they are made of.
-- Assumes nothing.
use Prim.Native.Nat.{ℕ, suc, ◌+◌, ◌-◌, ◌*◌, ◌/◌, ◌^◌, ◌≤◌, ◌<◌}
use mathlib.Core.Bool.{Bool, true, false, ◌&&◌, cond}
use mathlib.Core.Path.{◌≡◌, refl, sym, ◌∙◌}
use mathlib.Core.List.{List, [], ◌∷◌, ◌++◌, append_assoc}
use native.Mathlib.Numerals.{add-one}
use native.Mathlib.Nat.{lt_of_lt_of_le, div-lt_iff_lt-mul, le-div_iff_mul-le, pow-le-pow_right, le_trans}
use native.Mathlib.Omega.{arith}
use lib.ListN.{length, set, length-append}
use lib.Dec.{ltb}
use lib.Pow.{pow-add}
use lib.Seq.{sets}
use borrow.Author.Tests.{lt-ltb, le-ltb, ltb-true, ltb-false}
use Rattle.decimals.specs.Text.{digits, width}
use Rattle.decimals.specs.Fixed.{minus, billionths}
use Rattle.decimals.proofs.Digits.{length_digits}
use Rattle.decimals.proofs.Storing.{joined_at}
use Rattle.decimals.proofs.Places.{ten-pos, width_is}

-- q has n digits, none where it is 0
pub record Counted (q n : ℕ) : Type 0 where
  pub under : q < 10 ^ n
  pub from : 0 < n → 10 ^ (n - 1) ≤ q

module _ {q n : ℕ} (c : Counted q n) where
  pub counted-any : ltb 0 n ≡ ltb 0 q
  counted-any = go (ltb 0 n) refl
    where
      go : (t : Bool) → ltb 0 n ≡ t → t ≡ ltb 0 q
      go true e = let p = ten-pos (n - 1) in let h = c.from (ltb-true 0 n e) in sym (lt-ltb 0 q (omega arith))
      go false e = let z : n ≡ 0 = omega (arith, ltb-false 0 n e) in let h : q < 1 = rw z at c.under in sym (le-ltb 0 q (omega arith))

  pub counted-few : q < 10 ^ 318 → n ≤ 318
  counted-few h = go (ltb 318 n) refl
    where
      go : (t : Bool) → ltb 318 n ≡ t → n ≤ 318
      go true e =
          let l = ltb-true 318 n e in
          let big : 10 ^ 318 ≤ 10 ^ (n - 1) = pow-le-pow_right (omega arith) (less n l) in
          absurd (no q (10 ^ 318) h (le_trans big (c.from (some n l))))
        where
          less : (n : ℕ) → 318 < n → 318 ≤ n - 1
          less n h = omega arith

          some : (n : ℕ) → 318 < n → 0 < n
          some n h = omega arith

          no : (q p : ℕ) → q < p → p ≤ q → ⊥
          no q p h l = omega arith
      go false e = ltb-false 318 n e

-- the digits before the point
pub counted-width : (q n : ℕ) → Counted q n → n ≤ 318 → cond (ltb 10 n) (n - 9) 1 ≡ width 318 (q / 1000000000)
counted-width q n c h = go (ltb 10 n) refl
  where
    go : (t : Bool) → ltb 10 n ≡ t → cond t (n - 9) 1 ≡ width 318 (q / 1000000000)
    go true e =
        let j = n - 10 in
        let l = ltb-true 10 n e in
        let high : n ≡ suc j + 9 = omega arith in
        let low : n - 1 ≡ j + 9 = omega arith in
        let under : q < 10 ^ suc j * 1000000000 = rw (high, pow-add) at c.under in
        let from : 10 ^ j * 1000000000 ≤ q = rw (low, pow-add) at (c.from (omega arith)) in
        let wide : n - 9 ≡ suc j = omega arith in
        wide ∙ sym (width_is 318 j (q / 1000000000) (omega arith) ((div-lt_iff_lt-mul (omega arith)).1 under) (λ _. (le-div_iff_mul-le (omega arith)).1 from))
    go false e =
        let most : 10 ^ n ≤ 10 ^ 10 = pow-le-pow_right (omega arith) (ltb-false 10 n e) in
        let under : q < 10000000000 = lt_of_lt_of_le c.under most in
        sym (width_is 318 0 (q / 1000000000) (omega arith) (omega arith) (λ none. absurd (omega arith)))

pub ahead_small : (n : ℕ) → n ≤ 318 → cond (ltb 10 n) (n - 9) 1 ≤ 309
ahead_small n h = go (ltb 10 n)
  where
    go : (t : Bool) → cond t (n - 9) 1 ≤ 309
    go true = omega arith
    go false = omega arith

module _ (l : List ℕ) (at : ℕ) where
  pub billionths-stored : {o₁ o₂ o₃ : List ℕ} {start w : ℕ} (s : Bool) (q : ℕ) → o₁ ≡ sets l at (minus (s && ltb 0 q)) → start ≡ at + length (minus (s && ltb 0 q)) → start ≤ at + 1 →
      w ≡ width 318 (q / 1000000000) → w ≤ 309 → o₂ ≡ sets o₁ start (digits 10 w (q / 1000000000)) → o₃ ≡ sets (set o₂ (start + w) 46) (start + w + 1) (digits 10 9 q) →
      (o₃ ≡ sets l at (billionths s q)) × (start + w + 10 ≡ at + length (billionths s q)) × (start + w + 10 ≤ at + 330)
  unfolding billionths
  billionths-stored {o₁} {o₂} {o₃} {start} {w} s q e₁ a u ew few e₂ e₃ =
      let sign = minus (s && ltb 0 q) in
      let ahead = digits 10 w (q / 1000000000) in
      let rest = digits 10 9 q in
      let la : length ahead ≡ w = length_digits 10 w (q / 1000000000) in
      let lr : length rest ≡ 9 = length_digits 10 9 q in
      let two : length (sign ++ ahead) ≡ length sign + w = rw (length-append, la) in
      let f₂ : o₂ ≡ sets l at (sign ++ ahead) = e₂ ∙ joined_at l at sign ahead e₁ a in
      let point : start + w ≡ at + length (sign ++ ahead) = omega arith in
      let f₃ : o₃ ≡ sets l at ((sign ++ ahead) ++ (46 ∷ rest)) = e₃ ∙ rw (add-one (start + w)) (joined_at l at (sign ++ ahead) (46 ∷ rest) f₂ point) in
      let long : length (sign ++ (ahead ++ (46 ∷ rest))) ≡ length sign + (w + 10) = rw (length-append, length-append, la, lr) in
      rw (← ew) (f₃ ∙ rw append_assoc, omega arith, omega arith)

  pub inf-stored : {o₁ o₂ : List ℕ} {next r : ℕ} (s : Bool) → o₁ ≡ sets l at (minus s) → next ≡ at + length (minus s) → next ≤ at + 1 → o₂ ≡ sets o₁ next (105 ∷ 110 ∷ 102 ∷ []) → r ≡ next + 3 →
      (o₂ ≡ sets l at (minus s ++ (105 ∷ 110 ∷ 102 ∷ []))) × (r ≡ at + length (minus s ++ (105 ∷ 110 ∷ 102 ∷ []))) × (r ≤ at + 330)
  inf-stored s e₁ a u e₂ b = (e₂ ∙ joined_at l at (minus s) (105 ∷ 110 ∷ 102 ∷ []) e₁ a, rw length-append (omega arith), omega arith)
