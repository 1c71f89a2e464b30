-- `zring`, the solver's list for the integers, and the solver on them. Assumes nothing.
use Rattle.std.specs.Prelude.{◌≡◌, List, [], ◌∷◌, ℕ, T, ℤ}
use Rattle.ring.specs.Ring as Ring
use Rattle.ring.specs.Int.{◌⊞◌, ◌⊠◌, ⊟◌, z0, z1, ℤ-ring, z-combine, den, den-cancel-0}
use Rattle.ring.proofs.Solved as Solved
use Rattle.ring.proofs.Solved.{atoms}
use Rattle.ring.proofs.Solved.{Re}

abbrev pub zr-add : {l : List ℤ} {x y : ℤ} → Re ℤ-ring l x → Re ℤ-ring l y → Re ℤ-ring l (x ⊞ y)
zr-add {l} r s = Solved.re-add ℤ-ring l r s

abbrev pub zr-mul : {l : List ℤ} {x y : ℤ} → Re ℤ-ring l x → Re ℤ-ring l y → Re ℤ-ring l (x ⊠ y)
zr-mul {l} r s = Solved.re-mul ℤ-ring l r s

abbrev pub zr-neg : {l : List ℤ} {x : ℤ} → Re ℤ-ring l x → Re ℤ-ring l (⊟ x)
zr-neg {l} r = Solved.re-neg ℤ-ring l r

abbrev pub zr-0 : {l : List ℤ} → Re ℤ-ring l z0
zr-0 {l} = Solved.re-o ℤ-ring l

abbrev pub zr-1 : {l : List ℤ} → Re ℤ-ring l z1
zr-1 {l} = Solved.re-i ℤ-ring l

pub ruleset zring = (atoms, zr-0, zr-1, zr-add, zr-mul, zr-neg)

pub z-ring : (l : List ℤ) {x y : ℤ} (r : Re ℤ-ring l (x ⊞ ⊟ y)) → T (Ring.is_nil r.code) → x ≡ y
z-ring l r h = Solved.ring ℤ-ring l r h

example : (a b c : ℤ) → (a ⊞ ⊟ b) ⊠ (a ⊞ b) ⊠ c ≡ a ⊠ a ⊠ c ⊞ ⊟ (b ⊠ b ⊠ c)
example a b c = z-ring (a ∷ b ∷ c ∷ []) (search zring depth 20) tt

pub den-cancel : (a b : ℤ) (d : ℕ) → a ⊠ den d ≡ b ⊠ den d → a ≡ b
den-cancel a b d h = Ring.eq-of-sub ℤ-ring a b (den-cancel-0 (a ⊞ ⊟ b) d
    (z-combine z1 h (z-ring (a ∷ b ∷ den d ∷ []) (search zring depth 20) tt)))
