-- Passes over a run of figures: one that multiplies and adds, from the least significant up, and one that divides, from the most significant down.
-- Assumes nothing.
use Prim.Native.Nat.{ℕ, zero, suc, ◌+◌, ◌-◌, ◌*◌, ◌/◌, ◌%◌, ◌^◌, ◌≤◌, ◌<◌}
use mathlib.Core.Path.{◌≡◌, refl, sym, ◌∙◌, ap}
use mathlib.Core.List.{List, [], ◌∷◌, ◌++◌}
use native.Mathlib.Nat.{mul-add, add-mul, mul_assoc, mul_comm, mul_left_comm, mul-zero, zero-mul, mul-one, one-mul, pow-succ', div-add-mod', mod-lt, div-lt_iff_lt-mul, mul-le-mul, mul-suc, pow-suc}
use native.Mathlib.Numerals.{add-one}
use native.Mathlib.Omega.{arith}
use lib.ListN.{length, get_or, set, take, drop, length-set}
use lib.Arith.{digits_div}
use lib.Seq.{get_or-set_same, take-suc, take-suc-set, drop-cons, drop-set-lt, take-set-le, drop-length, length-take-le, take-length}
use Rattle.decimals.specs.Figures.{number, Figures}

ruleset ring = (mul-add, add-mul, mul_assoc, mul_comm, mul_left_comm, mul-zero, zero-mul, mul-one, one-mul)

-- ---- runs

pub set-figures : (l : List ℕ) (i x : ℕ) → x < 10 → Figures l → Figures (set l i x)
set-figures [] i x h fs j = fs j
set-figures (d ∷ l) zero x h fs zero = h
set-figures (d ∷ l) zero x h fs (suc j) = fs (suc j)
set-figures (d ∷ l) (suc i) x h fs zero = fs zero
set-figures (d ∷ l) (suc i) x h fs (suc j) = set-figures l i x h (λ k. fs (suc k)) j

-- a figure more at the end
number_more : (l : List ℕ) (x : ℕ) → number (l ++ (x ∷ [])) ≡ number l + 10 ^ length l * x
unfolding number
number_more [] x = omega arith
number_more (d ∷ l) x = rw (number_more l x, pow-succ') (simp ring (omega arith))

pub number_small : (l : List ℕ) → Figures l → number l < 10 ^ length l
unfolding number
number_small [] fs = omega arith
number_small (d ∷ l) fs =
    let rest = number_small l (λ k. fs (suc k)) in
    let first = fs 0 in
    rw pow-succ' (omega arith)

-- ---- times f, and c more

-- i figures are done, and `carry` goes on to the others
pub record Raising (goal f len : ℕ) (run : List ℕ) (carry i : ℕ) : Type 0 where
  pub long : length run ≡ len
  pub figures : Figures run
  pub within : i ≤ len
  pub small : carry ≤ 1152921504606846976
  pub sum : number (take i run) + 10 ^ i * (carry + f * number (drop i run)) ≡ goal

pub raising-start : (f c : ℕ) (run : List ℕ) → Figures run → c ≤ 1152921504606846976 → Raising (number run * f + c) f (length run) run c 0
unfolding number
raising-start f c run fs h = record { long = refl; figures = fs; within = omega arith; small = h; sum = simp ring (omega arith) }

step_sum : (P N c f d R t : ℕ) → t ≡ d * f + c → (N + P * (t % 10)) + P * 10 * (t / 10 + f * R) ≡ N + P * (c + f * (d + 10 * R))
step_sum P N c f d R t e =
    let h : P * (t / 10 * 10 + t % 10) ≡ P * (d * f + c) = ap (λ z. P * z) (div-add-mod' t 10 ∙ e) in
    simp ring (omega (arith, simp ring at h))

-- what a figure and a carry make
pub product_small : (d f carry : ℕ) → d < 10 → f ≤ 4294967296 → carry ≤ 1152921504606846976 → d * f + carry ≤ 1152921543261552640
product_small d f carry h k l = let p : d * f ≤ 9 * 4294967296 = mul-le-mul {n₂ = 9} (omega arith) k in omega arith

pub raising-step : {goal f len : ℕ} {run : List ℕ} {carry i : ℕ} → f ≤ 4294967296 → Raising goal f len run carry i → i < len →
    Raising goal f len (set run i ((get_or run i 0 * f + carry) % 10)) ((get_or run i 0 * f + carry) / 10) (i + 1)
unfolding number
raising-step {goal} {f} {len} {run} {carry} {i} hf r h =
    let d = get_or run i 0 in
    let t = d * f + carry in
    let x = t % 10 in
    let in-run : i < length run = omega (arith, r.long) in
    let many : length (take i run) ≡ i = length-take-le i run (omega arith) in
    let before : number (take (suc i) (set run i x)) ≡ number (take i run) + 10 ^ i * x =
    ap number (take-suc-set run i x in-run) ∙ number_more (take i run) x ∙ ap (λ k. number (take i run) + 10 ^ k * x) many in
    let behind : number (drop (suc i) (set run i x)) ≡ number (drop (suc i) run) = ap number (drop-set-lt (suc i) run i x (omega arith)) in
    let one : number (drop i run) ≡ d + 10 * number (drop (suc i) run) = ap number (drop-cons run i 0 in-run) in
    record {
      long = length-set run i x ∙ r.long;
      figures = set-figures run i x (mod-lt t (omega arith)) r.figures;
      within = omega arith;
      small = omega (arith, product_small d f carry (r.figures i) hf r.small);
      sum = rw (add-one, before, behind, pow-suc) (step_sum (10 ^ i) (number (take i run)) carry f d (number (drop (suc i) run)) t refl ∙ rw (← one) r.sum);
    }

-- nothing goes out at the top
pub raising-end : {goal f len : ℕ} {run : List ℕ} {carry i : ℕ} → Raising goal f len run carry i → len ≤ i → goal < 10 ^ len → number run ≡ goal
unfolding number
raising-end {goal} {f} {len} {run} {carry} {i} r h small =
    let e : i ≡ length run = omega (arith, r.long, r.within) in
    let all : take i run ≡ run = rw e (take-length run) in
    let none : drop i run ≡ [] = rw e (drop-length run) in
    let top : 10 ^ i ≡ 10 ^ len = rw (e, r.long) in
    let sum : number run + 10 ^ len * (carry + f * 0) ≡ goal = rw (all, none, top) at r.sum in
    let out : 10 ^ len * carry < 10 ^ len = omega (arith, simp ring at sum) in
    let no : carry ≡ 0 = no-carry (10 ^ len) carry out in
    omega (arith, simp ring at (rw no at sum))
  where
    no-carry : (p c : ℕ) → p * c < p → c ≡ 0
    no-carry p zero h = refl
    no-carry p (suc c) h = absurd (omega (arith, simp mul-suc at h))

-- ---- divided by g

-- i figures are left, and `rest` comes down to them
pub record Lowering (goal g len : ℕ) (run : List ℕ) (rest i : ℕ) : Type 0 where
  pub long : length run ≡ len
  pub figures : Figures run
  pub within : i ≤ len
  pub small : rest < g
  pub sum : 10 ^ i * (number (drop i run) * g + rest) + number (take i run) ≡ goal

pub lowering-start : (g : ℕ) (run : List ℕ) → Figures run → 0 < g → Lowering (number run) g (length run) run 0 (length run)
unfolding number
lowering-start g run fs h =
    record {
      long = refl;
      figures = fs;
      within = omega arith;
      small = h;
      sum = rw (take-length run, drop-length run) (simp ring (omega arith));
    }

down-sum : (P N W g rest d t : ℕ) → t ≡ rest * 10 + d → P * ((t / g + 10 * W) * g + t % g) + N ≡ P * 10 * (W * g + rest) + (N + P * d)
down-sum P N W g rest d t e =
    let h : P * (t / g * g + t % g) ≡ P * (rest * 10 + d) = ap (λ z. P * z) (div-add-mod' t g ∙ e) in
    simp ring (omega (arith, simp ring at h))

pub quotient-small : (g rest d : ℕ) → rest < g → d < 10 → (rest * 10 + d) / g < 10
quotient-small g rest d h k = let pos : 0 < g = omega arith in (div-lt_iff_lt-mul pos).1 (omega arith)

lowering-at : {goal g len : ℕ} {run : List ℕ} {rest : ℕ} (j : ℕ) → Lowering goal g len run rest (suc j) →
    Lowering goal g len (set run j ((rest * 10 + get_or run j 0) / g)) ((rest * 10 + get_or run j 0) % g) j
unfolding number
lowering-at {goal} {g} {len} {run} {rest} j l =
    let d = get_or run j 0 in
    let t = rest * 10 + d in
    let x = t / g in
    let in-run : j < length run = omega (arith, l.long, l.within) in
    let in-set : j < length (set run j x) = rw length-set in-run in
    let many : length (take j run) ≡ j = length-take-le j run (omega arith) in
    let last : number (take (suc j) run) ≡ number (take j run) + 10 ^ j * d =
    ap number (take-suc run j 0 in-run) ∙ number_more (take j run) d ∙ ap (λ k. number (take j run) + 10 ^ k * d) many in
    let front : number (take j (set run j x)) ≡ number (take j run) = ap number (take-set-le j run j x (omega arith)) in
    let behind : number (drop j (set run j x)) ≡ x + 10 * number (drop (suc j) run) =
    ap number (drop-cons (set run j x) j 0 in-set) ∙ rw (get_or-set_same run j x 0 in-run, drop-set-lt (suc j) run j x (omega arith)) in
    record {
      long = length-set run j x ∙ l.long;
      figures = set-figures run j x (quotient-small g rest d l.small (l.figures j)) l.figures;
      within = omega (arith, l.within);
      small = mod-lt t (omega (arith, l.small));
      sum = rw (front, behind) (down-sum (10 ^ j) (number (take j run)) (number (drop (suc j) run)) g rest d t refl ∙ rw (← last, ← pow-suc) l.sum);
    }

pub lowering-step : {goal g len : ℕ} {run : List ℕ} {rest i : ℕ} → Lowering goal g len run rest i → 0 < i →
    Lowering goal g len (set run (i - 1) ((rest * 10 + get_or run (i - 1) 0) / g)) ((rest * 10 + get_or run (i - 1) 0) % g) (i - 1)
lowering-step {i = zero} l h = absurd (omega arith)
lowering-step {i = suc j} l h = let e : suc j - 1 ≡ j = omega arith in rw e (lowering-at j l)

pub lowering-end : {goal g len : ℕ} {run : List ℕ} {rest i : ℕ} → Lowering goal g len run rest i → i ≡ 0 → number run ≡ goal / g
unfolding number
lowering-end {goal} {g} {len} {run} {rest} {i} l e =
    let sum : number run * g + rest ≡ goal = omega (arith, simp ring at (rw e at l.sum)) in
    sym (digits_div (number run) l.small) ∙ ap (λ z. z / g) sum
