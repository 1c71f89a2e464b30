-- A field at the front of some bytes: what is read there is what stands there, and what stands there is read.
-- Assumes nothing.
use Rattle.std.specs.Prelude.{Some, None}
use Prim.Native.Nat.{ℕ, suc, ◌+◌, ◌-◌, ◌*◌, ◌/◌, ◌%◌, ◌≤◌, ◌<◌}
use mathlib.Core.Bool.{not, cond}
use mathlib.Core.Path.{◌≡◌, refl, ◌∙◌, ap}
use mathlib.Core.List.{List, [], ◌∷◌, ◌++◌, append_assoc}
use native.Mathlib.Nat.{add-zero, not-suc-le-zero, le_of_suc-le-suc}
use native.Mathlib.Omega.{arith}
use lib.ListN.{length, get_or, drop, length-append, length-drop}
use lib.Dec.{eqb, ltb}
use lib.Seq.{get_or-drop, drop-drop, drop_at}
use borrow.Author.Tests.{le-ltb, eq-eqb, ltb-false, eqb-true, not-false}
use Rattle.record.specs.Format.{little, doubles, head, field, Patterns}
use Rattle.record.specs.Reading.{number, patterns, field_of, degree_of, run_of}
use Rattle.record.proofs.Tests.{past, held, counted, bad-is, is_same}
use Rattle.record.proofs.Little.{Bytes, bytes_drop, length-little, number_lt, little-number, number-little}
use Rattle.record.proofs.Runs.{length-doubles, length-patterns, doubles-patterns, patterns-doubles}

-- ---- any field

pub length-head : (tag n : ℕ) → length (head tag n) ≡ 3
unfolding head
length-head tag n = ap suc (length-little 2 n)

pub length-field : (tag : ℕ) (p : List ℕ) → length (field tag p) ≡ 3 + length p
unfolding field head
length-field tag p = rw (length-append, length-little) (omega arith)

-- a field and what follows, from its second byte on
field-tail : (tag : ℕ) (p rest : List ℕ) → field tag p ++ rest ≡ tag ∷ (little 2 (length p) ++ (p ++ rest))
unfolding field head
field-tail tag p rest = rw append_assoc

head-back : (l : List ℕ) → Bytes l → 3 ≤ length l → head (get_or l 0 0) (number 2 (drop 1 l)) ++ drop 3 l ≡ l
unfolding head
head-back [] b h = absurd (not-suc-le-zero h)
head-back (x ∷ l) b h = ap (λ (t : List ℕ). x ∷ t) (little-number 2 l (bytes_drop 1 (x ∷ l) b) (le_of_suc-le-suc h))

-- what each test said where a field was read
field-passed : (l : List ℕ) (tag n : ℕ) → field_of l tag ≡ Some n → (3 ≤ length l) × (get_or l 0 0 ≡ tag) × (n ≤ length l - 3) × (number 2 (drop 1 l) ≡ n)
unfolding field_of
field-passed l tag n e =
    let long = past None (Some n) bad-is _ _ e in
    let tagged = past None (Some n) bad-is _ _ long.1 in
    let whole = past None (Some n) bad-is _ _ tagged.1 in
    let m : number 2 (drop 1 l) ≡ n = is_same whole.1 in
    (ltb-false _ _ long.0, eqb-true _ _ (not-false _ tagged.0), rw m at (ltb-false (length l - 3) (number 2 (drop 1 l)) whole.0), m)

pub field_room : (l : List ℕ) (tag n : ℕ) → field_of l tag ≡ Some n → 3 + n ≤ length l
field_room l tag n e = let f = field-passed l tag n e in omega arith

pub field-sound : (l : List ℕ) (tag n : ℕ) → Bytes l → field_of l tag ≡ Some n → head tag n ++ drop 3 l ≡ l
field-sound l tag n b e = let f = field-passed l tag n e in rw (f.1, f.3) at (head-back l b f.0)

pub field-complete : (tag : ℕ) (p rest : List ℕ) → length p < 65536 → field_of (field tag p ++ rest) tag ≡ Some (length p)
unfolding field_of
field-complete tag p rest h =
    let l = little 2 (length p) ++ (p ++ rest) in
    let long : length (tag ∷ l) ≡ 3 + length p + length rest = rw (length-append, length-little, length-append) (omega arith) in
    let m : number 2 l ≡ length p = number-little 2 (length p) (p ++ rest) h in
    rw (field-tail tag p rest, m, le-ltb (length (tag ∷ l)) 3 (omega arith), eq-eqb tag tag refl, le-ltb (length (tag ∷ l) - 3) (length p) (omega arith))

-- ---- the degree

pub degree-sound : (l : List ℕ) (p : ℕ) → Bytes l → degree_of l ≡ Some p → (p < 65536) × (field 1 (little 2 p) ++ drop 5 l ≡ l)
unfolding degree_of field
degree-sound l p b e =
    let found = counted None (Some p) bad-is _ _ e in
    let two = held None (Some p) bad-is _ _ found.2 in
    let n : found.0 ≡ 2 = eqb-true _ _ two.0 in
    let e2 = found.1 ∙ ap Some n in
    let room : 5 ≤ length l = field_room l 1 2 e2 in
    let v : number 2 (drop 3 l) ≡ p = is_same two.1 in
    let rest = little-number 2 (drop 3 l) (bytes_drop 3 l b) (rw length-drop (omega arith)) in (
      rw v at (number_lt 2 (drop 3 l) (bytes_drop 3 l b)),
      rw (length-little, append_assoc, ← v, ← drop-drop 2 3 l, rest) (field-sound l 1 2 b e2),
    )

pub degree-complete : (p : ℕ) (rest : List ℕ) → p < 65536 → degree_of (field 1 (little 2 p) ++ rest) ≡ Some p
unfolding degree_of
degree-complete p rest h =
    let two = length-little 2 p in
    rw (
      field-complete 1 (little 2 p) rest (omega arith),
      two,
      field-tail 1 (little 2 p) rest,
      two,
      drop_at (little 2 2) (little 2 p ++ rest) 2 (length-little 2 2),
      number-little 2 p rest h,
    )

-- ---- a run of doubles at a place i of the bytes s: its numbers start at j, and it ends at h

module _ (s : List ℕ) (i j h tag : ℕ) (head-ends : i + 3 ≡ j) where
  pub run_sound : (n : ℕ) → Bytes s → j + 8 * n ≡ h → run_of (drop i s) tag ≡ Some n → field tag (doubles (patterns n (drop j s))) ++ drop h s ≡ drop i s
  unfolding run_of field
  run_sound n b ends e =
      let l = drop i s in
      let found = counted None (Some n) bad-is (field_of l tag) (λ m. cond (eqb (m % 8) 0) (Some (m / 8)) None) e in
      let eight = held None (Some n) bad-is _ _ found.2 in
      let whole : found.0 % 8 ≡ 0 = eqb-true _ _ eight.0 in
      let many : found.0 / 8 ≡ n = is_same eight.1 in
      let m : found.0 ≡ 8 * n = omega arith in
      let e2 = found.1 ∙ ap Some m in
      let room : 3 + 8 * n ≤ length l = field_room l tag (8 * n) e2 in
      let start : drop 3 l ≡ drop j s = rw (drop-drop, head-ends) in
      let rest : drop (8 * n) (drop j s) ≡ drop h s = rw (drop-drop, ends) in
      let left : 8 * n ≤ length (drop j s) = rw (← start) (rw length-drop (omega arith)) in
      let payload = doubles-patterns n (drop j s) (bytes_drop j s b) left in
      rw (length-doubles, length-patterns, append_assoc, ← rest, payload, ← start) (field-sound l tag (8 * n) (bytes_drop i s b) e2)

  pub run-complete : (xs rest : List ℕ) → Patterns xs → 8 * length xs < 65536 → j + 8 * length xs ≡ h → drop i s ≡ field tag (doubles xs) ++ rest →
      (run_of (drop i s) tag ≡ Some (length xs)) × (patterns (length xs) (drop j s) ≡ xs) × (drop h s ≡ rest)
  unfolding run_of
  run-complete xs rest p small ends e =
      let l = length-doubles xs in
      let start : drop j s ≡ doubles xs ++ rest =
      rw (← head-ends, ← drop-drop, e, field-tail, drop_at (little 2 (length (doubles xs))) (doubles xs ++ rest) 2 (length-little 2 _)) in
      let found = field-complete tag (doubles xs) rest (omega arith) in (
        rw (e, found, l, eq-eqb (8 * length xs % 8) 0 (omega arith)) (ap Some (omega arith)),
        rw (start, patterns-doubles xs rest p),
        rw (← ends, ← drop-drop, start, drop_at (doubles xs) rest (8 * length xs) l),
      )

-- ---- the tests of a reader at a place of the bytes

pub field-tests : (s : List ℕ) (i tag : ℕ) → field_of (drop i s) tag ≡
    cond (ltb (length s - i) 3) None
    (cond (not (eqb (get_or s i 0) tag)) None
    (cond (ltb (length s - i - 3) (number 2 (drop (i + 1) s))) None
    (Some (number 2 (drop (i + 1) s)))))
unfolding field_of
field-tests s i tag = rw (length-drop, get_or-drop i s 0 0, add-zero, drop-drop)
