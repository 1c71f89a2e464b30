-- The reader's table is the format's: the table that is read is held by the bytes, and a table that the bytes hold is read.
-- Assumes nothing.
use Rattle.std.specs.Prelude.{Option, Some, None}
use Prim.Native.Nat.{ℕ, ◌+◌, ◌*◌, ◌≤◌, ◌<◌}
use mathlib.Core.Path.{◌≡◌, refl, sym, ◌∙◌, ap, subst}
use mathlib.Core.Logic.{⊎_elim}
use mathlib.Core.List.{List, [], ◌∷◌, ◌++◌, append-nil, append_assoc}
use native.Mathlib.Nat.{le_refl, le_of_eq}
use native.Mathlib.Omega.{arith}
use lib.ListN.{length, drop, length-append, drop_of_length-le}
use lib.Dec.{eqb}
use lib.Seq.{drop_at}
use borrow.Author.Tests.{le-ltb, eq-eqb, ne_eqb, ltb-false, eqb-true}
use Rattle.record.specs.Format.{little, doubles, field, optional, encode, given, Table, Patterns, IsRecordOf, Means}
use Rattle.record.specs.Reading.{patterns, degree_of, run_of, table_at, end_of, table_of}
use Rattle.record.proofs.Tests.{either, past, held, counted}
use Rattle.record.proofs.Little.{Bytes, bytes_drop, length-little}
use Rattle.record.proofs.Runs.{length-doubles, are-patterns}
use Rattle.record.proofs.Fields.{length-field, degree-sound, degree-complete, run_sound, run-complete}

none-some : {t : Table} → None ≡ Some t → ⊥
none-some {t} e = let z : ◌≡◌ {A = ℕ} 0 1 = cc in omega arith

pub some_same : {t u : Table} → Some t ≡ Some u → t ≡ u
some_same e = cc

empty : (l : List ℕ) → length l ≡ 0 → l ≡ []
empty [] e = refl
empty (x ∷ l) e = absurd (omega arith)

points-start : (k : ℕ) → 8 + 8 * k + 3 ≡ 11 + 8 * k
points-start k = omega arith

-- ---- what follows the points

module _ (s : List ℕ) (p k n : ℕ) where
  -- the weights that a table must have where the last bytes are l
  Ends : Table → Type 0
  Ends t = (ws : Option (List ℕ)) × (table_at s p k n ws ≡ t) × (optional 4 ws ≡ drop (11 + 8 * k + 8 * n) s) × Patterns (given ws)

  end-sound : (t : Table) → Bytes s → end_of s p k n ≡ Some t → Ends t
  unfolding end_of optional Ends
  end-sound t b e =
      let l = drop (11 + 8 * k + 8 * n) s in
      ⊎_elim
      (λ at-end. (None, some_same at-end.1, sym (empty l (eqb-true _ _ at-end.0)), tt))
      (λ more.
      let found = counted None (Some t) none-some (run_of l 4) _ more.1 in
      let w = found.0 in
      let last = held None (Some t) none-some _ _ found.2 in
      let long : length l ≡ 3 + 8 * w = eqb-true _ _ last.0 in
      let b' = bytes_drop (11 + 8 * k + 8 * n) s b in
      let f = run_sound l 0 3 (3 + 8 * w) 4 refl w b' refl found.1 in
      let over : drop (3 + 8 * w) l ≡ [] = drop_of_length-le l (le_of_eq long) in
      (Some (patterns w (drop 3 l)), some_same last.1, sym (append-nil _) ∙ rw over at f, are-patterns w (drop 3 l) (bytes_drop 3 l b')))
      (either (Some t) (eqb (length l) 0) _ _ e)

  end-complete : (ws : Option (List ℕ)) → Patterns (given ws) → 8 * length (given ws) < 65536 → drop (11 + 8 * k + 8 * n) s ≡ optional 4 ws → end_of s p k n ≡ Some (table_at s p k n ws)
  unfolding end_of optional
  end-complete None q small e = rw e
  end-complete (Some xs) q small e =
      let l = drop (11 + 8 * k + 8 * n) s in
      let long : length l ≡ 3 + 8 * length xs = rw (e, length-field, length-doubles) in
      let f = run-complete l 0 3 (3 + 8 * length xs) 4 refl xs [] q small refl (e ∙ sym (append-nil _)) in
      rw (ne_eqb (length l) 0 (λ z. omega arith), f.0, eq-eqb (length l) (3 + 8 * length xs) long, f.1)

-- ---- the whole record

pub sound : (s : List ℕ) (t : Table) → Bytes s → table_of s ≡ Some t → IsRecordOf s t
unfolding table_of encode Ends
sound s t b e =
    let short = past None (Some t) none-some _ _ e in
    let d = counted None (Some t) none-some (degree_of s) _ short.1 in
    let ks = counted None (Some t) none-some (run_of (drop 5 s) 2) _ d.2 in
    let k = ks.0 in
    let ps = counted None (Some t) none-some (run_of (drop (8 + 8 * k) s) 3) _ ks.2 in
    let n = ps.0 in
    let fd = degree-sound s d.0 b d.1 in
    let fk = run_sound s 5 8 (8 + 8 * k) 2 refl k b refl ks.1 in
    let fp = run_sound s (8 + 8 * k) (11 + 8 * k) (11 + 8 * k + 8 * n) 3 (points-start k) n b refl ps.1 in
    let end = end-sound s d.0 k n t b ps.2 in
    subst (λ (u : Table). IsRecordOf s u) end.1
    (record {
      bytes = rw (end.2, fp, fk, fd.1);
      short = ltb-false _ _ short.0;
      degree = fd.0;
      knots = are-patterns k (drop 8 s) (bytes_drop 8 s b);
      points = are-patterns n (drop (11 + 8 * k) s) (bytes_drop (11 + 8 * k) s b);
      weights = end.3;
    })

-- the degree, the knots and the points stand in front of the weights
unfoldable pub front : ℕ → List ℕ → List ℕ → List ℕ
front p ks ps = field 1 (little 2 p) ++ field 2 (doubles ks) ++ field 3 (doubles ps)

pub front-encode : (t : Table) → front t.degree t.knots t.points ++ optional 4 t.weights ≡ encode t
unfolding front encode
front-encode t = rw (append_assoc, append_assoc)

pub length-encode : (t : Table) → length (encode t) ≡ 11 + 8 * length t.knots + 8 * length t.points + length (optional 4 t.weights)
unfolding encode
length-encode t = simp (length-append, length-field, length-doubles, length-little) (omega arith)

-- the weights' bytes are within their field
pub length-given : (ws : Option (List ℕ)) → 8 * length (given ws) ≤ length (optional 4 ws)
unfolding optional
length-given None = le_refl _
length-given (Some xs) = rw (length-field, length-doubles) (omega arith)

-- where the parts of a held record stand
pub record Parts (s : List ℕ) (t : Table) : Type 0 where
  pub long : length s ≡ 11 + 8 * length t.knots + 8 * length t.points + length (optional 4 t.weights)
  pub degree-read : degree_of s ≡ Some t.degree
  pub knots-read : run_of (drop 5 s) 2 ≡ Some (length t.knots)
  pub knots : patterns (length t.knots) (drop 8 s) ≡ t.knots
  pub points-read : run_of (drop (8 + 8 * length t.knots) s) 3 ≡ Some (length t.points)
  pub points : patterns (length t.points) (drop (11 + 8 * length t.knots) s) ≡ t.points
  pub end : drop (11 + 8 * length t.knots + 8 * length t.points) s ≡ optional 4 t.weights

pub parts : (s : List ℕ) (t : Table) → IsRecordOf s t → Parts s t
unfolding encode
parts s t h =
    let ks = t.knots in
    let ps = t.points in
    let k = length ks in
    let n = length ps in
    let after-points = optional 4 t.weights in
    let after-knots = field 3 (doubles ps) ++ after-points in
    let after-degree = field 2 (doubles ks) ++ after-knots in
    let whole : s ≡ field 1 (little 2 t.degree) ++ after-degree = h.bytes in
    let sum = ap length h.bytes ∙ length-encode t in
    let five : length (field 1 (little 2 t.degree)) ≡ 5 = rw (length-field, length-little) in
    let at5 : drop 5 s ≡ after-degree = rw whole (drop_at (field 1 (little 2 t.degree)) after-degree 5 five) in
    let fk = run-complete s 5 8 (8 + 8 * k) 2 refl ks after-knots h.knots (omega (arith, h.short)) refl at5 in
    let fp = run-complete s (8 + 8 * k) (11 + 8 * k) (11 + 8 * k + 8 * n) 3 (points-start k) ps after-points h.points (omega (arith, h.short)) refl fk.2 in
    record {
      long = sum;
      degree-read = rw whole (degree-complete t.degree after-degree h.degree);
      knots-read = fk.0;
      knots = fk.1;
      points-read = fp.0;
      points = fp.1;
      end = fp.2;
    }

pub complete : (s : List ℕ) (t : Table) → IsRecordOf s t → table_of s ≡ Some t
unfolding table_of
complete s t h =
    let p = parts s t h in
    let in_field = length-given t.weights in
    let end = end-complete s t.degree (length t.knots) (length t.points) t.weights h.weights (omega (arith, h.short)) p.end in
    rw (le-ltb 65536 (length s) h.short, p.degree-read, p.knots-read, p.points-read, end, p.knots, p.points)

pub means : (s : List ℕ) → Bytes s → Means s (table_of s)
means s b = from (table_of s) refl
  where
    from : (o : Option Table) → table_of s ≡ o → Means s o
    from None e = λ t h. none-some (sym e ∙ complete s t h)
    from (Some t) e = sound s t b e
