-- Each contract determines the answer and the lent runs: two outcomes that it permits are one. And bytes are the record of at most one table.
-- Assumes nothing.
use Rattle.knots.specs.declared.refusal.Refusal.{Refusal}
use Rattle.record.specs.declared.read.Layout.{Layout}
use Rattle.std.specs.Prelude.{Result}
use Prim.Native.Nat.{ℕ}
use mathlib.Core.Path.{◌≡◌, sym, ◌∙◌, ap}
use mathlib.Core.List.{List}
use lib.ListN.{length}
use lib.Ieee.{Float}
use Rattle.record.specs.Format.{Table, IsRecordOf, given}
use Rattle.record.specs.Reading.{table_of, handed, numbers, Lent, ReadsLayout, ReadsNumbers}
use Rattle.runs.specs.Lent.{padded}
use Rattle.record.specs.Validated.{unvalidated, ReadsTable}
use Rattle.record.specs.Writing.{Writes}
use Rattle.record.specs.declared.table.Curve.{Curve}
use Rattle.record.proofs.Tables.{some_same, complete}

pub one_table : (s : List ℕ) (t u : Table) → IsRecordOf s t → IsRecordOf s u → t ≡ u
one_table s t u h k = some_same (sym (complete s t h) ∙ complete s u k)

pub one-layout : (s : List ℕ) (r r' : Result Layout Refusal) → ReadsLayout s r → ReadsLayout s r' → r ≡ r'
one-layout s r r' a b = a.answer ∙ sym b.answer

-- the runs after a table that was handed over
one_lent : {t u : Table} {k p w k₁ p₁ w₁ k₂ p₂ w₂ : List Float} → t ≡ u → Lent t k p w k₁ p₁ w₁ → Lent u k p w k₂ p₂ w₂ → (k₁ ≡ k₂) × (p₁ ≡ p₂) × (w₁ ≡ w₂)
one_lent {t} {u} {k} {p} {w} e a b = (
  a.knots ∙ (ap (λ (x : Table). padded (length k) (numbers x.knots)) e ∙ sym b.knots),
  a.points ∙ (ap (λ (x : Table). padded (length p) (numbers x.points)) e ∙ sym b.points),
  a.weights ∙ (ap (λ (x : Table). padded (length w) (numbers (given x.weights))) e ∙ sym b.weights),
)

module _ (s : List ℕ) (k p w k₁ p₁ w₁ k₂ p₂ w₂ : List Float) where
  pub one-reading : (r₁ r₂ : Result Layout Refusal) → ReadsNumbers s k p w k₁ p₁ w₁ r₁ → ReadsNumbers s k p w k₂ p₂ w₂ r₂ → (r₁ ≡ r₂) × (k₁ ≡ k₂) × (p₁ ≡ p₂) × (w₁ ≡ w₂)
  one-reading r₁ r₂ a b =
      let e = a.answer ∙ sym b.answer in
      let same = one_lent (ap (λ (r : Result Layout Refusal). handed r (table_of s)) e) a.runs b.runs in
      (e, same.0, same.1, same.2)

  pub one-curve : (r₁ r₂ : Result Curve Refusal) → ReadsTable s k p w k₁ p₁ w₁ r₁ → ReadsTable s k p w k₂ p₂ w₂ r₂ → (r₁ ≡ r₂) × (k₁ ≡ k₂) × (p₁ ≡ p₂) × (w₁ ≡ w₂)
  one-curve r₁ r₂ a b =
      let e = a.answer ∙ sym b.answer in
      let same = one_lent (ap (λ (r : Result Curve Refusal). handed (unvalidated r) (table_of s)) e) a.runs b.runs in
      (e, same.0, same.1, same.2)

pub one-writing : (t : Table) (before after₁ after₂ : List ℕ) (r₁ r₂ : Result ℕ Refusal) → Writes t before after₁ r₁ → Writes t before after₂ r₂ → (r₁ ≡ r₂) × (after₁ ≡ after₂)
one-writing t before after₁ after₂ r₁ r₂ a b = (a.answer ∙ sym b.answer, a.left ∙ sym b.left)
