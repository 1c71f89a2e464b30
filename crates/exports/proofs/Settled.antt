-- A made curve's refusal, or the answer of an edit or of many rows, put where its contract only names it.
-- Assumes nothing.
use Rattle.std.specs.Prelude.{Result}
use Rattle.edits.specs.declared.answer.FormedCurve.{FormedCurve}
use Prim.Native.Nat.{ℕ}
use mathlib.Core.Bool.{Bool}
use mathlib.Core.Path.{◌≡◌, ◌∙◌, ap, subst}
use mathlib.Core.List.{List}
use lib.ListN.{length}
use lib.Ieee.{Float}
use Rattle.knots.specs.declared.refusal.Refusal.{Refusal}
use Rattle.knots.specs.Refusal.{accepted, checked}
use Rattle.exports.proofs.Plain.{reverse-plain, iso-plain}
use Rattle.made.specs.Reverse.{reverse_refusal, ReverseMeets}
use Rattle.made.specs.IsoCurve.{iso_refusal, IsoMeets}
use Rattle.exports.specs.Tables.{packed_of}
use Rattle.edits.specs.Outcome.{Outcome}
use Rattle.edits.specs.Whole.{answer_of, EditMeets}
use Rattle.exports.specs.Edits.{edit_number}
use Rattle.many.specs.Rows.{answer, RowsMeet}

pub settled-reverse : {p : ℕ} {ks ps : List Float} {g : Bool} {ws : List Float} {a b c : ℕ} {k₁ p₁ w₁ : List Float} {r : Result (Unit {0}) Refusal} {n : ℕ}
    → ((x : Refusal) → (x.number ≡ 0 → x ≡ accepted) → r ≡ checked x → n ≡ packed_of x) → ReverseMeets p ks ps g ws a b c k₁ p₁ w₁ r
    → (n ≡ packed_of (reverse_refusal p ks ps g ws a b c)) × ReverseMeets p ks ps g ws a b c k₁ p₁ w₁ (checked (reverse_refusal p ks ps g ws a b c))
settled-reverse {p} {ks} {ps} {g} {ws} {a} {b} {c} {k₁} {p₁} {w₁} e h =
    (e _ (reverse-plain p ks ps g ws a b c) h.refusal, subst (λ (x : Result (Unit {0}) Refusal). ReverseMeets p ks ps g ws a b c k₁ p₁ w₁ x) h.refusal h)

pub settled-iso : {p q : ℕ} {us vs : List Float} {m n : ℕ} {ps : List Float} {g : Bool} {ws : List Float} {u : Bool} {t : Float} {a b : ℕ} {p₁ w₁ : List Float} {r : Result (Unit {0}) Refusal} {k : ℕ}
    → ((x : Refusal) → (x.number ≡ 0 → x ≡ accepted) → r ≡ checked x → k ≡ packed_of x) → IsoMeets p q us vs m n ps g ws u t a b p₁ w₁ r
    → (k ≡ packed_of (iso_refusal p q us vs m n ps g ws u t a b)) × IsoMeets p q us vs m n ps g ws u t a b p₁ w₁ (checked (iso_refusal p q us vs m n ps g ws u t a b))
settled-iso {p} {q} {us} {vs} {m} {n} {ps} {g} {ws} {u} {t} {a} {b} {p₁} {w₁} e h =
    (e _ (iso-plain p q us vs m n ps g ws u t a b) h.refusal, subst (λ (x : Result (Unit {0}) Refusal). IsoMeets p q us vs m n ps g ws u t a b p₁ w₁ x) h.refusal h)

pub settled-edit : {p m : ℕ} {goal : Outcome} {a b c d : ℕ} {k₁ p₁ w₁ s₁ : List Float} {r : Result FormedCurve Refusal} {n : ℕ}
    → n ≡ edit_number r → EditMeets p m goal a b c d k₁ p₁ w₁ s₁ r
    → (n ≡ edit_number (answer_of p m goal)) × EditMeets p m goal a b c d k₁ p₁ w₁ s₁ (answer_of p m goal)
settled-edit {p} {m} {goal} {a} {b} {c} {d} {k₁} {p₁} {w₁} {s₁} e h =
    (e ∙ ap edit_number h.answer, subst (λ (x : Result FormedCurve Refusal). EditMeets p m goal a b c d k₁ p₁ w₁ s₁ x) h.answer h)

-- the number by any reading f of the answer
pub settled-rows : {X : Type 0} (f : Result ℕ Refusal → ℕ) {s : Refusal} {xs : List X} {g : X → List ℕ} {h : X → List Float} {a b : ℕ} {ns : List ℕ} {rs : List Float} {r : Result ℕ Refusal} {n : ℕ}
    → n ≡ f r → RowsMeet s xs g h a b ns rs r → (n ≡ f (answer s (length xs))) × RowsMeet s xs g h a b ns rs (answer s (length xs))
settled-rows f {s} {xs} {g} {h} {a} {b} {ns} {rs} e m = (e ∙ ap f m.answered, subst (λ (x : Result ℕ Refusal). RowsMeet s xs g h a b ns rs x) m.answered m)
