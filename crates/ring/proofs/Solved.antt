-- What the polynomials of a ring stand for, and the solver of identities.
-- Assumes nothing.
use Rattle.std.specs.Prelude.{◌≡◌, Bool, ◌&&◌, ℕ, zero, suc, eqb, leb}
use Rattle.std.proofs.Math.Path.{refl, sym, ap, ap₂}
use Rattle.std.proofs.Common.{◌∙◌, eqb→eq}
use Rattle.std.proofs.Math.Bool.{true, false}
use mathlib.Core.List.{List, [], ◌∷◌}
use Rattle.std.proofs.Math.Dec.{T}
use Rattle.ring.specs.Ring.{CommRing, plus, minus, Sg, insert, times, same, opposite, flip, mul_t, add_t, add_p, neg_p, scale_p, mul_p, is_nil, zero-add, neg-add-self, one-mul}
use Rattle.ring.specs.Ring.{add-mul, add_left_comm, mul_left_comm, mul-zero, zero-mul, mul-neg, neg-mul, neg-neg, neg-zero, neg-add, eq-of-sub}

-- ---- what the polynomials stand for, over a list of values

abbrev pub nth : {A : Type 0} → A → List A → ℕ → A
nth d [] i = d
nth d (a ∷ l) zero = a
nth d (a ∷ l) (suc i) = nth d l i

module _ {A : Type 0} {◌⊕◌ ◌⊗◌ : A → A → A} {⊖◌ : A → A} {O I : A} (R : CommRing ◌⊕◌ ◌⊗◌ ⊖◌ O I) (l : List A) where
  infixl 6 ◌⊕◌
  infixl 7 ◌⊗◌
  infix 8 ⊖◌
  mono : List ℕ → A
  mono [] = I
  mono (i ∷ m) = nth O l i ⊗ mono m

  term : Sg → A
  term (plus m) = mono m
  term (minus m) = ⊖ mono m

  pub poly : List Sg → A
  poly [] = O
  poly (t ∷ p) = term t ⊕ poly p

  mono-insert : (i : ℕ) (m : List ℕ) → mono (insert i m) ≡ nth O l i ⊗ mono m
  unfolding mono
  mono-insert i [] = refl
  mono-insert i (j ∷ m) = go (leb i j) (mono-insert i m)
    where
      go : (b : Bool) → mono (insert i m) ≡ nth O l i ⊗ mono m → mono (elim b [ true ↦ i ∷ j ∷ m | false ↦ j ∷ insert i m ]) ≡ nth O l i ⊗ (nth O l j ⊗ mono m)
      go true h = refl
      go false h = ap (λ x. nth O l j ⊗ x) h ∙ mul_left_comm R _ _ _

  mono-times : (m n : List ℕ) → mono (times m n) ≡ mono m ⊗ mono n
  unfolding mono
  mono-times [] n = sym (one-mul R (mono n))
  mono-times (i ∷ m) n = mono-insert i (times m n) ∙ ap (λ x. nth O l i ⊗ x) (mono-times m n) ∙ sym (R.mul_assoc _ _ _)

  same-eq : (m n : List ℕ) → T (same m n) → mono m ≡ mono n
  unfolding mono
  same-eq [] [] h = refl
  same-eq [] (j ∷ n) h = absurd h
  same-eq (i ∷ m) [] h = absurd h
  same-eq (i ∷ m) (j ∷ n) h = go (eqb i j) (eqb→eq i j) h (same-eq m n)
    where
      go : (b : Bool) → (T b → i ≡ j) → T (b && same m n) → (T (same m n) → mono m ≡ mono n) → nth O l i ⊗ mono m ≡ nth O l j ⊗ mono n
      go true e t r = ap₂ ◌⊗◌ (ap (nth O l) (e tt)) (r t)
      go false e t r = absurd t

  cancels : (t u : Sg) → T (opposite t u) → term t ⊕ term u ≡ O
  unfolding term
  cancels (plus m) (plus n) h = absurd h
  cancels (plus m) (minus n) h = ap (λ x. x ⊕ ⊖ mono n) (same-eq m n h) ∙ R.add-neg (mono n)
  cancels (minus m) (plus n) h = ap (λ x. ⊖ x ⊕ mono n) (same-eq m n h) ∙ neg-add-self R (mono n)
  cancels (minus m) (minus n) h = absurd h

  term-flip : (t : Sg) → term (flip t) ≡ ⊖ term t
  unfolding term
  term-flip (plus m) = refl
  term-flip (minus m) = sym (neg-neg R (mono m))

  term-mul : (t u : Sg) → term (mul_t t u) ≡ term t ⊗ term u
  unfolding term
  term-mul (plus m) (plus n) = mono-times m n
  term-mul (plus m) (minus n) = ap ⊖◌ (mono-times m n) ∙ sym (mul-neg R (mono m) (mono n))
  term-mul (minus m) (plus n) = ap ⊖◌ (mono-times m n) ∙ sym (neg-mul R (mono m) (mono n))
  term-mul (minus m) (minus n) = mono-times m n ∙ sym (neg-mul R (mono m) (⊖ mono n) ∙ ap ⊖◌ (mul-neg R (mono m) (mono n)) ∙ neg-neg R _)

  poly-add_t : (t : Sg) (p : List Sg) → poly (add_t t p) ≡ term t ⊕ poly p
  unfolding poly
  poly-add_t t [] = refl
  poly-add_t t (u ∷ p) = go (opposite t u) (cancels t u) (poly-add_t t p)
    where
      go : (b : Bool) → (T b → term t ⊕ term u ≡ O) → poly (add_t t p) ≡ term t ⊕ poly p
          → poly (elim b [ true ↦ p | false ↦ u ∷ add_t t p ]) ≡ term t ⊕ (term u ⊕ poly p)
      go true c h = sym (sym (R.add_assoc (term t) (term u) (poly p)) ∙ ap (λ x. x ⊕ poly p) (c tt) ∙ zero-add R (poly p))
      go false c h = ap (λ x. term u ⊕ x) h ∙ add_left_comm R _ _ _

  pub poly-add_p : (p q : List Sg) → poly (add_p p q) ≡ poly p ⊕ poly q
  unfolding poly
  poly-add_p [] q = sym (zero-add R (poly q))
  poly-add_p (t ∷ p) q = poly-add_t t (add_p p q) ∙ ap (λ x. term t ⊕ x) (poly-add_p p q) ∙ sym (R.add_assoc _ _ _)

  pub poly-neg_p : (p : List Sg) → poly (neg_p p) ≡ ⊖ poly p
  unfolding poly
  poly-neg_p [] = sym (neg-zero R)
  poly-neg_p (t ∷ p) = ap₂ ◌⊕◌ (term-flip t) (poly-neg_p p) ∙ sym (neg-add R (term t) (poly p))

  poly-scale_p : (t : Sg) (p : List Sg) → poly (scale_p t p) ≡ term t ⊗ poly p
  unfolding poly
  poly-scale_p t [] = sym (mul-zero R (term t))
  poly-scale_p t (u ∷ p) = poly-add_t (mul_t t u) (scale_p t p) ∙ ap₂ ◌⊕◌ (term-mul t u) (poly-scale_p t p) ∙ sym (R.mul-add _ _ _)

  pub poly-mul_p : (p q : List Sg) → poly (mul_p p q) ≡ poly p ⊗ poly q
  unfolding poly
  poly-mul_p [] q = sym (zero-mul R (poly q))
  poly-mul_p (t ∷ p) q = poly-add_p (scale_p t q) (mul_p p q) ∙ ap₂ ◌⊕◌ (poly-scale_p t q) (poly-mul_p p q) ∙ sym (add-mul R (term t) (poly p) (poly q))

  -- x is the polynomial p
  pub record Re (x : A) : Type 0 where
    pub code : List Sg
    pub is : poly code ≡ x

  abbrev pub re-add : {x y : A} → Re x → Re y → Re (x ⊕ y)
  re-add r s = record { code = add_p r.code s.code; is = poly-add_p r.code s.code ∙ ap₂ ◌⊕◌ r.is s.is }

  abbrev pub re-mul : {x y : A} → Re x → Re y → Re (x ⊗ y)
  re-mul r s = record { code = mul_p r.code s.code; is = poly-mul_p r.code s.code ∙ ap₂ ◌⊗◌ r.is s.is }

  abbrev pub re-neg : {x : A} → Re x → Re (⊖ x)
  re-neg r = record { code = neg_p r.code; is = poly-neg_p r.code ∙ ap ⊖◌ r.is }

  pub poly-nil : poly [] ≡ O
  unfolding poly
  poly-nil = refl

  pub poly-one : poly (plus [] ∷ []) ≡ I
  unfolding poly term mono
  poly-one = R.add-zero I

  pub poly-var : (i : ℕ) → poly (plus (i ∷ []) ∷ []) ≡ nth O l i
  unfolding poly term mono
  poly-var i = R.add-zero (nth O l i ⊗ I) ∙ R.mul-one (nth O l i)

  abbrev pub re-o : Re O
  re-o = record { code = []; is = poly-nil }

  abbrev pub re-i : Re I
  re-i = record { code = plus [] ∷ []; is = poly-one }

  abbrev pub re-var : (i : ℕ) → Re (nth O l i)
  re-var i = record { code = plus (i ∷ []) ∷ []; is = poly-var i }

  nil-zero : (p : List Sg) → T (is_nil p) → poly p ≡ O
  unfolding poly
  nil-zero [] h = refl
  nil-zero (t ∷ p) h = absurd h

  -- the identity x ≡ y, from the polynomial of x - y
  pub ring : {x y : A} (r : Re (x ⊕ ⊖ y)) → T (is_nil r.code) → x ≡ y
  ring {x} {y} r h = eq-of-sub R x y (sym r.is ∙ nil-zero r.code h)

module _ {A : Type 0} {◌⊕◌ ◌⊗◌ : A → A → A} {⊖◌ : A → A} {O I : A} (R : CommRing ◌⊕◌ ◌⊗◌ ⊖◌ O I) where
  -- the atom at each place, one rule a place: what `search` looks through
  abbrev pub at0 : {a : A} {l : List A} → Re R (a ∷ l) a
  at0 {a} {l} = re-var R (a ∷ l) 0

  abbrev pub at1 : {a b : A} {l : List A} → Re R (a ∷ b ∷ l) b
  at1 {a} {b} {l} = re-var R (a ∷ b ∷ l) 1

  abbrev pub at2 : {a b c : A} {l : List A} → Re R (a ∷ b ∷ c ∷ l) c
  at2 {a} {b} {c} {l} = re-var R (a ∷ b ∷ c ∷ l) 2

  abbrev pub at3 : {a b c d : A} {l : List A} → Re R (a ∷ b ∷ c ∷ d ∷ l) d
  at3 {a} {b} {c} {d} {l} = re-var R (a ∷ b ∷ c ∷ d ∷ l) 3

  abbrev pub at4 : {a b c d e : A} {l : List A} → Re R (a ∷ b ∷ c ∷ d ∷ e ∷ l) e
  at4 {a} {b} {c} {d} {e} {l} = re-var R (a ∷ b ∷ c ∷ d ∷ e ∷ l) 4

  abbrev pub at5 : {a b c d e f : A} {l : List A} → Re R (a ∷ b ∷ c ∷ d ∷ e ∷ f ∷ l) f
  at5 {a} {b} {c} {d} {e} {f} {l} = re-var R (a ∷ b ∷ c ∷ d ∷ e ∷ f ∷ l) 5

  abbrev pub at6 : {a b c d e f g : A} {l : List A} → Re R (a ∷ b ∷ c ∷ d ∷ e ∷ f ∷ g ∷ l) g
  at6 {a} {b} {c} {d} {e} {f} {g} {l} = re-var R (a ∷ b ∷ c ∷ d ∷ e ∷ f ∷ g ∷ l) 6

  abbrev pub at7 : {a b c d e f g h : A} {l : List A} → Re R (a ∷ b ∷ c ∷ d ∷ e ∷ f ∷ g ∷ h ∷ l) h
  at7 {a} {b} {c} {d} {e} {f} {g} {h} {l} = re-var R (a ∷ b ∷ c ∷ d ∷ e ∷ f ∷ g ∷ h ∷ l) 7

  abbrev pub at8 : {a b c d e f g h i : A} {l : List A} → Re R (a ∷ b ∷ c ∷ d ∷ e ∷ f ∷ g ∷ h ∷ i ∷ l) i
  at8 {a} {b} {c} {d} {e} {f} {g} {h} {i} {l} = re-var R (a ∷ b ∷ c ∷ d ∷ e ∷ f ∷ g ∷ h ∷ i ∷ l) 8

  abbrev pub at9 : {a b c d e f g h i j : A} {l : List A} → Re R (a ∷ b ∷ c ∷ d ∷ e ∷ f ∷ g ∷ h ∷ i ∷ j ∷ l) j
  at9 {a} {b} {c} {d} {e} {f} {g} {h} {i} {j} {l} = re-var R (a ∷ b ∷ c ∷ d ∷ e ∷ f ∷ g ∷ h ∷ i ∷ j ∷ l) 9

  abbrev pub at10 : {a b c d e f g h i j k : A} {l : List A} → Re R (a ∷ b ∷ c ∷ d ∷ e ∷ f ∷ g ∷ h ∷ i ∷ j ∷ k ∷ l) k
  at10 {a} {b} {c} {d} {e} {f} {g} {h} {i} {j} {k} {l} = re-var R (a ∷ b ∷ c ∷ d ∷ e ∷ f ∷ g ∷ h ∷ i ∷ j ∷ k ∷ l) 10

  abbrev pub at11 : {a b c d e f g h i j k l' : A} {l : List A} → Re R (a ∷ b ∷ c ∷ d ∷ e ∷ f ∷ g ∷ h ∷ i ∷ j ∷ k ∷ l' ∷ l) l'
  at11 {a} {b} {c} {d} {e} {f} {g} {h} {i} {j} {k} {l'} {l} = re-var R (a ∷ b ∷ c ∷ d ∷ e ∷ f ∷ g ∷ h ∷ i ∷ j ∷ k ∷ l' ∷ l) 11

  abbrev pub at12 : {a b c d e f g h i j k l' m : A} {l : List A} → Re R (a ∷ b ∷ c ∷ d ∷ e ∷ f ∷ g ∷ h ∷ i ∷ j ∷ k ∷ l' ∷ m ∷ l) m
  at12 {a} {b} {c} {d} {e} {f} {g} {h} {i} {j} {k} {l'} {m} {l} = re-var R (a ∷ b ∷ c ∷ d ∷ e ∷ f ∷ g ∷ h ∷ i ∷ j ∷ k ∷ l' ∷ m ∷ l) 12

  abbrev pub at13 : {a b c d e f g h i j k l' m n : A} {l : List A} → Re R (a ∷ b ∷ c ∷ d ∷ e ∷ f ∷ g ∷ h ∷ i ∷ j ∷ k ∷ l' ∷ m ∷ n ∷ l) n
  at13 {a} {b} {c} {d} {e} {f} {g} {h} {i} {j} {k} {l'} {m} {n} {l} = re-var R (a ∷ b ∷ c ∷ d ∷ e ∷ f ∷ g ∷ h ∷ i ∷ j ∷ k ∷ l' ∷ m ∷ n ∷ l) 13

  abbrev pub at14 : {a b c d e f g h i j k l' m n o : A} {l : List A} → Re R (a ∷ b ∷ c ∷ d ∷ e ∷ f ∷ g ∷ h ∷ i ∷ j ∷ k ∷ l' ∷ m ∷ n ∷ o ∷ l) o
  at14 {a} {b} {c} {d} {e} {f} {g} {h} {i} {j} {k} {l'} {m} {n} {o} {l} = re-var R (a ∷ b ∷ c ∷ d ∷ e ∷ f ∷ g ∷ h ∷ i ∷ j ∷ k ∷ l' ∷ m ∷ n ∷ o ∷ l) 14

  abbrev pub at15 : {a b c d e f g h i j k l' m n o p : A} {l : List A} → Re R (a ∷ b ∷ c ∷ d ∷ e ∷ f ∷ g ∷ h ∷ i ∷ j ∷ k ∷ l' ∷ m ∷ n ∷ o ∷ p ∷ l) p
  at15 {a} {b} {c} {d} {e} {f} {g} {h} {i} {j} {k} {l'} {m} {n} {o} {p} {l} = re-var R (a ∷ b ∷ c ∷ d ∷ e ∷ f ∷ g ∷ h ∷ i ∷ j ∷ k ∷ l' ∷ m ∷ n ∷ o ∷ p ∷ l) 15

pub ruleset atoms = (at0, at1, at2, at3, at4, at5, at6, at7, at8, at9, at10, at11, at12, at13, at14, at15)
