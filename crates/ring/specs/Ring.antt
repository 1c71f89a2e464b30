-- Commutative rings, and a solver of their identities by computation. Assumes nothing.
-- A polynomial is a list of signed products of variables; a product is a sorted list of the variables' numbers. There are no
-- coefficients and the terms are in no order: a new term is put at the end, or cancels the first term that is its opposite.
-- An identity x ≡ y holds if the polynomial of x - y is the empty list. `Re l x` says how x is written over the list of atoms l, and `search` finds it:
-- over the integers, `z-ring (a ∷ b ∷ []) (search zring depth 40) tt`.
use Rattle.std.specs.Prelude.{◌≡◌, Bool, true, false, ◌&&◌, List, [], ◌∷◌, ℕ, eqb, leb}
use Rattle.std.proofs.Common.{sym, ◌∙◌, ap, ap₂}

pub record CommRing {A : Type 0} (add mul : A → A → A) (neg : A → A) (O I : A) : Type 0 where
  pub add_assoc : (a b c : A) → add (add a b) c ≡ add a (add b c)
  pub add_comm : (a b : A) → add a b ≡ add b a
  pub add-zero : (a : A) → add a O ≡ a
  pub add-neg : (a : A) → add a (neg a) ≡ O
  pub mul_assoc : (a b c : A) → mul (mul a b) c ≡ mul a (mul b c)
  pub mul_comm : (a b : A) → mul a b ≡ mul b a
  pub mul-one : (a : A) → mul a I ≡ a
  pub mul-add : (a b c : A) → mul a (add b c) ≡ add (mul a b) (mul a c)

-- ---- the polynomials

pub data Sg : Type 0 where
  plus minus : List ℕ → Sg

abbrev pub insert : ℕ → List ℕ → List ℕ
insert i [] = i ∷ []
insert i (j ∷ m) = elim (leb i j) [ true ↦ i ∷ j ∷ m | false ↦ j ∷ insert i m ]

abbrev pub times : List ℕ → List ℕ → List ℕ
times [] n = n
times (i ∷ m) n = insert i (times m n)

abbrev pub same : List ℕ → List ℕ → Bool
same [] [] = true
same [] (j ∷ n) = false
same (i ∷ m) [] = false
same (i ∷ m) (j ∷ n) = eqb i j && same m n

abbrev pub opposite : Sg → Sg → Bool
opposite (plus m) (plus n) = false
opposite (plus m) (minus n) = same m n
opposite (minus m) (plus n) = same m n
opposite (minus m) (minus n) = false

abbrev pub flip : Sg → Sg
flip (plus m) = minus m
flip (minus m) = plus m

abbrev pub mul_t : Sg → Sg → Sg
mul_t (plus m) (plus n) = plus (times m n)
mul_t (plus m) (minus n) = minus (times m n)
mul_t (minus m) (plus n) = minus (times m n)
mul_t (minus m) (minus n) = plus (times m n)

abbrev pub add_t : Sg → List Sg → List Sg
add_t t [] = t ∷ []
add_t t (u ∷ p) = elim (opposite t u) [ true ↦ p | false ↦ u ∷ add_t t p ]

abbrev pub add_p : List Sg → List Sg → List Sg
add_p [] q = q
add_p (t ∷ p) q = add_t t (add_p p q)

abbrev pub neg_p : List Sg → List Sg
neg_p [] = []
neg_p (t ∷ p) = flip t ∷ neg_p p

abbrev pub scale_p : Sg → List Sg → List Sg
scale_p t [] = []
scale_p t (u ∷ p) = add_t (mul_t t u) (scale_p t p)

abbrev pub mul_p : List Sg → List Sg → List Sg
mul_p [] q = []
mul_p (t ∷ p) q = add_p (scale_p t q) (mul_p p q)

abbrev pub is_nil : List Sg → Bool
is_nil [] = true
is_nil (t ∷ p) = false

-- ---- the laws

module _ {A : Type 0} {◌⊕◌ ◌⊗◌ : A → A → A} {⊖◌ : A → A} {O I : A} (R : CommRing ◌⊕◌ ◌⊗◌ ⊖◌ O I) where
  infixl 6 ◌⊕◌
  infixl 7 ◌⊗◌
  infix 8 ⊖◌
  pub zero-add : (a : A) → O ⊕ a ≡ a
  zero-add a = R.add_comm O a ∙ R.add-zero a

  pub neg-add-self : (a : A) → ⊖ a ⊕ a ≡ O
  neg-add-self a = R.add_comm (⊖ a) a ∙ R.add-neg a

  pub one-mul : (a : A) → I ⊗ a ≡ a
  one-mul a = R.mul_comm I a ∙ R.mul-one a

  pub add-mul : (a b c : A) → (a ⊕ b) ⊗ c ≡ a ⊗ c ⊕ b ⊗ c
  add-mul a b c = R.mul_comm (a ⊕ b) c ∙ R.mul-add c a b ∙ ap₂ ◌⊕◌ (R.mul_comm c a) (R.mul_comm c b)

  pub add_left_comm : (a b c : A) → a ⊕ (b ⊕ c) ≡ b ⊕ (a ⊕ c)
  add_left_comm a b c = sym (R.add_assoc a b c) ∙ ap (λ x. x ⊕ c) (R.add_comm a b) ∙ R.add_assoc b a c

  pub mul_left_comm : (a b c : A) → a ⊗ (b ⊗ c) ≡ b ⊗ (a ⊗ c)
  mul_left_comm a b c = sym (R.mul_assoc a b c) ∙ ap (λ x. x ⊗ c) (R.mul_comm a b) ∙ R.mul_assoc b a c

  pub add-cancel : (a b c : A) → a ⊕ b ≡ a ⊕ c → b ≡ c
  add-cancel a b c h =
      sym (zero-add b) ∙ ap (λ x. x ⊕ b) (sym (neg-add-self a)) ∙ R.add_assoc (⊖ a) a b ∙ ap (λ x. ⊖ a ⊕ x) h
      ∙ sym (R.add_assoc (⊖ a) a c) ∙ ap (λ x. x ⊕ c) (neg-add-self a) ∙ zero-add c

  pub mul-zero : (a : A) → a ⊗ O ≡ O
  mul-zero a = add-cancel (a ⊗ O) (a ⊗ O) O (sym (R.mul-add a O O) ∙ ap (λ x. a ⊗ x) (R.add-zero O) ∙ sym (R.add-zero (a ⊗ O)))

  pub zero-mul : (a : A) → O ⊗ a ≡ O
  zero-mul a = R.mul_comm O a ∙ mul-zero a

  -- x is the opposite of a if their sum is 0
  pub neg_unique : (a x : A) → a ⊕ x ≡ O → x ≡ ⊖ a
  neg_unique a x h = add-cancel a x (⊖ a) (h ∙ sym (R.add-neg a))

  pub mul-neg : (a b : A) → a ⊗ ⊖ b ≡ ⊖ (a ⊗ b)
  mul-neg a b = neg_unique (a ⊗ b) (a ⊗ ⊖ b) (sym (R.mul-add a b (⊖ b)) ∙ ap (λ x. a ⊗ x) (R.add-neg b) ∙ mul-zero a)

  pub neg-mul : (a b : A) → ⊖ a ⊗ b ≡ ⊖ (a ⊗ b)
  neg-mul a b = R.mul_comm (⊖ a) b ∙ mul-neg b a ∙ ap ⊖◌ (R.mul_comm b a)

  pub neg-neg : (a : A) → ⊖ (⊖ a) ≡ a
  neg-neg a = sym (neg_unique (⊖ a) a (neg-add-self a))

  pub neg-zero : ⊖ O ≡ O
  neg-zero = sym (neg_unique O O (R.add-zero O))

  pub neg-add : (a b : A) → ⊖ (a ⊕ b) ≡ ⊖ a ⊕ ⊖ b
  neg-add a b = sym (neg_unique (a ⊕ b) (⊖ a ⊕ ⊖ b)
      (R.add_assoc a b (⊖ a ⊕ ⊖ b) ∙ ap (λ x. a ⊕ x) (add_left_comm b (⊖ a) (⊖ b) ∙ ap (λ x. ⊖ a ⊕ x) (R.add-neg b) ∙ R.add-zero (⊖ a)) ∙ R.add-neg a))

  pub eq-of-sub : (a b : A) → a ⊕ ⊖ b ≡ O → a ≡ b
  eq-of-sub a b h = add-cancel (⊖ b) a b (R.add_comm (⊖ b) a ∙ h ∙ sym (neg-add-self b))

  -- k times a known equation, added to what is to be proved
  pub combine : (k : A) {u v x y : A} → u ≡ v → x ⊕ k ⊗ v ≡ y ⊕ k ⊗ u → x ≡ y
  combine k {u} {v} {x} {y} h e =
      add-cancel (k ⊗ v) x y (R.add_comm (k ⊗ v) x ∙ e ∙ ap (λ w. y ⊕ k ⊗ w) h ∙ R.add_comm y (k ⊗ v))
