-- Each break is inserted until it is full: what is left to insert.
-- Assumes nothing.
use Rattle.std.specs.Prelude.{Result, Ok, Err}
use Prim.Native.Nat.{ℕ, ◌+◌, ◌-◌, ◌*◌, ◌≤◌}
use mathlib.Core.Bool.{Bool, true, false}
use mathlib.Core.Path.{◌≡◌, refl, sym, ◌∙◌, ap, subst}
use mathlib.Core.List.{List, [], ◌∷◌, ◌++◌}
use native.Mathlib.Omega.{arith}
use lib.ListN.{length, replicate, length-append, length-replicate}
use lib.Ieee.{Float}
use Rattle.knots.specs.Refusal.{checked}
use Rattle.knots.specs.Knots.{ValidKnots}
use Rattle.knots.specs.declared.refusal.Refusal.{Refusal}
use Rattle.knots.proofs.Refusals.{refused}
use Rattle.knots.proofs.Valid.{not-refused}
use Rattle.runs.proofs.Tabulated.{length-tabulate}
use Rattle.edits.specs.Counts.{multiplicity_of}
use Rattle.edits.specs.Rows.{given}
use Rattle.edits.specs.Whole.{given_of}
use Rattle.insertion.specs.Fold.{insert_all}
use Rattle.edits.specs.Outcome.{Outcome, gives, refuses}
use Rattle.edits.specs.Work.{laid, knots_from, points_from, weights_from, work_room, refusal_of, work_in}
use Rattle.insertion.specs.Times.{times_start, times_outcome}
use Rattle.insertion.proofs.ListResult.{and_then, insert-append}
use Rattle.insertion.proofs.Repeated.{repeated}
use Rattle.insertion.proofs.Chained.{refuses-some}
use Rattle.edits.proofs.Starting.{room-none}
use Rattle.edits.proofs.RunWithCurve.{laid-long}
use Rattle.elevation.specs.Breaks.{missing_all}
use Rattle.elevation.specs.Passes.{Extracted}
use Rattle.elevation.proofs.LaidOut.{knots-laid, points-laid, weights-laid}

-- there is room for m insertions, and the knots that stand there are valid
times-open : (p n : ℕ) (g : Bool) (t : Float) (m a : ℕ) (xs : List Float) → ValidKnots p n (knots_from a p n xs) → (n + m) * 4 ≤ a → a + (n + m + p + 1) ≤ length xs
    → times_outcome p n m a xs g t ≡ insert_all p g n (knots_from a p n xs) (points_from n xs) (weights_from g n xs) (replicate m t)
unfolding times_outcome times_start work_room
times-open p n g t m a xs v A L = simp (room-none a ((n + m) * 4) A, room-none (length xs) (a + (n + m + p + 1)) L, not-refused p n (knots_from a p n xs) v)

-- a curve of n points stands in the run, and the breaks ts are still to be inserted
pub record Extracting (p : ℕ) (g : Bool) (goal : Outcome) (m a : ℕ) (ks x₀ x₁ : List Float) (n : ℕ) (ts : List Float) : Type 0 where
  pub long : length x₁ ≡ length x₀
  pub valid : ValidKnots p n (knots_from a p n x₁)
  pub count : n + length (missing_all p ks ts) ≡ m
  pub rest : goal ≡ insert_all p g n (knots_from a p n x₁) (points_from n x₁) (weights_from g n x₁) (missing_all p ks ts)

-- what an outcome of insertions into a curve of n points leaves, of c points then
module _ (p : ℕ) (g : Bool) (goal : Outcome) (a c : ℕ) (ys xs : List Float) (L : a + (c + p + 1) ≤ length xs) (A : c * 4 ≤ a) where
  abbrev After : List Float → Result Unit Refusal → Type 0
  After x₂ r =
      ((x : Refusal) → r ≡ Err x → goal ≡ refuses x)
      × (r ≡ Ok tt → (length x₂ ≡ length xs) × ValidKnots p c (knots_from a p c x₂) × (goal ≡ insert_all p g c (knots_from a p c x₂) (points_from c x₂) (weights_from g c x₂) ys))

  after_stop : (x : Refusal) (r : Result Unit Refusal) → (x.number ≡ 0 → ⊥) → goal ≡ refuses x → r ≡ checked x → (x₂ : List Float) → After x₂ r
  after_stop x r h e R x₂ =
      let q = R ∙ sym (refused x h) in
      ((λ y E. let f = sym q ∙ E in e ∙ cc), (λ z. let f = sym q ∙ z in cc))

  after_more : (k q w : List Float) → ValidKnots p c k → length q ≡ c * 3 → length w ≡ given g c → goal ≡ insert_all p g c k q w ys
      → (r : Result Unit Refusal) → r ≡ Ok tt → (x₂ : List Float) → x₂ ≡ laid a xs k q g w → After x₂ r
  after_more k q w v Q W e r R x₂ X =
      let H : g ≡ true → length w ≡ c = λ h. W ∙ ap (λ (b : Bool). given b c) h in
      let K = knots-laid a xs k q g w p c v.long Q H A L in
      let P = points-laid a xs k q g w p c v.long Q H A L in
      let Y = weights-laid a xs k q g w p c v.long Q H A L in (
        (λ y E. let f = sym R ∙ E in cc),
        (λ z. (
          ap length X ∙ laid-long a xs k q g w,
          subst (ValidKnots p c) (sym (ap (knots_from a p c) X ∙ K)) v,
          e ∙ moved (sym (ap (knots_from a p c) X ∙ K)) (sym (ap (points_from c) X ∙ P)) (sym (ap (weights_from g c) X ∙ (Y ∙ all g W))),
        )),
      )
    where
      empty : (l : List Float) → length l ≡ 0 → [] ≡ l
      empty [] h = refl
      empty (x ∷ l) h = absurd (omega arith)

      all : (b : Bool) → length w ≡ given b c → given_of b w ≡ w
      all true h = refl
      all false h = empty w h

      moved : {i i' j j' l l' : List Float} → i ≡ i' → j ≡ j' → l ≡ l' → insert_all p g c i j l ys ≡ insert_all p g c i' j' l' ys
      moved I J N = rw (I, J, N)

module _ (p : ℕ) (g : Bool) (goal : Outcome) (m a : ℕ) (ks x₀ : List Float) where
  module _ (A : m * 4 ≤ a) (L : a + (m + p + 1) ≤ length x₀) (ts : List Float) (c : ℕ) (x₁ : List Float) (I : Extracting p g goal m a ks x₀ x₁ c ts) where
    module _ (t : Float) (us : List Float) (T : ts ≡ t ∷ us) (s : ℕ) (S : s ≡ p + 1 - multiplicity_of ks t) where
      abbrev tail : List Float
      tail = missing_all p ks us

      here : Extracting p g goal m a ks x₀ x₁ c (t ∷ us)
      here = subst (Extracting p g goal m a ks x₀ x₁ c) T I

      split : missing_all p ks (t ∷ us) ≡ replicate s t ++ tail
      unfolding missing_all
      split = ap (λ (x : ℕ). replicate x t ++ tail) (sym S)

      sum : c + s + length tail ≡ m
      sum =
          let e = here.count in
          let f : length (missing_all p ks (t ∷ us)) ≡ s + length tail =
          ap length split ∙ (length-append (replicate s t) tail ∙ ap (λ (x : ℕ). x + length tail) (length-replicate s t)) in
          omega arith

      module _ (x₂ : List Float) (r : Result Unit Refusal) (R : r ≡ checked (refusal_of (times_outcome p c s a x₁ g t))) (X : x₂ ≡ work_in a g x₁ (times_outcome p c s a x₁ g t)) where
        abbrev some : Outcome
        some = insert_all p g c (knots_from a p c x₁) (points_from c x₁) (weights_from g c x₁) (replicate s t)

        room : a + (c + s + p + 1) ≤ length x₁
        room = let e = sum in let f = I.long in omega arith

        opened : times_outcome p c s a x₁ g t ≡ some
        opened = let e = sum in times-open p c g t s a x₁ I.valid (omega arith) room

        goes : goal ≡ and_then some (λ i q w. insert_all p g (c + s) i q w tail)
        goes =
            here.rest
            ∙ (ap (insert_all p g c (knots_from a p c x₁) (points_from c x₁) (weights_from g c x₁)) split
            ∙ (insert-append p g c (knots_from a p c x₁) (points_from c x₁) (weights_from g c x₁) (replicate s t) tail
            ∙ ap (λ (x : ℕ). and_then some (λ i q w. insert_all p g (c + x) i q w tail)) (length-replicate s t)))

        done : After p g goal a (c + s) tail x₁ room (omega (arith, sum)) x₂ r
        unfolding checked
        done = go some refl
          where
            go : (o : Outcome) → some ≡ o → After p g goal a (c + s) tail x₁ room (omega (arith, sum)) x₂ r
            go (refuses x) O =
                after_stop p g goal a (c + s) tail x₁ room (omega (arith, sum)) x r
                (refuses-some p g c (knots_from a p c x₁) (points_from c x₁) (weights_from g c x₁) (replicate s t) x O)
                (goes ∙ ap (λ (y : Outcome). and_then y (λ i q w. insert_all p g (c + s) i q w tail)) O) (R ∙ ap (λ (y : Outcome). checked (refusal_of y)) (opened ∙ O)) x₂
            go (gives k' q w) O =
                let M = repeated p g c (knots_from a p c x₁) (points_from c x₁) (weights_from g c x₁) I.valid t s k' q w O in
                after_more p g goal a (c + s) tail x₁ room (omega (arith, sum)) k' q w M.valid (M.points (length-tabulate (c * 3) _)) (M.weights (length-tabulate (given g c) _))
                (goes ∙ ap (λ (y : Outcome). and_then y (λ i j l. insert_all p g (c + s) i j l tail)) O) r (R ∙ ap (λ (y : Outcome). checked (refusal_of y)) (opened ∙ O)) x₂ (X ∙ ap (work_in a g x₁) (opened ∙ O))

        pub extract-stop : (r ≡ Ok tt → ⊥) → Extracted p g m a goal x₂ r
        extract-stop h = record { refused = done.0; given = λ z. absurd (h z) }

        pub extract-more : r ≡ Ok tt → Extracting p g goal m a ks x₀ x₂ (c + s) us
        extract-more z = let D = done.1 z in record { long = D.0 ∙ I.long; valid = D.1; count = sum; rest = D.2 }

    pub extract-end : ts ≡ [] → Extracted p g m a goal x₁ (Ok tt)
    unfolding missing_all insert_all
    extract-end E =
        let D = subst (Extracting p g goal m a ks x₀ x₁ c) E I in
        let e : c ≡ m = let f = D.count in omega arith in
        record {
          refused = λ x h. cc;
          given = λ h. subst (λ (x : ℕ). goal ≡ gives (knots_from a p x x₁) (points_from x x₁) (weights_from g x x₁)) e D.rest;
        }
