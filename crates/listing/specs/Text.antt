-- The lines that the span lister prints. A text is its bytes in ASCII.
-- Assumes nothing.
use Rattle.std.specs.Prelude.{ℕ, ◌-◌, Bool, ◌||◌, cond, ◌≡◌, List, [], ◌∷◌, ◌++◌, eqb, length, replicate, Float}
use Rattle.knots.specs.declared.refusal.Refusal.{Refusal}
use Rattle.decimals.specs.Text.{decimal, spaced_bits}

-- the line of the span s between two knots
unfoldable pub span_line : ℕ → Float → Float → List ℕ
span_line s lower upper = decimal s ++ (spaced_bits lower ++ (spaced_bits upper ++ (10 ∷ [])))

-- 4, 7, 8 and 10 alone say a place
unfoldable pub says_place : ℕ → Bool
says_place n = eqb n 4 || (eqb n 7 || (eqb n 8 || eqb n 10))

-- a space and the place, where the number says one
unfoldable pub place_text : Refusal → List ℕ
place_text r = cond (says_place r.number) (32 ∷ decimal r.place) []

-- `refused `
abbrev pub refused_word : List ℕ
refused_word = 114 ∷ 101 ∷ 102 ∷ 117 ∷ 115 ∷ 101 ∷ 100 ∷ 32 ∷ []

-- the word, the number and, where the number says one, the place
unfoldable pub refusal_line : Refusal → List ℕ
refusal_line r = refused_word ++ (decimal r.number ++ (place_text r ++ (10 ∷ [])))

-- a run of so many bytes holds a text and 0 behind it, and n is the text's length
pub record Shown (room : ℕ) (text after : List ℕ) (n : ℕ) : Type 0 where
  pub count : n ≡ length text
  pub bytes : after ≡ text ++ replicate (room - length text) 0
  pub long : length after ≡ room
