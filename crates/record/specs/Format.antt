-- The table record of 01: fields of a tag, a length of two bytes and a payload, one after the other in the order of their tags.
-- A double stands here as its bit pattern, a number below 2 ^ 64, so that a NaN keeps its payload. Assumes nothing.
use Rattle.std.specs.Prelude.{Option, Some, None}
use Rattle.std.specs.Prelude.{ℕ, zero, suc, ◌/◌, ◌%◌, ◌^◌, ◌≤◌, ◌<◌, Bool, true, false, ◌≡◌, List, [], ◌∷◌, ◌++◌, length}

-- the w lowest bytes of a number, the lowest first
unfoldable pub little : ℕ → ℕ → List ℕ
little zero n = []
little (suc w) n = n % 256 ∷ little w (n / 256)

-- eight bytes for each pattern
unfoldable pub doubles : List ℕ → List ℕ
doubles [] = []
doubles (x ∷ xs) = little 8 x ++ doubles xs

-- a field: a tag, the payload's length in two bytes, the payload
unfoldable pub head : ℕ → ℕ → List ℕ
head tag n = tag ∷ little 2 n

unfoldable pub field : ℕ → List ℕ → List ℕ
field tag payload = head tag (length payload) ++ payload

-- a field that may be absent
unfoldable pub optional : ℕ → Option (List ℕ) → List ℕ
optional tag None = []
optional tag (Some xs) = field tag (doubles xs)

-- what a record holds: the degree and the patterns of each run. Absent weights and an empty list of weights are two things
pub record Table : Type 0 where
  pub degree : ℕ
  pub knots : List ℕ
  pub points : List ℕ
  pub weights : Option (List ℕ)

-- the record of a table
unfoldable pub encode : Table → List ℕ
encode t = field 1 (little 2 t.degree) ++ (field 2 (doubles t.knots) ++ (field 3 (doubles t.points) ++ optional 4 t.weights))

-- every number is a pattern of 64 bits
abbrev pub Patterns : List ℕ → Type 0
Patterns [] = Unit {0}
Patterns (x ∷ xs) = (x < 2 ^ 64) × Patterns xs

-- the numbers of a run that may be absent
abbrev pub given : Option (List ℕ) → List ℕ
given None = []
given (Some xs) = xs

-- whether a curve is rational: absent weights alone mean polynomial, and an empty list is a list of weights
abbrev pub rational_by : Option (List ℕ) → Bool
rational_by None = false
rational_by (Some xs) = true

-- the bytes s are the record of the table t. That each payload is below 65,536 bytes follows from the record's own length
pub record IsRecordOf (s : List ℕ) (t : Table) : Type 0 where
  pub bytes : s ≡ encode t
  pub short : length s ≤ 65536
  pub degree : t.degree < 65536
  pub knots : Patterns t.knots
  pub points : Patterns t.points
  pub weights : Patterns (given t.weights)

-- what bytes mean: a table that they are the record of, or none if there is no such table
abbrev pub Means : List ℕ → Option Table → Type 0
Means s None = (t : Table) → IsRecordOf s t → ⊥
Means s (Some t) = IsRecordOf s t
