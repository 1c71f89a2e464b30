-- Table A's record byte by byte, and one record for each way to be malformed: the format and the reader, computed.
-- Assumes nothing.
use Rattle.std.specs.Prelude.{Option, Some, None}
use Rattle.std.specs.Prelude.{ℕ, ◌≡◌, refl, List, [], ◌∷◌, ◌++◌}
use Rattle.std.specs.Float.{nan}
use Rattle.std.specs.Float.Ieee.{of_bits}
use Rattle.record.specs.Format.{Table, little, doubles, head, field, optional, encode}
use Rattle.record.specs.Reading.{number, patterns, field_of, degree_of, run_of, end_of, table_of, numbers}

-- the bytes of the doubles 0, 1, 2, 4 and 6
abbrev d0 : List ℕ
d0 = 0 ∷ 0 ∷ 0 ∷ 0 ∷ 0 ∷ 0 ∷ 0 ∷ 0 ∷ []

abbrev d1 : List ℕ
d1 = 0 ∷ 0 ∷ 0 ∷ 0 ∷ 0 ∷ 0 ∷ 240 ∷ 63 ∷ []

abbrev d2 : List ℕ
d2 = 0 ∷ 0 ∷ 0 ∷ 0 ∷ 0 ∷ 0 ∷ 0 ∷ 64 ∷ []

abbrev d4 : List ℕ
d4 = 0 ∷ 0 ∷ 0 ∷ 0 ∷ 0 ∷ 0 ∷ 16 ∷ 64 ∷ []

abbrev d6 : List ℕ
d6 = 0 ∷ 0 ∷ 0 ∷ 0 ∷ 0 ∷ 0 ∷ 24 ∷ 64 ∷ []

-- degree 2, knots 0 0 0 1 2 2 2, points (0, 0, 0), (2, 0, 0), (4, 0, 0), (6, 0, 0), polynomial
pub table_a : Table
table_a =
    record {
      degree = 2;
      knots = 0x0 ∷ 0x0 ∷ 0x0 ∷ 0x3ff0000000000000 ∷ 0x4000000000000000 ∷ 0x4000000000000000 ∷ 0x4000000000000000 ∷ [];
      points = 0x0 ∷ 0x0 ∷ 0x0 ∷ 0x4000000000000000 ∷ 0x0 ∷ 0x0 ∷ 0x4010000000000000 ∷ 0x0 ∷ 0x0 ∷ 0x4018000000000000 ∷ 0x0 ∷ 0x0 ∷ [];
      weights = None;
    }

pub bytes_a : List ℕ
bytes_a =
    (1 ∷ 2 ∷ 0 ∷ 2 ∷ 0 ∷ [])
    ++ ((2 ∷ 56 ∷ 0 ∷ []) ++ d0 ++ d0 ++ d0 ++ d1 ++ d2 ++ d2 ++ d2)
    ++ ((3 ∷ 96 ∷ 0 ∷ []) ++ d0 ++ d0 ++ d0 ++ d2 ++ d0 ++ d0 ++ d4 ++ d0 ++ d0 ++ d6 ++ d0 ++ d0)

-- the fields of the smallest record, which holds no number but the degree
abbrev degree1 : List ℕ
degree1 = 1 ∷ 2 ∷ 0 ∷ 1 ∷ 0 ∷ []

abbrev knots0 : List ℕ
knots0 = 2 ∷ 0 ∷ 0 ∷ []

abbrev points0 : List ℕ
points0 = 3 ∷ 0 ∷ 0 ∷ []

abbrev pub weights0 : List ℕ
weights0 = 4 ∷ 0 ∷ 0 ∷ []

abbrev empty : Option (List ℕ) → Table
empty ws = record { degree = 1; knots = []; points = []; weights = ws }

pub record Worked : Type 0 where
  pub written : encode table_a ≡ bytes_a
  pub read : table_of bytes_a ≡ Some table_a
  pub absent : table_of (degree1 ++ knots0 ++ points0) ≡ Some (empty None)
  pub zero-length : table_of (degree1 ++ knots0 ++ points0 ++ weights0) ≡ Some (empty (Some []))
  pub nothing : table_of [] ≡ None
  pub missing : table_of (degree1 ++ points0) ≡ None
  pub repeated : table_of (degree1 ++ knots0 ++ knots0 ++ points0) ≡ None
  pub repeated-last : table_of (degree1 ++ knots0 ++ points0 ++ weights0 ++ weights0) ≡ None
  pub descending : table_of (degree1 ++ points0 ++ knots0) ≡ None
  pub unknown : table_of (degree1 ++ knots0 ++ points0 ++ (5 ∷ 0 ∷ 0 ∷ [])) ≡ None
  pub cut-head : table_of (degree1 ++ knots0 ++ (3 ∷ 0 ∷ [])) ≡ None
  pub cut-payload : table_of (degree1 ++ knots0 ++ (3 ∷ 8 ∷ 0 ∷ 0 ∷ [])) ≡ None
  pub short-degree : table_of ((1 ∷ 1 ∷ 0 ∷ 1 ∷ []) ++ knots0 ++ points0) ≡ None
  pub half-double : table_of (degree1 ++ (2 ∷ 4 ∷ 0 ∷ 0 ∷ 0 ∷ 0 ∷ 0 ∷ []) ++ points0) ≡ None
  pub byte-after : table_of (degree1 ++ knots0 ++ points0 ++ (0 ∷ [])) ≡ None
  pub signalling-nan : numbers (0x7ff0_0000_0000_0001 ∷ []) ≡ nan ∷ []

pub worked : Worked
unfolding little doubles head field optional encode number patterns field_of degree_of run_of end_of table_of of_bits table_a bytes_a
worked =
    record {
      written = refl;
      read = refl;
      absent = refl;
      zero-length = refl;
      nothing = refl;
      missing = refl;
      repeated = refl;
      repeated-last = refl;
      descending = refl;
      unknown = refl;
      cut-head = refl;
      cut-payload = refl;
      short-degree = refl;
      half-double = refl;
      byte-after = refl;
      signalling-nan = refl;
    }
