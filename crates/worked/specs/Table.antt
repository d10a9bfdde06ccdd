-- Document 01, "Worked codes": the table of constants, a row for each of C1 to C12 with what goes in and what has to come out.
-- The vectors are those of document 02, request [2].
-- Assumes nothing.
use Rattle.std.specs.Prelude.{List, [], ◌∷◌, ℕ}
use Rattle.flat.specs.Cards.{Code, code}
use Rattle.flat.specs.Faults.{Report, accepted, refused}

-- ---- the kinds of rows

-- a code with its list, its vector, and sets that are fatal and not listed
pub record Listed : Type 0 where
  pub of : Code
  pub list : List ℕ
  pub counts : List ℕ
  pub unlisted : List ℕ

-- a code and one of its disks with the disk's equations
pub record Equated : Type 0 where
  pub of : Code
  pub disk : ℕ
  pub list : List ℕ

-- a code, L and the stripe at entry with the stripe at exit
pub record Encoded : Type 0 where
  pub of : Code
  pub L : ℕ
  pub entry : List ℕ
  pub exit : List ℕ

-- a code, L, the lost set and the stripe at entry with the answer and the stripe at exit
pub record Rebuilt : Type 0 where
  pub of : Code
  pub L : ℕ
  pub lost : ℕ
  pub entry : List ℕ
  pub answer : Report
  pub exit : List ℕ

-- a card with its answer
pub record Read : Type 0 where
  pub card : List ℕ
  pub answer : Report

-- a code and how many entries are lent with the lister's answer
pub record Lent : Type 0 where
  pub of : Code
  pub entries : ℕ
  pub answer : Report

-- ---- the rows

abbrev pub C1 : Listed
C1 =
    record {
      of = code 4 3 (7 ∷ 11 ∷ 13 ∷ []);
      list = 50 ∷ 67 ∷ 84 ∷ 37 ∷ 104 ∷ 25 ∷ 14 ∷ 113 ∷ 102 ∷ 23 ∷ 90 ∷ 43 ∷ 60 ∷ 77 ∷ [];
      counts = 0 ∷ 0 ∷ 7 ∷ 7 ∷ [];
      unlisted = 127 ∷ [];
    }

abbrev pub C2 : Equated
C2 = record { of = C1.of; disk = 0; list = 22 ∷ 42 ∷ 76 ∷ 112 ∷ [] }

abbrev pub C3 : Listed
C3 = record { of = code 2 2 (1 ∷ 2 ∷ []); list = 5 ∷ 10 ∷ []; counts = 0 ∷ 2 ∷ 0 ∷ []; unlisted = 15 ∷ [] }

abbrev pub C4 : Listed
C4 = record { of = code 1 2 (1 ∷ 1 ∷ []); list = 7 ∷ []; counts = 0 ∷ 0 ∷ 1 ∷ []; unlisted = [] }

abbrev pub C5 : Listed
C5 = record { of = code 3 1 (7 ∷ []); list = 9 ∷ 10 ∷ 3 ∷ 12 ∷ 5 ∷ 6 ∷ []; counts = 0 ∷ 6 ∷ []; unlisted = [] }

abbrev pub C6 : Listed
C6 = record { of = code 2 1 (1 ∷ []); list = 2 ∷ 5 ∷ []; counts = 1 ∷ 1 ∷ []; unlisted = [] }

abbrev pub C7 : Encoded
C7 =
    record {
      of = C1.of;
      L = 1;
      entry = 0x11 ∷ 0x22 ∷ 0x44 ∷ 0x88 ∷ 0x00 ∷ 0x00 ∷ 0x00 ∷ [];
      exit = 0x11 ∷ 0x22 ∷ 0x44 ∷ 0x88 ∷ 0x77 ∷ 0xBB ∷ 0xDD ∷ [];
    }

abbrev pub C8 : Rebuilt
C8 =
    record {
      of = C1.of;
      L = 1;
      lost = 7;
      entry = 0x00 ∷ 0x00 ∷ 0x00 ∷ 0x88 ∷ 0x77 ∷ 0xBB ∷ 0xDD ∷ [];
      answer = accepted (3 ∷ []);
      exit = 0x11 ∷ 0x22 ∷ 0x44 ∷ 0x88 ∷ 0x77 ∷ 0xBB ∷ 0xDD ∷ [];
    }

abbrev pub C9 : Rebuilt
C9 =
    record {
      of = C1.of;
      L = 1;
      lost = 1;
      entry = 0x11 ∷ 0x22 ∷ 0x44 ∷ 0x88 ∷ 0x77 ∷ 0xBB ∷ 0xDC ∷ [];
      answer = refused 12 [];
      exit = 0x11 ∷ 0x22 ∷ 0x44 ∷ 0x88 ∷ 0x77 ∷ 0xBB ∷ 0xDC ∷ [];
    }

abbrev pub C10 : Rebuilt
C10 =
    record {
      of = C1.of;
      L = 1;
      lost = 14;
      entry = 0x11 ∷ 0x22 ∷ 0x44 ∷ 0x88 ∷ 0x77 ∷ 0xBB ∷ 0xDD ∷ [];
      answer = refused 11 [];
      exit = 0x11 ∷ 0x22 ∷ 0x44 ∷ 0x88 ∷ 0x77 ∷ 0xBB ∷ 0xDD ∷ [];
    }

abbrev pub C11 : List Read
C11 =
    record { card = 0x02 ∷ 0x01 ∷ 0x03 ∷ 0x00 ∷ []; answer = accepted (2 ∷ 1 ∷ []) }
    ∷ record { card = 0x02 ∷ 0x01 ∷ 0x04 ∷ 0x00 ∷ []; answer = refused 5 (0 ∷ []) } ∷ []

abbrev pub C12 : List Lent
C12 =
    record { of = C3.of; entries = 1; answer = refused 10 (2 ∷ []) }
    ∷ record { of = C3.of; entries = 2; answer = accepted (2 ∷ []) } ∷ []
