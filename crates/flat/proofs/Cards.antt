-- The tests of a code, its columns in bytes, and what is known of a code that passes the tests.
-- Assumes nothing.
use mathlib.Core.Path.{◌≡◌, refl, sym, ap, ap₂, ◌∙◌}
use mathlib.Core.Bool.{Bool, true, false, not}
use mathlib.Core.List.{List, [], ◌∷◌, ◌++◌}
use Prim.Native.Nat.{ℕ, zero, suc, ◌+◌, ◌*◌, ◌^◌, ◌≤◌, ◌<◌}
use native.Mathlib.Nat.{not-suc-le-zero}
use native.Mathlib.Omega.{arith}
use borrow.Author.Tests.{ltb-false, not-false, le-ltb}
use lib.Dec.{leb, ltb}
use lib.ListN.{length, get_or}
use Rattle.std.specs.Prelude.{if◌then◌else◌}
use Rattle.gf2.proofs.Tests.{true-T, and_out, ltb_out, leb_out}
use Rattle.flat.specs.Lists.{Bytes, tabulate, each, bytes, field}
use Rattle.flat.specs.Cards.{Code, count_ok, column_ok, first_bad, columns_in}
use Rattle.flat.specs.Faults.{Report, accepted, code_report}
use Rattle.flat.proofs.Lists.{length-tabulate, get_d_tabulate, tabulate_cong, field_two}
use Rattle.flat.proofs.Reports.{passed}

-- ---- the tests

pub count_in : (n : ℕ) → count_ok n ≡ true → (1 ≤ n) × (n ≤ 16)
unfolding count_ok
count_in n e = let p = and_out (leb 1 n) (leb n 16) (true-T e) in (leb_out 1 n p.0, leb_out n 16 p.1)

pub column_in : (k c : ℕ) → column_ok k c ≡ true → (1 ≤ c) × (c < 2 ^ k)
unfolding column_ok
column_in k c e = let p = and_out (leb 1 c) (ltb c (2 ^ k)) (true-T e) in (leb_out 1 c p.0, ltb_out c (2 ^ k) p.1)

pub first_le : (k : ℕ) (cs : List ℕ) → first_bad k cs ≤ length cs
unfolding first_bad
first_le k [] = omega arith
first_le k (c ∷ cs) = go (column_ok k c) (first_le k cs)
  where
    go : (b : Bool) → first_bad k cs ≤ length cs → (if b then suc (first_bad k cs) else 0) ≤ suc (length cs)
    go true h = omega arith
    go false h = omega arith

-- where the first bad column comes after all of them, each is a column
pub none_bad : (k : ℕ) (cs : List ℕ) → length cs ≤ first_bad k cs → (j : ℕ) → j < length cs → column_ok k (get_or cs j 0) ≡ true
unfolding first_bad
none_bad k [] h j l = absurd (not-suc-le-zero l)
none_bad k (c ∷ cs) h j l = go (column_ok k c) refl h j l (none_bad k cs)
  where
    go : (b : Bool) → column_ok k c ≡ b → suc (length cs) ≤ (if b then suc (first_bad k cs) else 0) → (j : ℕ) → j < suc (length cs)
        → (length cs ≤ first_bad k cs → (i : ℕ) → i < length cs → column_ok k (get_or cs i 0) ≡ true) → column_ok k (get_or (c ∷ cs) j 0) ≡ true
    go true e h zero l rest = e
    go true e h (suc j) l rest = rest (omega arith) j (omega arith)
    go false e h j l rest = absurd (omega arith)

-- and the other way round
pub all_good : (k : ℕ) (cs : List ℕ) → ((j : ℕ) → j < length cs → column_ok k (get_or cs j 0) ≡ true) → first_bad k cs ≡ length cs
unfolding first_bad
all_good k [] h = refl
all_good k (c ∷ cs) h = rw (h 0 (omega arith)) (ap suc (all_good k cs (λ j l. h (suc j) (omega arith))))

-- ---- columns in bytes

pub length-columns : (m : ℕ) (bs : List ℕ) → length (columns_in m bs) ≡ m
unfolding columns_in
length-columns m bs = length-tabulate m (λ j. field (2 * j) 2 bs)

pub column-at : (m : ℕ) (bs : List ℕ) (j : ℕ) → j < m → get_or (columns_in m bs) j 0 ≡ field (2 * j) 2 bs
unfolding columns_in
column-at m bs = get_d_tabulate m (λ j. field (2 * j) 2 bs)

columns-cons : (m a b : ℕ) (bs : List ℕ) → columns_in (suc m) (a ∷ b ∷ bs) ≡ (a + 256 * b) ∷ columns_in m bs
unfolding columns_in tabulate
columns-cons m a b bs =
    ap₂ ◌∷◌ (field_two 0 (a ∷ b ∷ bs))
    (tabulate_cong m (λ j. field (2 * suc j) 2 (a ∷ b ∷ bs)) (λ j. field (2 * j) 2 bs) (λ j h. shift j))
  where
    shift : (j : ℕ) → field (2 * suc j) 2 (a ∷ b ∷ bs) ≡ field (2 * j) 2 bs
    shift j = let e : 2 * suc j ≡ suc (suc (2 * j)) = omega arith in
        ap (λ (i : ℕ). field i 2 (a ∷ b ∷ bs)) e ∙ field_two (suc (suc (2 * j))) (a ∷ b ∷ bs) ∙ sym (field_two (2 * j) bs)

pub length-column-bytes : (cs : List ℕ) → length (each (bytes 2) cs) ≡ 2 * length cs
unfolding each bytes
length-column-bytes [] = refl
length-column-bytes (c ∷ cs) = let h = length-column-bytes cs in omega arith

-- two bytes and the number that they stand for
two_number : (c : ℕ) → c < 65536 → get_or (bytes 2 c) 0 0 + 256 * get_or (bytes 2 c) 1 0 ≡ c
unfolding bytes
two_number c l = omega arith

two_bytes : (x y : ℕ) → x < 256 → y < 256 → bytes 2 (x + 256 * y) ≡ x ∷ y ∷ []
unfolding bytes
two_bytes x y l m =
    let c = bytes 2 (x + 256 * y) in
    let low : get_or c 0 0 ≡ x = omega arith in
    let high : get_or c 1 0 ≡ y = omega (arith, two_number (x + 256 * y) (omega arith)) in
    ap₂ (λ (a b : ℕ). a ∷ b ∷ []) low high

-- the columns come back out of their bytes
pub columns-bytes : (cs : List ℕ) → ((j : ℕ) → j < length cs → get_or cs j 0 < 65536) → columns_in (length cs) (each (bytes 2) cs) ≡ cs
unfolding each bytes columns_in
columns-bytes [] h = refl
columns-bytes (c ∷ cs) h =
    columns-cons (length cs) (get_or (bytes 2 c) 0 0) (get_or (bytes 2 c) 1 0) (each (bytes 2) cs)
    ∙ ap₂ ◌∷◌ (two_number c (h 0 (omega arith))) (columns-bytes cs (λ j k. h (suc j) (omega arith)))

-- bytes come back out of the columns that stand in them
pub bytes-columns : (m : ℕ) (bs : List ℕ) → Bytes bs → length bs ≡ 2 * m → each (bytes 2) (columns_in m bs) ≡ bs
unfolding each columns_in
bytes-columns zero [] b e = refl
bytes-columns zero (x ∷ bs) b e = absurd (omega arith)
bytes-columns (suc m) [] b e = absurd (omega arith)
bytes-columns (suc m) (x ∷ []) b e = absurd (omega arith)
bytes-columns (suc m) (x ∷ y ∷ bs) b e =
    ap (each (bytes 2)) (columns-cons m x y bs)
    ∙ ap₂ (λ (p q : List ℕ). p ++ q) (two_bytes x y (b 0) (b 1)) (bytes-columns m bs (λ i. b (suc (suc i))) (omega arith))

-- ---- accepted codes

-- what the tests 2 to 5 leave of a code that passes them
pub record Sound (C : Code) : Type 0 where
  pub k_ok : count_ok C.k ≡ true
  pub m_ok : count_ok C.m ≡ true
  pub first : C.m ≤ first_bad C.k C.columns

pub sound : (C : Code) (sized : Bool) (next : Report) (ws : List ℕ) → code_report C sized next ≡ accepted ws
    → Sound C × (sized ≡ true) × (next ≡ accepted ws)
unfolding code_report
sound C sized next ws e =
    let a = passed (not (count_ok C.k)) 1 [] ws _ e in
    let b = passed (not (count_ok C.m)) 2 [] ws _ a.1 in
    let c = passed (not sized) 3 [] ws _ b.1 in
    let d = passed (ltb (first_bad C.k C.columns) C.m) 4 (first_bad C.k C.columns ∷ []) ws next c.1 in (
      record {
        k_ok = not-false (count_ok C.k) a.0;
        m_ok = not-false (count_ok C.m) b.0;
        first = ltb-false (first_bad C.k C.columns) C.m d.0;
      },
      not-false sized c.0,
      d.1,
    )

pub sound-report : (C : Code) (next : Report) → Sound C → code_report C true next ≡ next
unfolding code_report
sound-report C next s = simp (s.k_ok, s.m_ok, le-ltb _ _ s.first)
