-- Rows of Pascal's triangle in their table: each from the one above, place by place, and the counts in it.
-- Assumes nothing.
use mathlib.Core.Path.{◌≡◌, refl, sym, ap, ap₂, ◌∙◌}
use mathlib.Core.List.{List}
use Prim.Native.Nat.{ℕ, zero, suc, ◌+◌, ◌-◌, ◌*◌, ◌/◌, ◌%◌, ◌^◌, ◌≤◌, ◌<◌}
use native.Mathlib.Nat.{pow-suc}
use native.Mathlib.Omega.{arith}
use lib.ListN.{get_or, set, replicate}
use lib.Pow.{pow_pos, pow_mono}
use Rattle.flat.specs.Lists.{tabulate, padded}
use Rattle.flat.proofs.Lists.{get_d_padded, get_d_tabulate, fill_more}
use Rattle.stepped_codes.specs.Stepped.{choose}
use Rattle.stepped_codes.proofs.Combinations.{choose-none, choose-suc}
use Rattle.stepped_sets.specs.Triangle.{cell, rows_to}

-- ---- the counts

cell-is : (n r : ℕ) → r ≤ 7 → cell (8 * n + r) ≡ choose n r
unfolding cell
cell-is n r l =
    let q : (8 * n + r) / 8 ≡ n = omega arith in
    let m : (8 * n + r) % 8 ≡ r = omega arith in
    ap₂ choose q m

choose_le : (n r : ℕ) → choose n r ≤ 2 ^ n
unfolding choose
choose_le zero zero = omega arith
choose_le zero (suc r) = omega arith
choose_le (suc n) zero = pow_pos (suc n)
choose_le (suc n) (suc r) = rw pow-suc (omega (arith, choose_le n r, choose_le n (suc r)))

count_lt : (n r : ℕ) → n ≤ 7 → choose n r < 256
count_lt n r l = let p : 2 ^ n ≤ 128 = pow_mono {i = n} {j = 7} l in omega (arith, choose_le n r)

-- ---- the table up to some place

-- the first t places, then zeros
abbrev pub Filled : List ℕ → ℕ → Type 0
Filled rows t = rows ≡ padded 64 (tabulate t cell)

filled_at : (rows : List ℕ) (t i : ℕ) → Filled rows t → i < t → get_or rows i 0 ≡ cell i
filled_at rows t i e l = ap (λ (xs : List ℕ). get_or xs i 0) e ∙ get_d_padded 64 i (tabulate t cell) ∙ get_d_tabulate t cell i l

module _ (p : ℕ) (few : p < 7) (rows : List ℕ) where
  -- each row begins with the count of the empty set
  pub filled-start : Filled rows (8 * p + 8) → Filled (set rows (8 * p + 8) 1) (8 * p + 8 + 1)
  filled-start e =
      let o : 8 * p + 8 ≡ 8 * suc p + 0 = omega arith in
      fill_more 64 (8 * p + 8) 1 cell rows (omega arith) e (sym (ap cell o ∙ cell-is (suc p) 0 (omega arith) ∙ choose-none (suc p)))

  module _ (r : ℕ) (low : 1 ≤ r) (high : r < 8) (e : Filled rows (8 * p + 8 + r)) where
    -- the two above a count make it
    two_above : get_or rows (8 * p + r - 1) 0 + get_or rows (8 * p + r) 0 ≡ choose (suc p) r
    two_above =
        let q = r - 1 in
        let r-is : r ≡ suc q = omega arith in
        let left : 8 * p + r - 1 ≡ 8 * p + q = omega arith in
        let right : 8 * p + r ≡ 8 * p + suc q = omega arith in
        ap₂ ◌+◌ (filled_at rows (8 * p + 8 + r) (8 * p + r - 1) e (omega arith) ∙ ap cell left ∙ cell-is p q (omega arith))
        (filled_at rows (8 * p + 8 + r) (8 * p + r) e (omega arith) ∙ ap cell right ∙ cell-is p (suc q) (omega arith))
        ∙ sym (ap (choose (suc p)) r-is ∙ choose-suc p q)

    pub count_fits : get_or rows (8 * p + r - 1) 0 + get_or rows (8 * p + r) 0 < 256
    count_fits = omega (arith, two_above, count_lt (suc p) r (omega arith))

    pub filled_next : Filled (set rows (8 * p + 8 + r) (get_or rows (8 * p + r - 1) 0 + get_or rows (8 * p + r) 0)) (8 * p + 8 + (r + 1))
    filled_next =
        let o : 8 * p + 8 + r + 1 ≡ 8 * p + 8 + (r + 1) = omega arith in
        let here : 8 * p + 8 + r ≡ 8 * suc p + r = omega arith in
        fill_more 64 (8 * p + 8 + r) _ cell rows (omega arith) e (two_above ∙ sym (ap cell here ∙ cell-is (suc p) r (omega arith)))
        ∙ ap (λ (s : ℕ). padded 64 (tabulate s cell)) o

-- ---- whole rows

pub rows-filled : (n t : ℕ) (rows : List ℕ) → t ≡ 8 * n + 8 → Filled rows t → rows ≡ rows_to n
unfolding rows_to
rows-filled n t rows z e = e ∙ ap (λ (s : ℕ). padded 64 (tabulate s cell)) z

-- row 0 is its first count alone
pub first-row : set (replicate 64 0) 0 1 ≡ rows_to 0
unfolding rows_to
first-row = refl

pub filled-rows : (n t : ℕ) (rows : List ℕ) → t ≡ 8 * n + 8 → rows ≡ rows_to n → Filled rows t
unfolding rows_to
filled-rows n t rows z e = e ∙ ap (λ (s : ℕ). padded 64 (tabulate s cell)) (sym z)

-- a count in one of the rows
module _ (rows : List ℕ) (last n r : ℕ) (e : rows ≡ rows_to last) (few : last ≤ 7) (among : n ≤ last) (place : r ≤ 7) where
  pub counted : get_or rows (8 * n + r) 0 ≡ choose n r
  counted = filled_at rows (8 * last + 8) (8 * n + r) (filled-rows last (8 * last + 8) rows refl e) (omega arith) ∙ cell-is n r place
