-- Placing a set, disk by disk from the highest down.
-- Assumes nothing.
use mathlib.Core.Path.{◌≡◌, refl, sym, ap, ◌∙◌}
use Prim.Native.Nat.{ℕ, zero, suc, ◌+◌, ◌-◌, ◌^◌, ◌≤◌, ◌<◌}
use native.Mathlib.Omega.{arith}
use borrow.Author.Tests.{lt-ltb}
use lib.Pow.{pow_mono}
use Rattle.stepped_codes.specs.Stepped.{choose}
use Rattle.stepped_codes.specs.Placing.{placed}
use Rattle.stepped_codes.proofs.Combinations.{choose-none, choose-suc, choose_above, placed_lt, placed_lacks, placed-has}

-- `set` is what the disks from j on have of the i-th set; what is left to find is the left-th set of `size` disks below j
abbrev pub Going : ℕ → ℕ → ℕ → ℕ → ℕ → ℕ → ℕ → Type 0
Going m s i set size left j = (j ≤ m) × (size ≤ s) × (left < choose j size) × (set + placed j size left ≡ placed m s i)

-- where disks are to be found, there is one
pub going_some : (m s i set size left j : ℕ) → Going m s i set size left j → 0 < size → 0 < j
going_some m s i set size left zero go h = absurd (let l = go.2 in omega (arith, choose_above 0 size h))
going_some m s i set size left (suc j) go h = omega arith

module _ (m s i set size left j lacking : ℕ) (go : Going m s i set size left j) (some : 0 < size) (count : lacking ≡ choose (j - 1) size) where
  below : j ≡ suc (j - 1)
  below = let h = going_some m s i set size left j go some in omega arith

  -- the set lacks the highest disk
  pub going_low : left < lacking → Going m s i set size left (j - 1)
  going_low l =
      let a = go.0 in
      let h : left < choose (j - 1) size = omega arith in
      (omega arith, go.1, h, ap (λ (S : ℕ). set + S) (sym (placed_lacks (j - 1) size left h) ∙ ap (λ (n : ℕ). placed n size left) (sym below)) ∙ go.3)

  -- it has it
  held : lacking ≤ left → placed j size left ≡ 2 ^ (j - 1) + placed (j - 1) (size - 1) (left - lacking)
  held h =
      ap (λ (n : ℕ). placed n size left) below ∙ placed-has (j - 1) size left (omega arith)
      ∙ ap (λ (n : ℕ). 2 ^ (j - 1) + placed (j - 1) (size - 1) (left - n)) (sym count)

  -- with one disk less below it
  rest : lacking ≤ left → left - lacking < choose (j - 1) (size - 1)
  rest h =
      let e : size ≡ suc (size - 1) = omega arith in
      let n : choose j size ≡ choose (j - 1) (size - 1) + choose (j - 1) size =
      ap (choose j) e ∙ ap (λ (x : ℕ). choose x (suc (size - 1))) below ∙ choose-suc (j - 1) (size - 1)
      ∙ ap (λ (x : ℕ). choose (j - 1) (size - 1) + choose (j - 1) x) (sym e) in
      let l = go.2 in
      omega arith

  pub going_high : (v : ℕ) → v ≡ 2 ^ (j - 1) → lacking ≤ left → Going m s i (set + v) (size - 1) (left - lacking) (j - 1)
  going_high v e h =
      let a = go.0 in
      let b = go.1 in (
        omega arith,
        omega arith,
        rest h,
        omega (arith, held h, go.3),
      )

  -- what is added fits
  pub going_fits : m ≤ 7 → lacking ≤ left → set + 2 ^ (j - 1) < 128
  going_fits l h =
      let p : 2 ^ m ≤ 128 = pow_mono {i = m} {j = 7} l in
      omega (arith, held h, go.3, placed_lt m s i)

-- where none is, the rest is the empty set
empty : (j left : ℕ) → left < choose j 0 → placed j 0 left ≡ 0
unfolding placed
empty zero left l = refl
empty (suc j) left l =
    let h : left < choose j 0 = omega (arith, choose-none j, choose-none (suc j)) in
    rw (lt-ltb left (choose j 0) h) (empty j left h)

pub going_end : (m s i set size left j : ℕ) → Going m s i set size left j → size ≡ 0 → set ≡ placed m s i
going_end m s i set size left j go e =
    let z : placed j size left ≡ 0 = go_empty size e go.2 in
    omega (arith, go.3)
  where
    go_empty : (t : ℕ) → t ≡ 0 → left < choose j t → placed j t left ≡ 0
    go_empty t q = rw q (empty j left)
