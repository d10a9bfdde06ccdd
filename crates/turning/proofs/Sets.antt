-- Sets of slots and of disks: which they are, sums over them, and that each is the other's number rotated.
-- Assumes nothing.
use mathlib.Core.Path.{◌≡◌, sym, ap, ap₂, ◌∙◌}
use mathlib.Core.Bool.{Bool, ◌||◌, or-false}
use mathlib.Core.Logic.{◌⊎◌, inl, inr, ⊎_elim}
use Prim.Native.Nat.{ℕ, ◌+◌, ◌-◌, ◌*◌, ◌/◌, ◌%◌, ◌^◌, ◌≤◌, ◌<◌}
use native.Mathlib.Nat.{mod-lt, add-mod_right, mod-eq_of_lt, mul-mod_left}
use native.Mathlib.Omega.{arith}
use lib.Dec.{eqb}
use lib.Pow.{pow_pos, shl-shr}
use Rattle.gf2.specs.Sets.{bit, has, size, ◌∪◌}
use Rattle.gf2.proofs.Tests.{below_or}
use Rattle.gf2.proofs.Bits.{bit-of-zero, bit_above, bit_shift, bit-mod, has-zero}
use Rattle.gf2.proofs.Made.{set_lt, has-set, set_is, set_cong}
use Rattle.gf2.proofs.Subsets.{same-disks}
use Rattle.gf2.proofs.Unions.{has-∪}
use Rattle.flat.proofs.Counts.{size-set, size-count}
use Rattle.flat.proofs.Permuting.{count_permuted, over_permuted}
use Rattle.turning.specs.Turning.{slot, disk_in, disks_of}
use Rattle.turning.specs.Slots.{slots_of, rotated, SetsRotated, SumTurned}
use Rattle.turning.specs.Theorems.{LostDisks}
use Rattle.turning.proofs.Slots.{slot_lt, disk_lt, disk-slot, slot-disk, slot-reduced, disk_as_slot, slot-permutes}

-- ---- which they are

pub has_slots : (n r S i : ℕ) → i < n → has (slots_of n r S) i ≡ has S (disk_in n r i)
unfolding slots_of
has_slots n r S i l = has-set n (λ s. has S (disk_in n r s)) i l

pub has-disks : (n r S i : ℕ) → i < n → has (disks_of n r S) i ≡ has S (slot n r i)
unfolding disks_of
has-disks n r S i l = has-set n (λ j. has S (slot n r j)) i l

-- the slot of a disk, and the disk in a slot
pub slot_of : (n r S i : ℕ) → i < n → has (slots_of n r S) (slot n r i) ≡ has S i
slot_of n r S i l = has_slots n r S (slot n r i) (slot_lt n r i l) ∙ ap (has S) (disk-slot n r i l)

pub disk-of : (n r S s : ℕ) → s < n → has (disks_of n r S) (disk_in n r s) ≡ has S s
disk-of n r S s l = has-disks n r S (disk_in n r s) (disk_lt n r s l) ∙ ap (has S) (slot-disk n r s l)

pub disks_lt : (n r S : ℕ) → disks_of n r S < 2 ^ n
unfolding disks_of
disks_lt n r S = set_lt n (λ i. has S (slot n r i))

size-disks : (n r S : ℕ) → S < 2 ^ n → size (disks_of n r S) ≡ size S
unfolding disks_of
size-disks n r S h =
    size-set n (λ i. has S (slot n r i)) ∙ count_permuted n (slot n r) (slot-permutes n r) (has S) ∙ sym (size-count n S h)

pub lost-disks : LostDisks
unfolding slot
lost-disks n r S h = (disks_lt n r S, has-disks n r S, size-disks n r S h)

-- the disks in the slots of some disks are those disks
pub disks_undone : (n r S : ℕ) → S < 2 ^ n → disks_of n r (slots_of n r S) ≡ S
unfolding disks_of
disks_undone n r S h = set_is n S (λ i. has (slots_of n r S) (slot n r i)) h (slot_of n r S)

pub slots_lt : (n r S : ℕ) → slots_of n r S < 2 ^ n
unfolding slots_of
slots_lt n r S = set_lt n (λ s. has S (disk_in n r s))

-- only r modulo n matters
pub disks-reduced : (n r S : ℕ) → disks_of n (r % n) S ≡ disks_of n r S
unfolding disks_of
disks-reduced n r S = set_cong n (λ i. has S (slot n (r % n) i)) (λ i. has S (slot n r i)) (λ i l. ap (has S) (slot-reduced n r i))

pub sum-turned : SumTurned
sum-turned n r S f = over_permuted n (slot n r) (slot-permutes n r) (slots_of n r S) S f (slot_of n r S)

-- ---- rotated numbers

-- a number shifted up has the bits of the number, higher up
bit_up : (S b j : ℕ) → bit (S * 2 ^ b) (b + j) ≡ bit S j
bit_up S b j = sym (bit_shift b (S * 2 ^ b) j) ∙ ap (λ (x : ℕ). bit x j) (shl-shr S b)

bit-low-up : (S b s : ℕ) → s < b → bit (S * 2 ^ b) s ≡ 0
bit-low-up S b s l = sym (bit-mod b (S * 2 ^ b) s l) ∙ ap (λ (x : ℕ). bit x s) (mul-mod_left S (2 ^ b)) ∙ bit-of-zero s

has-bit : (R S i j : ℕ) → bit R i ≡ bit S j → has R i ≡ has S j
unfolding has
has-bit R S i j e = ap (λ (x : ℕ). eqb x 1) e

module _ (n a S : ℕ) (few : a ≤ n) (h : S < 2 ^ n) where
  up : ℕ
  up = S * 2 ^ (n - a)

  -- bit s of what is shifted past n is bit s + a
  bit_past : (s : ℕ) → bit (up / 2 ^ n) s ≡ bit S (s + a)
  unfolding up
  bit_past s =
      bit_shift n (S * 2 ^ (n - a)) s ∙ ap (bit (S * 2 ^ (n - a))) (let q : n + s ≡ n - a + (s + a) = omega arith in q) ∙ bit_up S (n - a) (s + a)

  in_rotated : (s : ℕ) → s < n → (s + a < n) ⊎ (n ≤ s + a) → (has (up % 2 ^ n) s || has (up / 2 ^ n) s) ≡ has S ((s + a) % n)
  unfolding up
  in_rotated s l (inl m) =
      ap (λ (t : Bool). t || has (up / 2 ^ n) s) (has-zero (up % 2 ^ n) s (bit-mod n (S * 2 ^ (n - a)) s l ∙ bit-low-up S (n - a) s (omega arith)))
      ∙ has-bit (up / 2 ^ n) S s ((s + a) % n) (bit_past s ∙ ap (bit S) (sym (mod-eq_of_lt m)))
  in_rotated s l (inr m) =
      let j = s + a - n in
      let q : s ≡ n - a + j = omega arith in
      let w : (s + a) % n ≡ j =
      ap (λ (x : ℕ). x % n) (let z : s + a ≡ j + n = omega arith in z) ∙ add-mod_right j n ∙ mod-eq_of_lt (let z : j < n = omega arith in z) in
      ap (λ (t : Bool). has (up % 2 ^ n) s || t) (has-zero (up / 2 ^ n) s (bit_past s ∙ bit_above n S (s + a) h m)) ∙ or-false (has (up % 2 ^ n) s)
      ∙ has-bit (up % 2 ^ n) S s ((s + a) % n)
      (bit-mod n (S * 2 ^ (n - a)) s l ∙ ap (bit (S * 2 ^ (n - a))) q ∙ bit_up S (n - a) j ∙ ap (bit S) (sym w))

  above : (s : ℕ) → n ≤ s → (has (up % 2 ^ n) s || has (up / 2 ^ n) s) ≡ has (disks_of n a S) s
  unfolding up
  above s l =
      ap₂ ◌||◌ (has-zero (up % 2 ^ n) s (bit_above n (up % 2 ^ n) s (mod-lt up (pow_pos n)) l))
      (has-zero (up / 2 ^ n) s (bit_past s ∙ bit_above n S (s + a) h (omega arith)))
      ∙ sym (has-zero (disks_of n a S) s (bit_above n (disks_of n a S) s (disks_lt n a S) l))

  pub disks-rotated : disks_of n a S ≡ rotated n a S
  unfolding rotated up slot
  disks-rotated =
      same-disks (disks_of n a S) (up % 2 ^ n ∪ up / 2 ^ n)
      (λ s. ⊎_elim (λ l. has-disks n a S s l ∙ sym (in_rotated s l (below_or (s + a) n))) (λ l. sym (above s l)) (below_or s n)
      ∙ sym (has-∪ (up % 2 ^ n) (up / 2 ^ n) s))

pub slots_as_disks : (n r S : ℕ) → slots_of n r S ≡ disks_of n (n - r % n) S
unfolding slots_of disks_of
slots_as_disks n r S = set_cong n (λ s. has S (disk_in n r s)) (λ i. has S (slot n (n - r % n) i)) (λ i l. ap (has S) (disk_as_slot n r i))

pub sets-rotated : SetsRotated
sets-rotated n r S some h =
    let l : r % n < n = mod-lt r some in (
      slots_as_disks n r S ∙ disks-rotated n (n - r % n) S (omega arith) h,
      sym (disks-reduced n r S) ∙ disks-rotated n (r % n) S (omega arith) h,
    )

-- for a turn below n
pub slots_rotated : (n t S : ℕ) → t < n → S < 2 ^ n → slots_of n t S ≡ rotated n (n - t) S
slots_rotated n t S l h = (sets-rotated n t S (omega arith) h).0 ∙ ap (λ (x : ℕ). rotated n (n - x) S) (mod-eq_of_lt l)
