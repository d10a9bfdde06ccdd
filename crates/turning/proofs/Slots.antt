-- Slots and disks are two arrangements of the numbers below n, and each undoes the other.
-- Assumes nothing.
use mathlib.Core.Path.{◌≡◌, refl, sym, ap, ◌∙◌}
use Prim.Native.Nat.{ℕ, ◌+◌, ◌-◌, ◌*◌, ◌/◌, ◌%◌, ◌<◌}
use native.Mathlib.Nat.{mod-lt, mod-mod, mod-add-mod, add-mod-mod, mod-eq_of_lt, add-mul-mod_self_right, div-add-mod', add_assoc}
use native.Mathlib.Omega.{arith}
use Rattle.flat.specs.Lists.{Permutes}
use Rattle.turning.specs.Turning.{slot, disk_in}
use Rattle.turning.specs.Theorems.{SlotsUndone}

-- a number below n, and a whole number of rounds
rounds : (n r i : ℕ) → i < n → (i + (r + (n - r % n))) % n ≡ i
rounds n r i l =
    let h : r % n < n = mod-lt r (omega arith) in
    let e : r / n * n + r % n ≡ r = div-add-mod' r n in
    let q : i + (r + (n - r % n)) ≡ i + (r / n + 1) * n = omega arith in
    ap (λ (x : ℕ). x % n) q ∙ add-mul-mod_self_right i (r / n + 1) n ∙ mod-eq_of_lt l

pub slot_lt : (n r i : ℕ) → i < n → slot n r i < n
unfolding slot
slot_lt n r i l = mod-lt (i + r) (omega arith)

pub disk_lt : (n r i : ℕ) → i < n → disk_in n r i < n
unfolding disk_in
disk_lt n r i l = mod-lt (i + (n - r % n)) (omega arith)

pub disk-slot : (n r i : ℕ) → i < n → disk_in n r (slot n r i) ≡ i
unfolding slot disk_in
disk-slot n r i l = mod-add-mod (i + r) n (n - r % n) ∙ ap (λ (x : ℕ). x % n) (add_assoc i r (n - r % n)) ∙ rounds n r i l

pub slot-disk : (n r i : ℕ) → i < n → slot n r (disk_in n r i) ≡ i
unfolding slot disk_in
slot-disk n r i l =
    mod-add-mod (i + (n - r % n)) n r ∙ ap (λ (x : ℕ). x % n) (let e : i + (n - r % n) + r ≡ i + (r + (n - r % n)) = omega arith in e) ∙ rounds n r i l

pub slots_undone : SlotsUndone
slots_undone n r i l = (slot_lt n r i l, disk_lt n r i l, disk-slot n r i l, slot-disk n r i l)

-- only r modulo n matters
pub slot-reduced : (n r i : ℕ) → slot n (r % n) i ≡ slot n r i
unfolding slot
slot-reduced n r i = add-mod-mod i r n

pub disk-reduced : (n r i : ℕ) → disk_in n (r % n) i ≡ disk_in n r i
unfolding disk_in
disk-reduced n r i = ap (λ (x : ℕ). (i + (n - x)) % n) (mod-mod r n)

-- the disk in a slot is the slot of the disk, the other way round
pub disk_as_slot : (n r i : ℕ) → disk_in n r i ≡ slot n (n - r % n) i
unfolding slot disk_in
disk_as_slot n r i = refl

-- so slots permute
pub slot-permutes : (n r : ℕ) → Permutes n (slot n r)
slot-permutes n r = record {
  below = slot_lt n r;
  distinct = λ i j l m e. sym (disk-slot n r i l) ∙ ap (disk_in n r) e ∙ disk-slot n r j m;
}
