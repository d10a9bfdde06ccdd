-- Laws for the proofs of the code: a number rotated by shifts in 64 bits, and the disk in a slot without a division.
-- Assumes nothing.
use mathlib.Core.Path.{◌≡◌, sym, ap, ap₂, ◌∙◌, subst}
use mathlib.Core.List.{List, map}
use Prim.Native.Nat.{ℕ, ◌+◌, ◌-◌, ◌*◌, ◌/◌, ◌%◌, ◌^◌, ◌≤◌, ◌<◌}
use native.Mathlib.Nat.{zero-mul, zero-mod, zero-div, mod-lt, mod-eq_of_lt, add-mod_right, div-lt_iff_lt-mul, lt_of_lt_of_le}
use native.Mathlib.Omega.{arith}
use lib.Bits.{bit_or, or_lt}
use lib.ListN.{get_or, get_or-map}
use lib.Pow.{pow_pos, pow_mono, pow-add, shl_exact, shl_lt}
use Rattle.gf2.specs.Sets.{◌∪◌}
use Rattle.gf2.proofs.Bits.{one_shifted_in}
use Rattle.turning.specs.Turning.{disk_in}
use Rattle.turning.specs.Slots.{rotated}

module _ (S n a : ℕ) (small : S < 2 ^ 32) (few : n ≤ 32) (part : a ≤ n) where
  -- no bit is shifted out
  whole : S * 2 ^ (n - a) % 2 ^ 64 ≡ S * 2 ^ (n - a)
  whole = shl_exact {a = S} 32 (n - a) 64 small (omega arith)

  pub power : 1 * 2 ^ n % 2 ^ 64 ≡ 2 ^ n
  power = one_shifted_in 64 n (omega arith)

  pub power_pos : 0 < 1 * 2 ^ n % 2 ^ 64
  power_pos = subst (λ (x : ℕ). 0 < x) (sym power) (pow_pos n)

  pub rotated-is : bit_or (S * 2 ^ (n - a) % 2 ^ 64 % (1 * 2 ^ n % 2 ^ 64)) (S * 2 ^ (n - a) % 2 ^ 64 / 2 ^ n) ≡ rotated n a S
  unfolding rotated ◌∪◌
  rotated-is = ap₂ (λ (x y : ℕ). bit_or (x % y) (x / 2 ^ n)) whole power

  rotated_lt : rotated n a S < 2 ^ 32
  unfolding rotated ◌∪◌
  rotated_lt =
      or_lt 32 (S * 2 ^ (n - a) % 2 ^ n) (S * 2 ^ (n - a) / 2 ^ n) (lt_of_lt_of_le (mod-lt (S * 2 ^ (n - a)) (pow_pos n)) (pow_mono few))
      ((div-lt_iff_lt-mul (pow_pos n)).1
      (lt_of_lt_of_le (shl_lt 32 (n - a) small) (subst (λ (x : ℕ). 2 ^ (32 + (n - a)) ≤ x) (pow-add 2 32 n) (pow_mono (omega arith)))))

  pub rotated_fits : bit_or (S * 2 ^ (n - a) % 2 ^ 64 % (1 * 2 ^ n % 2 ^ 64)) (S * 2 ^ (n - a) % 2 ^ 64 / 2 ^ n) < 2 ^ 32
  rotated_fits = subst (λ (x : ℕ). x < 2 ^ 32) (sym rotated-is) rotated_lt

-- 0 is rotated to 0, and so are the places of an array where 0 stands
rotated-none : (n a : ℕ) → rotated n a 0 ≡ 0
unfolding rotated ◌∪◌
rotated-none n a = rw (zero-mul (2 ^ (n - a)), zero-mod (2 ^ n), zero-div (2 ^ n))

pub rotated_rest : (n a : ℕ) (rows : List ℕ) (i : ℕ) → get_or rows i 0 ≡ 0 → get_or (map (rotated n a) rows) i 0 ≡ 0
rotated_rest n a rows i e =
    let none = rotated-none n a in
    ap (λ (x : ℕ). get_or (map (rotated n a) rows) i x) (sym none) ∙ get_or-map (rotated n a) rows i 0 ∙ ap (rotated n a) e ∙ none

-- the disk in a slot, for a turn below n
module _ (n t s : ℕ) (turn : t < n) (slot : s < n) where
  pub disk-early : s < t → s + (n - t) ≡ disk_in n t s
  unfolding disk_in
  disk-early l = sym (ap (λ (x : ℕ). (s + (n - x)) % n) (mod-eq_of_lt turn) ∙ mod-eq_of_lt (let z : s + (n - t) < n = omega arith in z))

  pub disk_late : t ≤ s → s - t ≡ disk_in n t s
  unfolding disk_in
  disk_late l =
      sym (ap (λ (x : ℕ). (s + (n - x)) % n) (mod-eq_of_lt turn) ∙ ap (λ (x : ℕ). x % n) (let z : s + (n - t) ≡ s - t + n = omega arith in z)
      ∙ add-mod_right (s - t) n ∙ mod-eq_of_lt (let z : s - t < n = omega arith in z))
