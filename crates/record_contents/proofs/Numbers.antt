-- Numbers and their bytes: the library's eight bytes, low byte first, are those of the definitions.
-- Assumes nothing.
use mathlib.Core.Path.{◌≡◌, refl, sym, ap, ap₂, ◌∙◌}
use mathlib.Core.List.{List, [], ◌∷◌, ◌++◌}
use Prim.Native.Nat.{ℕ, zero, suc, ◌+◌, ◌-◌, ◌*◌, ◌/◌, ◌%◌, ◌^◌, ◌<◌, ◌≤◌}
use native.Mathlib.Omega.{arith}
use native.Mathlib.Nat.{pow-succ'}
use lib.ListN.{length, take, drop, replicate, length-append, length-drop}
use lib.Seq.{length-take-le}
use Rattle.std.specs.Int.{w64, from_le_bytes}
use Rattle.flat.specs.Lists.{number, field, bytes, Bytes}
use Rattle.flat.proofs.Lists.{bytes_part}
use Rattle.record_format.specs.Records.{entry}

-- what the library reads in eight bytes is their number
pub eight : (xs : List ℕ) → length xs ≡ 8 → from_le_bytes w64 xs ≡ number xs
unfolding number
eight [] l = absurd (omega arith)
eight (a ∷ []) l = absurd (omega arith)
eight (a ∷ b ∷ []) l = absurd (omega arith)
eight (a ∷ b ∷ c ∷ []) l = absurd (omega arith)
eight (a ∷ b ∷ c ∷ d ∷ []) l = absurd (omega arith)
eight (a ∷ b ∷ c ∷ d ∷ e ∷ []) l = absurd (omega arith)
eight (a ∷ b ∷ c ∷ d ∷ e ∷ f ∷ []) l = absurd (omega arith)
eight (a ∷ b ∷ c ∷ d ∷ e ∷ f ∷ g ∷ []) l = absurd (omega arith)
eight (a ∷ b ∷ c ∷ d ∷ e ∷ f ∷ g ∷ h ∷ []) l = omega arith
eight (a ∷ b ∷ c ∷ d ∷ e ∷ f ∷ g ∷ h ∷ i ∷ xs) l = absurd (omega arith)

-- zeros behind the bytes of a number add nothing to it
zeros : (k n : ℕ) → number (drop k (replicate n 0)) ≡ 0
unfolding number
zeros zero zero = refl
zeros zero (suc n) = omega (arith, zeros zero n)
zeros (suc k) zero = refl
zeros (suc k) (suc n) = zeros k n

zeros_behind : (xs zs : List ℕ) → number zs ≡ 0 → number (xs ++ zs) ≡ number xs
unfolding number
zeros_behind [] zs h = h
zeros_behind (x ∷ xs) zs h = ap (λ (v : ℕ). x + 256 * v) (zeros_behind xs zs h)

-- a number in n bytes is below 256 ^ n
number_bound : (xs : List ℕ) → Bytes xs → number xs < 256 ^ length xs
unfolding number
number_bound [] b = omega arith
number_bound (x ∷ xs) b = omega (arith, b 0, number_bound xs (λ i. b (suc i)), pow-succ' 256 (length xs))

-- W bytes from a place on, the first of eight whose others are 0
module _ (s : List ℕ) (at W : ℕ) (word : List ℕ) (narrow : W ≤ 4) (room : at + W ≤ length s) (is : word ≡ take (at + W - at) (drop at s)) where
  taken : word ≡ take W (drop at s)
  taken = let e : at + W - at ≡ W = omega arith in is ∙ ap (λ (n : ℕ). take n (drop at s)) e

  long : length (take W (drop at s)) ≡ W
  long = length-take-le W (drop at s) (omega (arith, length-drop at s))

  pub read_value : from_le_bytes w64 (word ++ drop W (replicate 8 0)) ≡ field at W s
  unfolding field
  read_value =
      eight (word ++ drop W (replicate 8 0)) (omega (arith, length-append word (drop W (replicate 8 0)), ap length taken, long, length-drop {A = ℕ} W (replicate 8 0)))
      ∙ zeros_behind word (drop W (replicate 8 0)) (zeros W 8)
      ∙ ap number taken

  pub read_bound : Bytes s → field at W s < 256 ^ W
  unfolding field
  read_bound b =
      rw long at (number_bound (take W (drop at s)) (bytes_part at W s b))

-- the bytes of a number, each by itself
pub two_bytes : (v : ℕ) → bytes 2 v ≡ (v % 256) ∷ (v / 256 % 256) ∷ []
unfolding bytes
two_bytes v = refl

pub four_bytes : (v : ℕ) → bytes 4 v ≡ (v % 256) ∷ (v / 256 % 256) ∷ (v / 65536 % 256) ∷ (v / 16777216 % 256) ∷ []
unfolding bytes
four_bytes v =
    let third : v / 256 / 256 ≡ v / 65536 = omega arith in
    let fourth : v / 256 / 256 / 256 ≡ v / 16777216 = omega arith in
    rw (fourth, third)

-- the ten bytes of an entry
pub entry_bytes : (kind disk offset len : ℕ)
    → kind ∷ disk ∷ (offset % 256) ∷ (offset / 256 % 256) ∷ (offset / 65536 % 256) ∷ (offset / 16777216 % 256)
    ∷ (len % 256) ∷ (len / 256 % 256) ∷ (len / 65536 % 256) ∷ (len / 16777216 % 256) ∷ [] ≡ entry kind disk offset len
unfolding entry
entry_bytes kind disk offset len = ap₂ (λ (os ls : List ℕ). kind ∷ disk ∷ (os ++ ls)) (sym (four_bytes offset)) (sym (four_bytes len))
