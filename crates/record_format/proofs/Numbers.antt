-- Numbers in bytes, and lists compared.
-- Assumes nothing.
use mathlib.Core.Path.{◌≡◌, refl, ap, ap₂, ◌∙◌}
use mathlib.Core.List.{List, [], ◌∷◌}
use Prim.Native.Nat.{ℕ, zero, suc, ◌+◌, ◌*◌, ◌/◌, ◌%◌, ◌^◌, ◌<◌}
use native.Mathlib.Nat.{pow-suc}
use native.Mathlib.Omega.{arith}
use lib.Dec.{T, eqb, eqb_refl}
use lib.ListN.{length}
use Rattle.gf2.proofs.Tests.{and_in, and_out, eqb_out}
use Rattle.flat.specs.Lists.{Bytes, same, bytes, number}

-- ---- numbers in bytes

pub length-bytes : (n v : ℕ) → length (bytes n v) ≡ n
unfolding bytes
length-bytes zero v = refl
length-bytes (suc n) v = ap suc (length-bytes n (v / 256))

-- a number that fits comes back out of its bytes
pub number-bytes : (n v : ℕ) → v < 256 ^ n → number (bytes n v) ≡ v
unfolding bytes number
number-bytes zero v h = omega arith
number-bytes (suc n) v h =
    let l : v < 256 ^ n * 256 = rw (pow-suc 256 n) at h in
    let r : number (bytes n (v / 256)) ≡ v / 256 = number-bytes n (v / 256) (omega arith) in
    omega arith

-- bytes come back out of the number that they stand for
pub bytes-number : (n : ℕ) (xs : List ℕ) → Bytes xs → length xs ≡ n → bytes n (number xs) ≡ xs
unfolding bytes number
bytes-number zero [] b e = refl
bytes-number zero (x ∷ xs) b e = absurd (omega arith)
bytes-number (suc n) [] b e = absurd (omega arith)
bytes-number (suc n) (x ∷ xs) b e =
    let l : x < 256 = b 0 in
    let low : (x + 256 * number xs) % 256 ≡ x = omega arith in
    let rest : (x + 256 * number xs) / 256 ≡ number xs = omega arith in
    ap₂ ◌∷◌ low (ap (bytes n) rest ∙ bytes-number n xs (λ i. b (suc i)) (omega arith))

-- ---- lists compared

pub same_in : (xs : List ℕ) → T (same xs xs)
unfolding same
same_in [] = tt
same_in (x ∷ xs) = and_in (eqb x x) (same xs xs) (eqb_refl x) (same_in xs)

pub same_out : (xs ys : List ℕ) → T (same xs ys) → xs ≡ ys
unfolding same
same_out [] [] t = refl
same_out [] (y ∷ ys) t = absurd t
same_out (x ∷ xs) [] t = absurd t
same_out (x ∷ xs) (y ∷ ys) t =
    let p = and_out (eqb x y) (same xs ys) t in ap₂ ◌∷◌ (eqb_out x y p.0) (same_out xs ys p.1)
