-- Where the entries and the bodies of a record stand: each right after the one before it.
-- Assumes nothing.
use mathlib.Core.Path.{◌≡◌, sym, ap, ◌∙◌}
use mathlib.Core.Bool.{Bool, true, false, not}
use mathlib.Core.List.{List, []}
use Prim.Native.Nat.{ℕ, suc, ◌+◌, ◌*◌, ◌^◌, ◌≤◌, ◌<◌}
use native.Mathlib.Nat.{mul-le-mul, mul-le-mul_left, mul-le-mul_right, mul-zero, mul-add, mul-one, suc-mul}
use native.Mathlib.Omega.{arith}
use lib.Dec.{T}
use lib.ListN.{length, take, drop, length-drop}
use lib.Seq.{length-take-le}
use Rattle.std.specs.Prelude.{if◌then◌else◌}
use Rattle.gf2.specs.Sets.{has}
use Rattle.gf2.proofs.Tests.{not_in}
use Rattle.flat.specs.Lists.{count, range, each}
use Rattle.flat.proofs.Counts.{count_le, count_grows, count-below}
use Rattle.record_format.specs.Records.{body_at, strip_entry, strip_body}
use Rattle.record_format.proofs.Standing.{Follow, length-each}
use Rattle.record_format.proofs.Entries.{length-strip-entry}

-- ---- the entries

-- the place of the entry of disk i
abbrev pub entry_at : ℕ → ℕ
entry_at i = 10 + 10 * suc i

pub entries_follow : (start L S n : ℕ) → Follow (strip_entry start L S) entry_at n
entries_follow start L S n i l = omega (arith, length-strip-entry start L S i)

pub length-entries : (start L S n : ℕ) → length (each (strip_entry start L S) (range 0 n)) ≡ 10 * n
length-entries start L S n = omega (arith, length-each (strip_entry start L S) entry_at n (entries_follow start L S n))

-- ---- the bodies

pub body-first : (start L S : ℕ) → body_at start L S 0 ≡ start
unfolding body_at count
body-first start L S = omega (arith, mul-zero L)

-- they lie within the first four gigabytes
pub body_place : (start L S i : ℕ) → start ≤ 65536 → L ≤ 65536 → i ≤ 32 → body_at start L S i < 256 ^ 4
unfolding body_at
body_place start L S i h l few =
    let c = count i (λ d. not (has S d)) in
    let p : L * c ≤ 65536 * 32 = mul-le-mul l (let q : c ≤ 32 = omega (arith, count_le i (λ d. not (has S d))) in q) in
    omega arith

-- a body's place is at or before that of a later one
pub body_grows : (start L S i n : ℕ) → i ≤ n → body_at start L S i ≤ body_at start L S n
unfolding body_at
body_grows start L S i n h = omega (arith, mul-le-mul_left L (count_grows (λ d. not (has S d)) i n h))

-- the body of a disk that is not lost does not lie past the end
pub body-inside : (start L S n i : ℕ) → i < n → (T (has S i) → ⊥) → body_at start L S i + L ≤ body_at start L S n
unfolding body_at
body-inside start L S n i l f =
    let p : ℕ → Bool = λ d. not (has S d) in
    let a : L * suc (count i p) ≤ L * count n p = mul-le-mul_left L (count-below n i p l (not_in (has S i) f)) in
    let e : L * suc (count i p) ≡ L * count i p + L = omega arith in
    omega arith

-- the strip of a disk below n lies in the stripe, and has L bytes
pub strip-room : (i n L size : ℕ) → i < n → n * L ≤ size → i * L + L ≤ size
strip-room i n L size h r = omega (arith, mul-le-mul_right L h, suc-mul i L)

pub length-strip : (i L : ℕ) (stripe : List ℕ) → i * L + L ≤ length stripe → length (take L (drop (i * L) stripe)) ≡ L
length-strip i L stripe h = length-take-le L (drop (i * L) stripe) (omega (arith, length-drop (i * L) stripe))

-- the next body's place is the body's end
pub body-next : (start L S i : ℕ) (stripe : List ℕ) → i * L + L ≤ length stripe
    → body_at start L S i + length (strip_body L S stripe i) ≡ body_at start L S (suc i)
unfolding body_at count strip_body
body-next start L S i stripe h = go (has S i) (count i (λ d. not (has S d))) (length-strip i L stripe h)
  where
    go : (b : Bool) (c : ℕ) → length (take L (drop (i * L) stripe)) ≡ L
        → start + L * c + length (if b then [] else take L (drop (i * L) stripe)) ≡ start + L * (c + (if not b then 1 else 0))
    go true c e = omega (arith, mul-add L c 0, mul-zero L)
    go false c e = omega (arith, mul-add L c 1, mul-one L)

pub bodies_follow : (start L S n : ℕ) (stripe : List ℕ) → n * L ≤ length stripe → Follow (strip_body L S stripe) (body_at start L S) n
bodies_follow start L S n stripe h i l = body-next start L S i stripe (strip-room i n L (length stripe) l h)

pub bodies_end : (start L S n : ℕ) (stripe : List ℕ) → n * L ≤ length stripe
    → start + length (each (strip_body L S stripe) (range 0 n)) ≡ body_at start L S n
bodies_end start L S n stripe h =
    ap (λ (at : ℕ). at + length (each (strip_body L S stripe) (range 0 n))) (sym (body-first start L S))
    ∙ length-each (strip_body L S stripe) (body_at start L S) n (bodies_follow start L S n stripe h)
