-- What the loops over streams keep: the places filled up with pairs, and the bytes written so far.
-- Assumes nothing.
use mathlib.Core.Path.{◌≡◌, refl, sym, ap, ap₂, ◌∙◌}
use mathlib.Core.Logic.{◌⊎◌, inl, inr}
use mathlib.Core.List.{List}
use Prim.Native.Nat.{ℕ, zero, suc, ◌+◌, ◌-◌, ◌/◌, ◌%◌, ◌≤◌, ◌<◌}
use native.Mathlib.Nat.{zero-add}
use native.Mathlib.Numerals.{add-one}
use native.Mathlib.Omega.{arith}
use lib.Dec.{eqb}
use lib.ListN.{length, get_or, set, take, replicate, length-replicate}
use lib.Seq.{length-take-le}
use Rattle.gf2.specs.Sets.{◌⊕◌}
use Rattle.gf2.proofs.Tests.{below_or}
use Rattle.gf2.proofs.Xor.{⊕_assoc, ⊕_self, ⊕-zero}
use Rattle.flat.specs.Lists.{every, tabulate, put}
use Rattle.flat.proofs.Lists.{length-tabulate, get_d_tabulate, constant, put-before, put-new, put-after}
use Rattle.strip_blocks.specs.Totals.{total, xor_at}
use Rattle.strip_blocks.proofs.Loops.{Copied, copied_more, copied_first, copied_all}
use Rattle.strip_blocks.specs.Places.{Apart}
use Rattle.strip_blocks.proofs.Totals.{total_cong}

-- ---- places filled up with pairs, which cancel

pairs-cancel : (f : ℕ → ℕ) (v count k : ℕ) → ((j : ℕ) → count ≤ j → j < count + (k + k) → f j ≡ v) → total (count + (k + k)) f ≡ total count f
unfolding total
pairs-cancel f v count zero h = ap (λ (n : ℕ). total n f) (let e : count + (0 + 0) ≡ count = omega arith in e)
pairs-cancel f v count (suc k) h =
    let m : ℕ = count + (k + k) in
    let e : count + (suc k + suc k) ≡ suc (suc m) = omega arith in
    ap (λ (n : ℕ). total n f) e
    ∙ ap₂ (λ (x y : ℕ). total m f ⊕ x ⊕ y) (h m (omega arith) (omega arith)) (h (suc m) (omega arith) (omega arith))
    ∙ ⊕_assoc (total m f) v v ∙ ap (λ (x : ℕ). total m f ⊕ x) (⊕_self v) ∙ ⊕-zero (total m f) ∙ pairs-cancel f v count k (λ j a b. h j a (omega arith))

-- n places, of which the first are those of a list and the others its first one
pub record FilledUp (at : List ℕ) (n : ℕ) (out : List ℕ) : Type 0 where
  pub first : (j : ℕ) → j < length at → get_or out j 0 ≡ get_or at j 0
  pub others : (j : ℕ) → length at ≤ j → j < n → get_or out j 0 ≡ get_or at 0 0

pub filled-up : (at : List ℕ) (n : ℕ) (out : List ℕ) → length at ≤ n → out ≡ put (replicate n (get_or at 0 0)) 0 at → FilledUp at n out
filled-up at n out few e =
    record {
      first =
          λ j h. ap (λ (x : List ℕ). get_or x j 0) e ∙ ap (λ (x : ℕ). get_or (put base 0 at) x 0) (sym (zero-add j))
          ∙ put-new base 0 at (length at) room refl j h;
      others =
          λ j h k. ap (λ (x : List ℕ). get_or x j 0) e ∙ put-after base 0 at (length at) room refl j (omega arith)
          ∙ ap (λ (x : List ℕ). get_or x j 0) (constant n v) ∙ get_d_tabulate n (λ i. v) j k;
    }
  where
    v : ℕ
    v = get_or at 0 0

    base : List ℕ
    base = replicate n v

    room : 0 + length at ≤ length base
    room = omega (arith, length-replicate n v)

module _ (at : List ℕ) (n : ℕ) (out : List ℕ) (r : FilledUp at n out) where
  pub filled-places : 1 ≤ length at → (j : ℕ) → j < n → (i : ℕ) × (i < length at) × (get_or out j 0 ≡ get_or at i 0)
  filled-places some j h = go (below_or j (length at))
    where
      go : (j < length at) ⊎ (length at ≤ j) → (i : ℕ) × (i < length at) × (get_or out j 0 ≡ get_or at i 0)
      go (inl m) = (j, m, r.first j m)
      go (inr m) = (0, some, r.others j m h)

  pub filled-sums : length at ≤ n → (n - length at) % 2 ≡ 0 → (f : ℕ → ℕ) → total n (λ j. f (get_or out j 0)) ≡ total (length at) (λ j. f (get_or at j 0))
  filled-sums few even f =
      let count : ℕ = length at in
      let k : ℕ = (n - count) / 2 in
      let e : n ≡ count + (k + k) = omega arith in
      ap (λ (x : ℕ). total x (λ j. f (get_or out j 0))) e
      ∙ pairs-cancel (λ j. f (get_or out j 0)) (f (get_or at 0 0)) count k (λ j a b. ap f (r.others j a (omega arith)))
      ∙ total_cong count (λ j. f (get_or out j 0)) (λ j. f (get_or at j 0)) (λ j m. ap f (r.first j m))

-- the XOR of the strips at the places filled up is the same
module _ (s at up : List ℕ) (count size : ℕ) (same : (f : ℕ → ℕ) → total size (λ j. f (get_or up j 0)) ≡ total count (λ j. f (get_or at j 0))) where
  pub up-put : (p l : ℕ) → put s p (tabulate l (xor_at size up s)) ≡ put s p (tabulate l (xor_at count at s))
  up-put p l = λ x. put s p (tabulate l (λ t. same (λ q. get_or s (q + t) 0) x))

  pub up-every : (l : ℕ) → every l (λ t. eqb (xor_at size up s t) 0) ≡ every l (λ t. eqb (xor_at count at s t) 0)
  up-every l = λ x. every l (λ t. eqb (same (λ q. get_or s (q + t) 0) x) 0)

-- ---- byte t of the XOR of one strip more

pub xor-more : (n : ℕ) (at s : List ℕ) (t byte v : ℕ) → byte ≡ xor_at n at s t → v ≡ byte ⊕ get_or s (get_or at n 0 + t) 0
    → v ≡ xor_at (n + 1) at s t
unfolding total
xor-more n at s t byte v e h =
    h ∙ ap (λ (x : ℕ). x ⊕ get_or s (get_or at n 0 + t) 0) e
    ∙ ap (λ (m : ℕ). total m (λ j. get_or s (get_or at j 0 + t) 0)) (sym (add-one n))

-- ---- the XOR of n strips, copied into the l bytes from p on; t of them are

module _ (n : ℕ) (at s₀ : List ℕ) (p l : ℕ) where
  abbrev pub Streamed : ℕ → List ℕ → Type 0
  Streamed t s = Copied s₀ (tabulate l (xor_at n at s₀)) p t s

  -- what is read is as at entry, since no strip meets what is written
  stream_read : (t : ℕ) (s : List ℕ) → Streamed t s → t < l → p + l ≤ length s₀ → Apart p l at n → xor_at n at s t ≡ xor_at n at s₀ t
  stream_read t s r h fits apart =
      total_cong n (λ j. get_or s (get_or at j 0 + t) 0) (λ j. get_or s₀ (get_or at j 0 + t) 0)
      (λ j m. ap (λ (x : List ℕ). get_or x (get_or at j 0 + t) 0) (copied_first s₀ new s p t t r refl within) ∙ go j (apart j m))
    where
      new : List ℕ
      new = tabulate l (xor_at n at s₀)

      within : t ≤ length new
      within = omega (arith, length-tabulate l (xor_at n at s₀))

      go : (j : ℕ) → (get_or at j 0 + l ≤ p) ⊎ (p + l ≤ get_or at j 0) → get_or (put s₀ p (take t new)) (get_or at j 0 + t) 0 ≡ get_or s₀ (get_or at j 0 + t) 0
      go j (inl m) = put-before s₀ p (take t new) t (omega arith) (length-take-le t new within) (get_or at j 0 + t) (omega arith)
      go j (inr m) = put-after s₀ p (take t new) t (omega arith) (length-take-le t new within) (get_or at j 0 + t) (omega arith)

  pub stream_more : (t v : ℕ) (s : List ℕ) → Streamed t s → t < l → p + l ≤ length s₀ → Apart p l at n → v ≡ xor_at n at s t
      → Streamed (t + 1) (set s (p + t) v)
  stream_more t v s r h fits apart e =
      copied_more s₀ (tabulate l (xor_at n at s₀)) s p t v r (omega arith) (omega (arith, length-tabulate l (xor_at n at s₀)))
      (e ∙ stream_read t s r h fits apart ∙ sym (get_d_tabulate l (xor_at n at s₀) t h))

  pub stream_all : (t : ℕ) (s : List ℕ) → Streamed t s → t ≡ l → s ≡ put s₀ p (tabulate l (xor_at n at s₀))
  stream_all t s r e = copied_all s₀ (tabulate l (xor_at n at s₀)) s p t r (e ∙ sym (length-tabulate l (xor_at n at s₀)))
