-- The lanes of one parity disk, 16 for each data disk, and what the sums by them are.
-- Assumes nothing.
use mathlib.Core.Path.{◌≡◌, refl, sym, ap, ap₂, ◌∙◌, subst}
use mathlib.Core.Logic.{◌⊎◌, inl, inr}
use mathlib.Core.List.{List}
use Prim.Native.Nat.{ℕ, ◌+◌, ◌-◌, ◌*◌, ◌/◌, ◌%◌, ◌≤◌, ◌<◌}
use native.Mathlib.Nat.{zero-add, mul-le-mul_right, add_assoc, mod-lt, zero-lt-suc}
use native.Mathlib.Omega.{arith}
use lib.ListN.{length, get_or, take, drop, replicate, length-replicate, length-drop}
use lib.Seq.{get_or-take, get_or-drop, length-take-le}
use Rattle.gf2.specs.Sets.{◌⊕◌}
use Rattle.gf2.proofs.Tests.{below_or}
use Rattle.flat.specs.Lists.{tabulate, put}
use Rattle.flat.specs.Strips.{byte_of}
use Rattle.flat.proofs.Lists.{length-tabulate, get_d_tabulate, tabulate_cong, take-table, put-before, put-new, put-after}
use Rattle.strip_blocks.proofs.Runs.{Run, run_none, run_more, run_all}
use Rattle.strip_products.specs.Products.{Bits, products, parity_byte, parity_strip}
use Rattle.strip_products.proofs.Products.{products_cong, products-more}
use Rattle.strip_products.proofs.Joined.{joined, joined-block}
use Rattle.strip_products.proofs.Made.{parity-same}

-- the lane of place p, counted from the first lane of the parity disk
abbrev pub lane_of : List ℕ → ℕ → ℕ → ℕ
lane_of bits j p = get_or bits (p / 16 * 16 + j) 0

-- bit j of each data disk's row stands in the 16 lanes of the disk
pub record Spread (k j : ℕ) (bits lanes : List ℕ) : Type 0 where
  pub lane : (i u : ℕ) → i < k → u < 16 → get_or lanes (i * 16 + u) 0 ≡ get_or bits (i * 16 + j) 0

-- a bit in 16 lanes leaves bits
pub splat-bits : (s s' : List ℕ) (at b : ℕ) → Bits s → at + 16 ≤ length s → b ≤ 1 → s' ≡ put s at (tabulate 16 (λ u. b)) → Bits s'
splat-bits s s' at b r fits small e p = rw e (go (below_or p at) (below_or p (at + 16)))
  where
    new : List ℕ
    new = tabulate 16 (λ u. b)

    long : length new ≡ 16
    long = length-tabulate 16 (λ u. b)

    go : (p < at) ⊎ (at ≤ p) → (p < at + 16) ⊎ (at + 16 ≤ p) → get_or (put s at new) p 0 ≤ 1
    go (inl h) m = rw (put-before s at new 16 fits long p h) (r p)
    go (inr h) (inr m) = rw (put-after s at new 16 fits long p m) (r p)
    go (inr h) (inl m) =
        let x : at + (p - at) ≡ p = omega arith in
        subst (λ (y : ℕ). get_or (put s at new) y 0 ≤ 1) x
        (rw (put-new s at new 16 fits long (p - at) (omega arith), get_d_tabulate 16 (λ u. b) (p - at) (omega arith)) small)

-- the lanes of one disk more
pub spread-more : (lanes₀ lanes lanes' bits : List ℕ) (j i b : ℕ) → Run lanes₀ 0 (lane_of bits j) (i * 16) lanes → i * 16 + 16 ≤ length lanes₀
    → lanes' ≡ put lanes (i * 16) (tabulate 16 (λ u. b)) → b ≡ get_or bits (i * 16 + j) 0 → Run lanes₀ 0 (lane_of bits j) ((i + 1) * 16) lanes'
spread-more lanes₀ lanes lanes' bits j i b r fits e f =
    let x : (i + 1) * 16 ≡ i * 16 + 16 = omega arith in
    rw x
    (run_more lanes₀ 0 (lane_of bits j) lanes lanes' (tabulate 16 (λ u. b)) (i * 16) (i * 16) 16 r (omega arith) (omega arith) (omega arith)
    (length-tabulate 16 (λ u. b))
    (λ t h. get_d_tabulate 16 (λ u. b) t h ∙ f ∙ (let y : i * 16 + j ≡ (i * 16 + t) / 16 * 16 + j = omega arith in ap (λ (z : ℕ). get_or bits z 0) y))
    (e ∙ ap (λ (q : ℕ). put lanes q (tabulate 16 (λ u. b))) (sym (zero-add (i * 16)))))

-- they stand there once they are spread into lanes that are 0
pub spread-zeros : (k j : ℕ) (bits lanes₀ lanes : List ℕ) → k ≤ 16 → lanes₀ ≡ replicate 256 0 → lanes ≡ put lanes₀ 0 (tabulate (k * 16) (lane_of bits j)) → Spread k j bits lanes
spread-zeros k j bits lanes₀ lanes few zeros e =
    rw e
    (record {
      lane = λ i u h m. ap (λ (x : ℕ). get_or (put lanes₀ 0 new) x 0) (sym (zero-add (i * 16 + u))) ∙ put-new lanes₀ 0 new (k * 16) fits long (i * 16 + u) (omega arith)
          ∙ get_d_tabulate (k * 16) (lane_of bits j) (i * 16 + u) (omega arith)
          ∙ (let x : (i * 16 + u) / 16 ≡ i = omega arith in ap (λ (y : ℕ). get_or bits (y * 16 + j) 0) x);
    })
  where
    new : List ℕ
    new = tabulate (k * 16) (lane_of bits j)

    long : length new ≡ k * 16
    long = length-tabulate (k * 16) (lane_of bits j)

    fits : 0 + k * 16 ≤ length lanes₀
    fits = rw zeros (omega (arith, length-replicate {A = ℕ} 256 0))

-- ---- a block with the products of one disk XORed in, 16 at a time

module _ (block₀ s : List ℕ) (at : ℕ) (lanes : List ℕ) (i : ℕ) where
  abbrev pub added_byte : ℕ → ℕ
  added_byte t = get_or block₀ t 0 ⊕ get_or s (at + t) 0 * get_or lanes (i * 16 + t % 16) 0

  pub piece-more : (block block' : List ℕ) (q : ℕ) → Run block₀ 0 added_byte (q * 16) block → q * 16 + 16 ≤ length block₀
      → block' ≡ put block (q * 16) (tabulate 16 (joined block (q * 16) (λ t. get_or s (at + q * 16 + t) 0 * get_or lanes (i * 16 + t) 0)))
      → Run block₀ 0 added_byte ((q + 1) * 16) block'
  piece-more block block' q r fits e =
      let x : (q + 1) * 16 ≡ q * 16 + 16 = omega arith in
      rw x
      (joined-block block₀ (λ t. get_or s (at + t) 0 * get_or lanes (i * 16 + t % 16) 0) block block' (q * 16) 16 (λ t. get_or s (at + q * 16 + t) 0 * get_or lanes (i * 16 + t) 0) r fits e
      (λ t h. let y : t ≡ (q * 16 + t) % 16 = omega arith in ap₂ (λ (p z : ℕ). get_or s p 0 * get_or lanes (i * 16 + z) 0) (add_assoc at (q * 16) t) y))

-- ---- sums by lanes

-- byte t of a block from o on, after i disks
abbrev pub lane_sum : List ℕ → ℕ → List ℕ → ℕ → ℕ → ℕ → ℕ
lane_sum s l lanes o i t = products i (byte_of l s (o + t)) (λ d. get_or lanes (d * 16 + t % 16) 0)

-- one disk more
pub lane-sum-more : (s : List ℕ) (l : ℕ) (lanes : List ℕ) (o i t : ℕ)
    → lane_sum s l lanes o i t ⊕ get_or s (i * l + o + t) 0 * get_or lanes (i * 16 + t % 16) 0 ≡ lane_sum s l lanes o (i + 1) t
unfolding byte_of
lane-sum-more s l lanes o i t =
    ap (λ (x : ℕ). lane_sum s l lanes o i t ⊕ get_or s x 0 * get_or lanes (i * 16 + t % 16) 0) (add_assoc (i * l) o t)
    ∙ products-more i (byte_of l s (o + t)) (λ d. get_or lanes (d * 16 + t % 16) 0)

-- by a parity disk's lanes it is the parity byte
lane-sum-all : (s : List ℕ) (l k j : ℕ) (bits lanes : List ℕ) (o t : ℕ) → Spread k j bits lanes → lane_sum s l lanes o k t ≡ parity_byte k l bits s j (o + t)
unfolding parity_byte
lane-sum-all s l k j bits lanes o t r =
    products_cong k (byte_of l s (o + t)) (byte_of l s (o + t)) (λ d. get_or lanes (d * 16 + t % 16) 0) (λ d. get_or bits (d * 16 + j) 0)
    (λ i h. refl) (λ i h. r.lane i (t % 16) h (mod-lt t (zero-lt-suc 15)))

-- and so in a block
lane-block : (s : List ℕ) (l k j : ℕ) (bits lanes block : List ℕ) (o : ℕ) → Spread k j bits lanes → block ≡ tabulate 128 (lane_sum s l lanes o k)
    → (t : ℕ) → t < 128 → get_or block t 0 ≡ parity_byte k l bits s j (o + t)
lane-block s l k j bits lanes block o r e t h =
    ap (λ (b : List ℕ). get_or b t 0) e ∙ get_d_tabulate 128 (lane_sum s l lanes o k) t h ∙ lane-sum-all s l k j bits lanes o t r

-- ---- the strip of a parity disk, block after block

module _ (k l : ℕ) (bits : List ℕ) (j : ℕ) (s₀ : List ℕ) where
  -- its first o bytes are written
  abbrev pub StripTo : ℕ → List ℕ → Type 0
  StripTo o s = Run s₀ ((k + j) * l) (parity_byte k l bits s₀ j) o s

  pub strip-none : StripTo 0 s₀
  strip-none = run_none s₀ ((k + j) * l) (parity_byte k l bits s₀ j)

  -- one more block of it, from the data strips, which are as at entry
  pub strip-more : (s s' block : List ℕ) (o q n : ℕ) → StripTo o s → q ≤ o → o ≤ q + n → q + n ≤ l → (k + j) * l + l ≤ length s₀ → length block ≡ n
      → ((t : ℕ) → t < n → get_or block t 0 ≡ parity_byte k l bits s j (q + t)) → s' ≡ put s ((k + j) * l + q) block → StripTo (q + n) s'
  strip-more s s' block o q n r h m inside fits long right e =
      run_more s₀ ((k + j) * l) (parity_byte k l bits s₀ j) s s' block o q n r h m (omega arith) long
      (λ t u. right t u ∙ parity-same k l bits s s₀ j (q + t) (λ p v. r.before p (omega (arith, strips))) (omega arith)) e
    where
      strips : k * l ≤ (k + j) * l
      strips = mul-le-mul_right l (omega arith)

  -- one by lanes
  pub strip-block : (s s' lanes block : List ℕ) (o q : ℕ) → Spread k j bits lanes → StripTo o s → q ≤ o → o ≤ q + 128 → q + 128 ≤ l → (k + j) * l + l ≤ length s₀
      → block ≡ tabulate 128 (lane_sum s l lanes q k) → s' ≡ put s ((k + j) * l + q) block → StripTo (q + 128) s'
  strip-block s s' lanes block o q b r h m inside fits e f =
      strip-more s s' block o q 128 r h m inside fits (ap length e ∙ length-tabulate 128 (lane_sum s l lanes q k)) (lane-block s l k j bits lanes block q b e) f

  -- one of 16 bytes, out of some sums
  pub strip-sums : (s s' sums : List ℕ) (o q to : ℕ) → StripTo o s → q ≤ o → o ≤ q + 16 → q + 16 ≤ l → (k + j) * l + l ≤ length s₀ → to + 16 ≤ length sums
      → ((t : ℕ) → t < 16 → get_or sums (to + t) 0 ≡ parity_byte k l bits s j (q + t)) → s' ≡ put s ((k + j) * l + q) (take 16 (drop to sums)) → StripTo (q + 16) s'
  strip-sums s s' sums o q to r h m inside fits room right e =
      strip-more s s' (take 16 (drop to sums)) o q 16 r h m inside fits (length-take-le 16 (drop to sums) (omega (arith, length-drop to sums)))
      (λ t u. get_or-take 16 (drop to sums) t 0 u ∙ get_or-drop to sums t 0 ∙ right t u) e

  pub strip-all : (o : ℕ) (s : List ℕ) → StripTo o s → o ≡ l → (k + j) * l + l ≤ length s₀ → s ≡ put s₀ ((k + j) * l) (parity_strip k l bits s₀ j)
  unfolding parity_strip
  strip-all o s r e fits = run_all s₀ ((k + j) * l) (parity_byte k l bits s₀ j) l o s r e fits

  -- all of it, as the beginning of a block by lanes that goes over its end
  pub strip-over : (s' lanes block : List ℕ) → Spread k j bits lanes → l ≤ 128 → (k + j) * l + l ≤ length s₀
      → block ≡ tabulate 128 (lane_sum s₀ l lanes 0 k) → s' ≡ put s₀ ((k + j) * l) (take l block) → s' ≡ put s₀ ((k + j) * l) (parity_strip k l bits s₀ j)
  unfolding parity_strip
  strip-over s' lanes block b h fits e f =
      f ∙ ap (put s₀ ((k + j) * l))
      (ap (take l) e ∙ take-table l 128 (lane_sum s₀ l lanes 0 k) h
      ∙ tabulate_cong l (lane_sum s₀ l lanes 0 k) (parity_byte k l bits s₀ j)
      (λ t u. lane-sum-all s₀ l k j bits lanes 0 t b ∙ ap (parity_byte k l bits s₀ j) (zero-add t)))
