-- What the loops over gathered blocks keep: the lanes of the parity disks so far, the blocks at one offset, and the parity strips up to an offset.
-- Assumes nothing.
use mathlib.Core.Path.{◌≡◌, refl, sym, ap, ◌∙◌}
use mathlib.Core.Bool.{Bool, ◌&&◌}
use mathlib.Core.Logic.{◌⊎◌, inl, inr}
use mathlib.Core.List.{List, []}
use Prim.Native.Nat.{ℕ, ◌+◌, ◌-◌, ◌*◌, ◌%◌, ◌≤◌, ◌<◌}
use native.Mathlib.Nat.{zero-add, mod-lt, zero-lt-suc}
use native.Mathlib.Omega.{arith}
use lib.Dec.{leb, ltb}
use lib.ListN.{length, get_or, set, replicate, length-replicate, length-set}
use Rattle.std.proofs.lemmas.List.{get_or-replicate, get_or-set_same, get_or-set_other, get_or_read}
use Rattle.std.specs.Prelude.{if◌then◌else◌}
use Rattle.gf2.proofs.Tests.{and_in, and_out, leb_in, leb_out, ltb_in, ltb_out, below_suc, below_or, if_true, if_false}
use Rattle.flat.specs.Lists.{tabulate, put}
use Rattle.flat.specs.Strips.{byte_of}
use Rattle.flat.proofs.Lists.{length-tabulate, get_d_tabulate}
use Rattle.strip_products.specs.Products.{products, parity_byte, striped, multiplied}
use Rattle.strip_products.proofs.Products.{products_cong}
use Rattle.strip_products.proofs.Made.{parity-same, Made, made_none, made-put, made_all, striped-long, striped-kept, striped-parity}
use Rattle.strip_lanes.proofs.Spreading.{lane_of, Spread, spread-zeros}

-- ---- the lanes of the parity disks k + i with i < j

pub record Tabled (k : ℕ) (bits : List ℕ) (j : ℕ) (lanes : List (List ℕ)) : Type 0 where
  pub long : length lanes ≡ 16
  pub done : (i : ℕ) → i < j → Spread k i bits (get_or lanes i [])
  pub left : (i : ℕ) → j ≤ i → i < 16 → get_or lanes i [] ≡ replicate 256 0

pub tabled_none : (k : ℕ) (bits zeros : List ℕ) → zeros ≡ replicate 256 0 → Tabled k bits 0 (replicate 16 zeros)
tabled_none k bits zeros e =
    record {
      long = length-replicate {A = List ℕ} 16 zeros;
      done = λ i h. absurd (omega arith);
      left = λ i h m. get_or-replicate 16 i zeros [] m ∙ e;
    }

-- those of disk i are spread
pub tabled_more : (k : ℕ) (bits : List ℕ) (j i : ℕ) (lanes : List (List ℕ)) (one spread : List ℕ) → Tabled k bits j lanes → k ≤ 16 → j < 16
    → spread ≡ put one 0 (tabulate (k * 16) (lane_of bits j)) → one ≡ get_or lanes j one → i ≡ j → Tabled k bits (j + 1) (set lanes i spread)
tabled_more k bits j i lanes one spread r h m e at same =
    rw same
    (record {
      long = length-set lanes j spread ∙ r.long;
      done = λ x u. go x (below_suc x j (omega arith));
      left = λ x u v. get_or-set_other lanes j x spread [] (λ y. let z : x ≡ j = y in omega arith) ∙ r.left x (omega arith) v;
    })
  where
    now : Spread k j bits spread
    now = spread-zeros k j bits one spread h (get_or_read lanes j one (omega (arith, r.long)) at [] ∙ r.left j (omega arith) m) e

    go : (x : ℕ) → (x < j) ⊎ (x ≡ j) → Spread k x bits (get_or (set lanes j spread) x [])
    go x (inl u) = rw (get_or-set_other lanes j x spread [] (λ y. let z : x ≡ j = y in omega arith)) (r.done x u)
    go x (inr u) = rw (u, get_or-set_same lanes j spread [] (omega (arith, r.long))) now

-- ---- the blocks at one offset

module _ (k l : ℕ) (local : List ℕ) (lanes : List (List ℕ)) (o : ℕ) (s₀ : List ℕ) where
  abbrev in_block : ℕ → Bool
  in_block t = leb o t && ltb t (o + 128)

  -- byte t of parity disk k + j: in the block from the local array, else as at entry
  abbrev pub block_byte : ℕ → ℕ → ℕ
  block_byte j t =
      if in_block t then products k (byte_of 128 local (t - o)) (λ i. get_or (get_or lanes j []) (i * 16 + (t - o) % 16) 0) else byte_of l s₀ t (k + j)

  pub byte_inside : (j t : ℕ) → o ≤ t → t < o + 128 → block_byte j t ≡ products k (byte_of 128 local (t - o)) (λ i. get_or (get_or lanes j []) (i * 16 + (t - o) % 16) 0)
  byte_inside j t h m = if_true (in_block t) _ _ (and_in (leb o t) (ltb t (o + 128)) (leb_in h) (ltb_in m))

  pub byte-outside : (j t : ℕ) → (t < o) ⊎ (o + 128 ≤ t) → block_byte j t ≡ byte_of l s₀ t (k + j)
  byte-outside j t x = if_false (in_block t) _ _ (λ y. let a = and_out (leb o t) (ltb t (o + 128)) y in go (leb_out o t a.0) (ltb_out t (o + 128) a.1) x)
    where
      go : o ≤ t → t < o + 128 → (t < o) ⊎ (o + 128 ≤ t) → ⊥
      go h m (inl z) = omega arith
      go h m (inr z) = omega arith

  -- those of the parity disks k + i with i < j are put
  abbrev pub BlocksTo : ℕ → List ℕ → Type 0
  BlocksTo j s = Made k l block_byte s₀ (λ i t. (i < j) ⊎ ((t < o) ⊎ (o + 128 ≤ t))) s

  pub blocks-none : BlocksTo 0 s₀
  unfolding byte_of
  blocks-none = record { long = refl; kept = λ p h. refl; made = λ j t h x. go j t x }
    where
      go : (j t : ℕ) → (j < 0) ⊎ ((t < o) ⊎ (o + 128 ≤ t)) → get_or s₀ ((k + j) * l + t) 0 ≡ block_byte j t
      go j t (inl x) = absurd (omega arith)
      go j t (inr x) = sym (byte-outside j t x)

  pub blocks_more : (j : ℕ) (s s' block one : List ℕ) → BlocksTo j s → j < length lanes → one ≡ get_or lanes j one → o + 128 ≤ l → (k + j) * l + l ≤ length s₀
      → block ≡ tabulate 128 (λ t. products k (byte_of 128 local (0 + t)) (λ i. get_or one (i * 16 + t % 16) 0)) → s' ≡ put s ((k + j) * l + o) block → BlocksTo (j + 1) s'
  blocks_more j s s' block one r few at h fits e f =
      made-put k l block_byte s₀ _ _ s s' block j o 128 r h fits (ap length e' ∙ length-tabulate 128 sum)
      (λ u m. let x : o + u - o ≡ u = omega arith in
      ap (λ (b : List ℕ). get_or b u 0) e' ∙ get_d_tabulate 128 sum u m
      ∙ ap (λ (y : ℕ). products k (byte_of 128 local y) (λ i. get_or (get_or lanes j []) (i * 16 + u % 16) 0)) (zero-add u)
      ∙ sym (byte_inside j (o + u) (omega arith) (omega arith) ∙ ap (λ (y : ℕ). products k (byte_of 128 local y) (λ i. get_or (get_or lanes j []) (i * 16 + y % 16) 0)) x))
      f (λ i t m x. go i t x (below_or t o) (below_or t (o + 128)))
    where
      sum : ℕ → ℕ
      sum t = products k (byte_of 128 local (0 + t)) (λ i. get_or (get_or lanes j []) (i * 16 + t % 16) 0)

      e' : block ≡ tabulate 128 sum
      e' =
          e
          ∙ ap (λ (y : List ℕ). tabulate 128 (λ t. products k (byte_of 128 local (0 + t)) (λ i. get_or y (i * 16 + t % 16) 0))) (get_or_read lanes j one few at [])

      go : (i t : ℕ) → (i < j + 1) ⊎ ((t < o) ⊎ (o + 128 ≤ t)) → (t < o) ⊎ (o ≤ t) → (t < o + 128) ⊎ (o + 128 ≤ t)
          → ((i < j) ⊎ ((t < o) ⊎ (o + 128 ≤ t))) ⊎ (i ≡ j) × (o ≤ t) × (t < o + 128)
      go i t (inr x) a b = inl (inr x)
      go i t (inl x) (inl a) b = inl (inr (inl a))
      go i t (inl x) (inr a) (inr b) = inl (inr (inr b))
      go i t (inl x) (inr a) (inl b) = last (below_suc i j (omega arith))
        where
          last : (i < j) ⊎ (i ≡ j) → ((i < j) ⊎ ((t < o) ⊎ (o + 128 ≤ t))) ⊎ (i ≡ j) × (o ≤ t) × (t < o + 128)
          last (inl y) = inl (inl y)
          last (inr y) = inr (y, a, b)

  pub blocks-all : (j m : ℕ) (s : List ℕ) → BlocksTo j s → j ≡ m → (k + m) * l ≡ length s₀ → s ≡ striped k l block_byte s₀
  blocks-all j m s r e n = made_all k l block_byte s₀ _ m s r n (λ i t h u. inl (omega arith))

-- ---- offset after offset

module _ (k l m : ℕ) (bits s₀ : List ℕ) where
  -- the bytes below o of the parity strips are made
  abbrev pub OffsetsTo : ℕ → List ℕ → Type 0
  OffsetsTo o s = Made k l (parity_byte k l bits s₀) s₀ (λ j t. (j < m) × (t < o)) s

  pub offsets_none : OffsetsTo 0 s₀
  offsets_none = made_none k l (parity_byte k l bits s₀) s₀ _ (λ j t x. let z : t < 0 = x.1 in omega arith)

  pub offsets_more : (o q : ℕ) (s s' local : List ℕ) (lanes : List (List ℕ)) → OffsetsTo o s → q ≤ o → (k + m) * l ≡ length s₀
      → ((t i : ℕ) → t < 128 → i < k → byte_of 128 local t i ≡ byte_of l s (q + t) i)
      → ((j i u : ℕ) → j < m → i < k → u < 16 → get_or (get_or lanes j []) (i * 16 + u) 0 ≡ get_or bits (i * 16 + j) 0)
      → s' ≡ striped k l (block_byte k l local lanes q s) s → OffsetsTo (q + 128) s'
  unfolding byte_of parity_byte
  offsets_more o q s s' local lanes r h n got lane e =
      rw e
      (record {
        long = striped-long k l g s ∙ r.long;
        kept = λ p u. striped-kept k l g s m size p u ∙ r.kept p u;
        made = λ j t u x. striped-parity k l g s m size j t x.0 u ∙ go j t u x.0 x.1 (below_or t q);
      })
    where
      g : ℕ → ℕ → ℕ
      g = block_byte k l local lanes q s

      size : (k + m) * l ≡ length s
      size = n ∙ sym r.long

      go : (j t : ℕ) → t < l → j < m → t < q + 128 → (t < q) ⊎ (q ≤ t) → g j t ≡ parity_byte k l bits s₀ j t
      go j t u w x (inl y) = byte-outside k l local lanes q s j t (inl y) ∙ r.made j t u (w, omega arith)
      go j t u w x (inr y) =
          let z : q + (t - q) ≡ t = omega arith in
          byte_inside k l local lanes q s j t y x
          ∙ products_cong k (byte_of 128 local (t - q)) (byte_of l s t) (λ i. get_or (get_or lanes j []) (i * 16 + (t - q) % 16) 0) (λ i. get_or bits (i * 16 + j) 0)
          (λ i v. got (t - q) i (omega arith) v ∙ ap (λ (a : ℕ). byte_of l s a i) z)
          (λ i v. lane j i ((t - q) % 16) w v (mod-lt (t - q) (zero-lt-suc 15)))
          ∙ parity-same k l bits s s₀ j t r.kept u

  pub offsets_all : (o : ℕ) (s : List ℕ) → OffsetsTo o s → o ≡ l → (k + m) * l ≡ length s₀ → s ≡ multiplied k l bits s₀
  unfolding multiplied
  offsets_all o s r e n = made_all k l (parity_byte k l bits s₀) s₀ _ m s r n (λ j t h u. (h, omega arith))
