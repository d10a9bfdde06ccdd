-- What the loops over rows keep: the rows into which the bytes of a strip have gone, the sums of the disks so far, and the parity
-- strips written from them.
-- Assumes nothing.
use mathlib.Core.Path.{◌≡◌, refl, sym, ap, ap₂, ◌∙◌}
use mathlib.Core.List.{List}
use Prim.Native.Nat.{ℕ, ◌+◌, ◌*◌, ◌/◌, ◌%◌, ◌≤◌, ◌<◌}
use native.Mathlib.Nat.{zero-add}
use native.Mathlib.Omega.{arith}
use lib.ListN.{length, get_or, replicate}
use Rattle.gf2.specs.Sets.{◌⊕◌}
use Rattle.flat.specs.Lists.{tabulate, put}
use Rattle.flat.specs.Strips.{byte_of}
use Rattle.flat.proofs.Lists.{length-tabulate, get_d_tabulate, tabulate_cong, get_d_zeros, length-put, put-new}
use Rattle.strip_blocks.proofs.Runs.{Run}
use Rattle.strip_products.specs.Products.{parity_byte, parity_strip}
use Rattle.strip_products.proofs.Products.{products-more, parity-none}
use Rattle.strip_products.proofs.Made.{parity-same, StripsTo, strips-more}
use Rattle.strip_products.proofs.Joined.{joined, joined-block}

-- ---- a strip's bytes, each into its row

module _ (rows₀ s : List ℕ) (at : ℕ) (bits : List ℕ) (b : ℕ) where
  -- place p % 16 of row p / 16
  abbrev pub added_place : ℕ → ℕ
  added_place p = get_or rows₀ p 0 ⊕ get_or s (at + p / 16) 0 * get_or bits (b + p % 16) 0

  pub row_more : (t : ℕ) (rows next : List ℕ) → Run rows₀ 0 added_place (t * 16) rows → t * 16 + 16 ≤ length rows₀
      → next ≡ put rows (t * 16) (tabulate 16 (joined rows (t * 16) (λ j. get_or s (at + t) 0 * get_or bits (b + j) 0))) → Run rows₀ 0 added_place ((t + 1) * 16) next
  row_more t rows next r fits e =
      let x : (t + 1) * 16 ≡ t * 16 + 16 = omega arith in
      rw x
      (joined-block rows₀ (λ p. get_or s (at + p / 16) 0 * get_or bits (b + p % 16) 0) rows next (t * 16) 16 (λ j. get_or s (at + t) 0 * get_or bits (b + j) 0) r fits e
      (λ j h. let y : t ≡ (t * 16 + j) / 16 = omega arith in
      let z : j ≡ (t * 16 + j) % 16 = omega arith in
      ap₂ (λ (u v : ℕ). get_or s (at + u) 0 * get_or bits (b + v) 0) y z))

-- ---- the parity bytes, from the disks below i

module _ (s : List ℕ) (l : ℕ) (bits : List ℕ) where
  pub record Summed (i : ℕ) (rows : List ℕ) : Type 0 where
    pub long : length rows ≡ 256
    pub sums : (t j : ℕ) → t < l → j < 16 → get_or rows (t * 16 + j) 0 ≡ parity_byte i l bits s j t

  pub summed_none : Summed 0 (replicate 256 0)
  summed_none = record { long = refl; sums = λ t j h m. get_d_zeros 256 (t * 16 + j) ∙ sym (parity-none l bits s j t) }

  -- disk i goes in by its own row of bits, which starts at b
  pub summed_more : (i b : ℕ) (rows next : List ℕ) → Summed i rows → l ≤ 16 → next ≡ put rows 0 (tabulate (l * 16) (added_place rows s (i * l) bits b))
      → b ≡ i * 16 → Summed (i + 1) next
  unfolding parity_byte byte_of
  summed_more i b rows next r few e f =
      rw e
      (record {
        long = length-put rows 0 new (omega (arith, r.long, size)) ∙ r.long;
        sums = λ t j h m. let y : (t * 16 + j) / 16 ≡ t = omega arith in
            let z : (t * 16 + j) % 16 ≡ j = omega arith in
            ap (λ (p : ℕ). get_or (put rows 0 new) p 0) (sym (zero-add (t * 16 + j)))
            ∙ put-new rows 0 new (l * 16) (omega (arith, r.long)) size (t * 16 + j) (omega arith)
            ∙ get_d_tabulate (l * 16) (added_place rows s (i * l) bits b) (t * 16 + j) (omega arith)
            ∙ ap₂ (λ (u v : ℕ). get_or rows (t * 16 + j) 0 ⊕ get_or s (i * l + u) 0 * get_or bits (b + v) 0) y z
            ∙ ap₂ (λ (x c : ℕ). x ⊕ get_or s (i * l + t) 0 * get_or bits (c + j) 0) (r.sums t j h m) f
            ∙ products-more i (byte_of l s t) (λ i. get_or bits (i * 16 + j) 0);
      })
    where
      new : List ℕ
      new = tabulate (l * 16) (added_place rows s (i * l) bits b)

      size : length new ≡ l * 16
      size = length-tabulate (l * 16) (added_place rows s (i * l) bits b)

-- ---- place j of the rows is written as the strip of parity disk k + j

pub written-more : (k l : ℕ) (bits s₀ rows : List ℕ) → ((t j : ℕ) → t < l → j < 16 → get_or rows (t * 16 + j) 0 ≡ parity_byte k l bits s₀ j t)
    → (j : ℕ) (s s' : List ℕ) → StripsTo k l bits s₀ j s → j < 16 → (k + j) * l + l ≤ length s₀
    → s' ≡ put s ((k + j) * l) (tabulate l (λ t. get_or rows (t * 16 + j) 0)) → StripsTo k l bits s₀ (j + 1) s'
unfolding parity_strip
written-more k l bits s₀ rows right j s s' r h fits e =
    strips-more k l bits s₀ j s s' r fits
    (e ∙ ap (put s ((k + j) * l))
    (tabulate_cong l (λ t. get_or rows (t * 16 + j) 0) (parity_byte k l bits s j)
    (λ t m. right t j m h ∙ sym (parity-same k l bits s s₀ j t r.kept m))))
