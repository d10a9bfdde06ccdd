-- From one disk of a set to the next: what the loops keep that XOR strips together so.
-- Assumes nothing.
use mathlib.Core.Path.{◌≡◌, refl, ap, ◌∙◌}
use mathlib.Core.Logic.{◌≢◌}
use mathlib.Core.List.{List}
use Prim.Native.Nat.{ℕ, ◌+◌, ◌*◌, ◌%◌, ◌^◌, ◌<◌}
use native.Mathlib.Nat.{add_assoc}
use lib.Dec.{T, eqb}
use lib.ListN.{get_or, replicate}
use Rattle.gf2.specs.Sets.{has, ◌⊕◌, ◌∖◌, over}
use Rattle.gf2.specs.Within.{lowest}
use Rattle.gf2.proofs.Bits.{bit-mod}
use Rattle.gf2.proofs.Subsets.{lowest-has, lowest-less, lowest_lt}
use Rattle.gf2.proofs.Xor.{⊕_assoc, ⊕_self, ⊕-zero}
use Rattle.gf2.proofs.Sums.{over_none, over-set, over-without}
use Rattle.flat.specs.Lists.{tabulate}
use Rattle.flat.specs.Strips.{byte_of}
use Rattle.flat.proofs.Lists.{tabulate_cong}
use Rattle.strip_blocks.proofs.Summed.{Summed, summed_none, summed_all}

-- the lowest disk of those that are left
pub record Next (n left i : ℕ) : Type 0 where
  pub below : i < n
  pub inside : T (has left i)
  pub less : left ∖ 2 ^ i < left

pub next-lowest : (n left i : ℕ) → left ≢ 0 → left < 2 ^ n → i ≡ lowest left → Next n left i
next-lowest n left i f h e =
    rw e
    (record {
      below = lowest_lt n left f h;
      inside = lowest-has left f;
      less = lowest-less left (lowest left) (left ∖ 2 ^ lowest left) f refl refl;
    })

-- the XOR of what the disks hold that have gone by, where some are left

module _ (n set : ℕ) (f : ℕ → ℕ) where
  abbrev pub gone : ℕ → ℕ
  gone left = over n set f ⊕ over n left f

  gone-none : gone (set % 2 ^ n) ≡ 0
  unfolding has
  gone-none =
      ap (λ (x : ℕ). over n set f ⊕ x) (over-set n (set % 2 ^ n) set f (λ i h. ap (λ (b : ℕ). eqb b 1) (bit-mod n set i h))) ∙ ⊕_self (over n set f)

  gone-more : (left i : ℕ) → i < n → T (has left i) → gone left ⊕ f i ≡ gone (left ∖ 2 ^ i)
  gone-more left i h t =
      ⊕_assoc (over n set f) (over n left f) (f i)
      ∙ ap (λ (x : ℕ). over n set f ⊕ x)
      (ap (λ (x : ℕ). x ⊕ f i) (over-without n left i f h t) ∙ ⊕_assoc (over n (left ∖ 2 ^ i) f) (f i) (f i)
      ∙ ap (λ (x : ℕ). over n (left ∖ 2 ^ i) f ⊕ x) (⊕_self (f i)) ∙ ⊕-zero (over n (left ∖ 2 ^ i) f))

  gone-all : gone 0 ≡ over n set f
  gone-all = ap (λ (x : ℕ). over n set f ⊕ x) (over_none n f) ∙ ⊕-zero (over n set f)

-- byte t of a block from o on
abbrev pub gone_byte : List ℕ → ℕ → ℕ → ℕ → ℕ → ℕ → ℕ → ℕ
gone_byte s l n set o left t = gone n set (byte_of l s (o + t)) left

pub gone-byte : (s : List ℕ) (l n set o left i t : ℕ) → i < n → T (has left i)
    → gone_byte s l n set o left t ⊕ get_or s (i * l + o + t) 0 ≡ gone_byte s l n set o (left ∖ 2 ^ i) t
unfolding byte_of
gone-byte s l n set o left i t h u = rw (add_assoc (i * l) o t) (gone-more n set (byte_of l s (o + t)) left i h u)

pub gone-start : (w : ℕ) (s : List ℕ) (l n set o left : ℕ) → left ≡ set % 2 ^ n → Summed w (gone_byte s l n set o) left (replicate w 0)
gone-start w s l n set o left e =
    rw e (summed_none w (gone_byte s l n set o) (set % 2 ^ n) (λ t. gone-none n set (byte_of l s (o + t))))

pub gone_whole : (w : ℕ) (s : List ℕ) (l n set o left : ℕ) (block : List ℕ) → Summed w (gone_byte s l n set o) left block → left ≡ 0
    → block ≡ tabulate w (λ t. over n set (byte_of l s (o + t)))
gone_whole w s l n set o left block r e =
    summed_all w (gone_byte s l n set o) left 0 block r e
    ∙ tabulate_cong w (gone_byte s l n set o 0) (λ t. over n set (byte_of l s (o + t))) (λ t h. gone-all n set (byte_of l s (o + t)))
