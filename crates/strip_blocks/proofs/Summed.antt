-- What the loops that XOR strips together keep, in a block of any width or in one byte.
-- Assumes nothing.
use mathlib.Core.Path.{◌≡◌, sym, ap, ◌∙◌}
use mathlib.Core.Bool.{Bool, true, false}
use mathlib.Core.List.{List}
use Prim.Native.Nat.{ℕ, ◌+◌, ◌*◌}
use native.Mathlib.Nat.{add_assoc}
use native.Mathlib.Numerals.{add-one}
use lib.ListN.{get_or, replicate}
use Rattle.std.specs.Prelude.{if◌then◌else◌}
use Rattle.gf2.specs.Sets.{has, ◌⊕◌, over}
use Rattle.gf2.proofs.Xor.{⊕-zero}
use Rattle.flat.specs.Lists.{tabulate}
use Rattle.flat.specs.Strips.{byte_of}
use Rattle.flat.proofs.Lists.{constant, get_d_tabulate, tabulate_cong}

-- ---- a block of w bytes, of which byte t is f i t, where i tells how far the loop is

pub record Summed (w : ℕ) (f : ℕ → ℕ → ℕ) (i : ℕ) (block : List ℕ) : Type 0 where
  pub so_far : block ≡ tabulate w (f i)

pub summed_none : (w : ℕ) (f : ℕ → ℕ → ℕ) (i : ℕ) → ((t : ℕ) → f i t ≡ 0) → Summed w f i (replicate w 0)
summed_none w f i z = record { so_far = constant w 0 ∙ tabulate_cong w (λ t. 0) (f i) (λ t h. sym (z t)) }

-- a turn XORs bytes in
pub summed_more : (w : ℕ) (f : ℕ → ℕ → ℕ) (i j : ℕ) (block next : List ℕ) (x : ℕ → ℕ) → Summed w f i block
    → next ≡ tabulate w (λ t. get_or block t 0 ⊕ x t) → ((t : ℕ) → f i t ⊕ x t ≡ f j t) → Summed w f j next
summed_more w f i j block next x r e step =
    record {
      so_far =
          e ∙ tabulate_cong w (λ t. get_or block t 0 ⊕ x t) (f j)
          (λ t h. ap (λ (y : ℕ). y ⊕ x t) (ap (λ (l : List ℕ). get_or l t 0) r.so_far ∙ get_d_tabulate w (f i) t h) ∙ step t);
    }

-- or leaves the block as it is
pub summed_if : (w : ℕ) (f : ℕ → ℕ → ℕ) (i : ℕ) (block next : List ℕ) (x : ℕ → ℕ) (b : Bool) → Summed w f i block
    → next ≡ (if b then tabulate w (λ t. get_or block t 0 ⊕ x t) else block)
    → ((t : ℕ) → f i t ⊕ (if b then x t else 0) ≡ f (i + 1) t) → Summed w f (i + 1) next
summed_if w f i block next x true r e step = summed_more w f i (i + 1) block next x r e step
summed_if w f i block next x false r e step =
    record { so_far = e ∙ r.so_far ∙ tabulate_cong w (f i) (f (i + 1)) (λ t h. sym (⊕-zero (f i t)) ∙ step t) }

pub summed_all : (w : ℕ) (f : ℕ → ℕ → ℕ) (i n : ℕ) (block : List ℕ) → Summed w f i block → i ≡ n → block ≡ tabulate w (f n)
summed_all w f i n block r e = r.so_far ∙ ap (λ (j : ℕ). tabulate w (f j)) e

-- ---- byte t of the XOR of the strips of the disks below i that are in a set, one disk further

pub over-more : (s : List ℕ) (l set t i : ℕ) → over i set (byte_of l s t) ⊕ (if has set i then get_or s (i * l + t) 0 else 0) ≡ over (i + 1) set (byte_of l s t)
unfolding over byte_of
over-more s l set t i = rw (add-one i)

-- the same from o on
pub over-block : (s : List ℕ) (l set o i t : ℕ)
    → over i set (byte_of l s (o + t)) ⊕ (if has set i then get_or s (i * l + o + t) 0 else 0) ≡ over (i + 1) set (byte_of l s (o + t))
over-block s l set o i t = rw (add_assoc (i * l) o t) (over-more s l set (o + t) i)
