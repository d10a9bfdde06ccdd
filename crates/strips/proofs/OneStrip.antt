-- The strip of one disk, written from strips of other disks, block after block or byte by byte, and the stripe that this fills.
-- Assumes nothing.
use mathlib.Core.Path.{◌≡◌, sym, ap, ◌∙◌, subst}
use mathlib.Core.Logic.{◌⊎◌, inl, inr, ◌≢◌}
use mathlib.Core.List.{List}
use Prim.Native.Nat.{ℕ, ◌+◌, ◌*◌, ◌/◌, ◌%◌, ◌^◌, ◌≤◌, ◌<◌}
use native.Mathlib.Nat.{div-add-mod', mod-lt}
use native.Mathlib.Omega.{arith}
use lib.Dec.{T}
use lib.ListN.{length, get_or}
use Rattle.gf2.specs.Sets.{has, over}
use Rattle.gf2.proofs.Tests.{below_or}
use Rattle.gf2.proofs.Subsets.{power_in, power_out}
use Rattle.gf2.proofs.Sums.{over_cong}
use Rattle.flat.specs.Lists.{tabulate, put}
use Rattle.flat.specs.Strips.{byte_of}
use Rattle.flat.specs.Repairs.{filled}
use Rattle.flat.proofs.Lists.{length-tabulate, get_d_tabulate, length-put, put-before, put-new, put-after}
use Rattle.flat.proofs.Positions.{strips-apart}
use Rattle.strip_blocks.proofs.Runs.{Run, run_more, run_all}
use Rattle.strip_dense.proofs.Patched.{disk-of, patched_all}

module _ (n l set d : ℕ) (s₀ : List ℕ) where
  -- byte t of the strip of disk d
  abbrev strip_byte : ℕ → ℕ
  strip_byte t = over n set (byte_of l s₀ t)

  -- its first o bytes are written, the other bytes are those at entry
  abbrev pub StripTo : ℕ → List ℕ → Type 0
  StripTo o s = Run s₀ (d * l) strip_byte o s

  module _ (other : (i : ℕ) → i < n → T (has set i) → i ≢ d) where
    -- the strips that are read are those at entry
    strip-read : (s : List ℕ) (o t : ℕ) → StripTo o s → o ≤ l → t < l → over n set (byte_of l s t) ≡ strip_byte t
    unfolding byte_of
    strip-read s o t r h k = over_cong n set (byte_of l s t) (byte_of l s₀ t) (λ i m u. go i (strips-apart i d l (other i m u)))
      where
        go : (i : ℕ) → (i * l + l ≤ d * l) ⊎ (d * l + l ≤ i * l) → get_or s (i * l + t) 0 ≡ get_or s₀ (i * l + t) 0
        go i (inl x) = r.before (i * l + t) (omega arith)
        go i (inr x) = r.after (i * l + t) (omega arith)

    -- one more block of it, of any width, which may lie over the end of the one before
    pub strip-more : (w : ℕ) (s s' block : List ℕ) (o q : ℕ) → StripTo o s → q ≤ o → o ≤ q + w → q + w ≤ l → d * l + l ≤ length s₀
        → block ≡ tabulate w (λ t. over n set (byte_of l s (q + t))) → s' ≡ put s (d * l + q) block → StripTo (q + w) s'
    strip-more w s s' block o q r h k m fits e p =
        run_more s₀ (d * l) strip_byte s s' (tabulate w (λ t. over n set (byte_of l s (q + t)))) o q w r h k (omega arith)
        (length-tabulate w (λ t. over n set (byte_of l s (q + t))))
        (λ t u. get_d_tabulate w (λ t. over n set (byte_of l s (q + t))) t u ∙ strip-read s o (q + t) r (omega arith) (omega arith))
        (p ∙ ap (put s (d * l + q)) e)

  -- the stripe is filled where the strip is put in one go
  pub strip-put : (s new : List ℕ) → 0 < l → d * l + l ≤ length s₀ → length new ≡ l → ((t : ℕ) → t < l → get_or new t 0 ≡ strip_byte t)
      → s ≡ put s₀ (d * l) new → s ≡ filled n l (λ i. set) (2 ^ d) s₀
  unfolding filled
  strip-put s new z fits long byte e =
      e ∙ patched_all s₀ (λ p. strip_byte (p % l)) (λ p. p / l ≡ d) (λ p. has (2 ^ d) (p / l)) (put s₀ (d * l) new)
      (record {
        long = length-put s₀ (d * l) new (omega arith);
        fresh = λ p h q. ap (λ (x : ℕ). get_or (put s₀ (d * l) new) x 0) (sym (ap (λ (x : ℕ). x * l + p % l) (sym q) ∙ div-add-mod' p l))
            ∙ put-new s₀ (d * l) new l fits long (p % l) (mod-lt p z) ∙ byte (p % l) (mod-lt p z);
        kept = λ p h f. old p f (below_or p (d * l)) (below_or p (d * l + l));
      })
      (λ p h t. power_out d (p / l) t)
      (λ p q. subst (λ (x : ℕ). T (has (2 ^ d) x)) (sym q) (power_in d))
    where
      old : (p : ℕ) → p / l ≢ d → (p < d * l) ⊎ (d * l ≤ p) → (p < d * l + l) ⊎ (d * l + l ≤ p) → get_or (put s₀ (d * l) new) p 0 ≡ get_or s₀ p 0
      old p f (inl a) c = put-before s₀ (d * l) new l fits long p a
      old p f (inr a) (inl c) = absurd (f (disk-of l d p z a c).0)
      old p f (inr a) (inr c) = put-after s₀ (d * l) new l fits long p c

  -- where it is written to its end
  pub strip-all : (o : ℕ) (s : List ℕ) → 0 < l → d * l + l ≤ length s₀ → StripTo o s → o ≡ l → s ≡ filled n l (λ i. set) (2 ^ d) s₀
  strip-all o s z fits r e =
      strip-put s (tabulate l strip_byte) z fits (length-tabulate l strip_byte) (get_d_tabulate l strip_byte) (run_all s₀ (d * l) strip_byte l o s r e fits)
