-- What the loop over the strips of a list keeps: a block is XORed into the first of them.
-- Assumes nothing.
use mathlib.Core.Path.{◌≡◌, refl, sym, ap, ◌∙◌}
use mathlib.Core.List.{List}
use Prim.Native.Nat.{ℕ, ◌+◌, ◌-◌, ◌≤◌}
use native.Mathlib.Numerals.{add-one}
use native.Mathlib.Omega.{arith}
use lib.ListN.{length, get_or}
use lib.Seq.{ext_get_or}
use Rattle.gf2.specs.Sets.{◌⊕◌}
use Rattle.gf2.proofs.Xor.{⊕_assoc, ⊕-zero}
use Rattle.flat.specs.Lists.{tabulate, put}
use Rattle.flat.proofs.Lists.{length-tabulate, get_d_tabulate}
use Rattle.strip_blocks.specs.Totals.{total}
use Rattle.strip_updates.specs.Changes.{from, share, added}
use Rattle.strip_updates.proofs.Shares.{block-share, block-length}

module _ (at : List ℕ) (o : ℕ) (block s₀ : List ℕ) where
  -- what byte p is XORed with
  abbrev sum : ℕ → ℕ → ℕ
  sum j p = total j (λ i. share (from o (length block)) (λ t. get_or block (t - o) 0) (get_or at i 0) p)

  pub record Added (j : ℕ) (s : List ℕ) : Type 0 where
    pub long : length s ≡ length s₀
    pub byte : (p : ℕ) → get_or s p 0 ≡ get_or s₀ p 0 ⊕ sum j p

  pub added_none : Added 0 s₀
  unfolding total
  added_none = record { long = refl; byte = λ p. sym (⊕-zero (get_or s₀ p 0)) }

  pub added_more : (j : ℕ) (s s' : List ℕ) → get_or at j 0 + o + length block ≤ length s₀ → Added j s
      → s' ≡ put s (get_or at j 0 + o) (tabulate (length block) (λ t. get_or s (get_or at j 0 + o + t) 0 ⊕ get_or block t 0)) → Added (j + 1) s'
  unfolding total
  added_more j s s' fits r e =
      let fits' : get_or at j 0 + o + length block ≤ length s = omega (arith, r.long) in
      let new = share (from o (length block)) (λ t. get_or block (t - o) 0) (get_or at j 0) in
      record {
        long = ap length e ∙ block-length o (get_or at j 0) s block fits' ∙ r.long;
        byte = λ p. rw (add-one j)
            (block-share o (get_or at j 0) s s' block p fits' e ∙ ap (λ (x : ℕ). x ⊕ new p) (r.byte p) ∙ ⊕_assoc (get_or s₀ p 0) (sum j p) (new p));
      }

  pub added-all : (count j : ℕ) (s : List ℕ) → Added j s → j ≡ count → s ≡ added o at count block s₀
  unfolding added
  added-all count j s r e =
      rw (sym e)
      (ext_get_or 0 s (tabulate (length s₀) by) (r.long ∙ sym (length-tabulate (length s₀) by))
      (λ p h. r.byte p ∙ sym (get_d_tabulate (length s₀) by p (omega (arith, r.long)))))
    where
      by : ℕ → ℕ
      by p = get_or s₀ p 0 ⊕ sum j p
