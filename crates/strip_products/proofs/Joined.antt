-- Values XORed into a list from a place on, one after the other, and such runs of values, one after the other.
-- Assumes nothing.
use mathlib.Core.Path.{◌≡◌, sym, ap, ap₂, ◌∙◌}
use mathlib.Core.List.{List}
use Prim.Native.Nat.{ℕ, ◌+◌, ◌≤◌, ◌<◌}
use native.Mathlib.Nat.{zero-add}
use native.Mathlib.Omega.{arith}
use lib.ListN.{length, get_or, set}
use Rattle.gf2.specs.Sets.{◌⊕◌}
use Rattle.flat.specs.Lists.{tabulate, put}
use Rattle.flat.proofs.Lists.{length-tabulate, get_d_tabulate}
use Rattle.strip_blocks.proofs.Runs.{Run, run_more, run_byte, run_again}

module _ (s₀ : List ℕ) (to : ℕ) (g : ℕ → ℕ) where
  -- the entries from a place on, with g's values XORed in
  abbrev pub joined : ℕ → ℕ
  joined u = get_or s₀ (to + u) 0 ⊕ g u

  pub joined-more : (s : List ℕ) (t v : ℕ) → Run s₀ to joined t s → to + t < length s₀ → v ≡ g t
      → Run s₀ to joined (t + 1) (set s (to + t) (get_or s (to + t) 0 ⊕ v))
  joined-more s t v r fits e = run_byte s₀ to joined s t _ r fits (ap₂ ◌⊕◌ (r.after (to + t) (omega arith)) e)

-- values XORed into a list from its beginning on, w more of them
pub joined-block : (s₀ : List ℕ) (h : ℕ → ℕ) (s s' : List ℕ) (o w : ℕ) (g : ℕ → ℕ) → Run s₀ 0 (λ p. get_or s₀ p 0 ⊕ h p) o s → o + w ≤ length s₀
    → s' ≡ put s o (tabulate w (joined s o g)) → ((u : ℕ) → u < w → g u ≡ h (o + u)) → Run s₀ 0 (λ p. get_or s₀ p 0 ⊕ h p) (o + w) s'
joined-block s₀ h s s' o w g r fits e same =
    run_more s₀ 0 (λ p. get_or s₀ p 0 ⊕ h p) s s' (tabulate w (joined s o g)) o o w r (omega arith) (omega arith) (omega arith) (length-tabulate w (joined s o g))
    (λ u m. get_d_tabulate w (joined s o g) u m ∙ ap₂ ◌⊕◌ (r.after (o + u) (omega arith)) (same u m))
    (e ∙ ap (λ (p : ℕ). put s p (tabulate w (joined s o g))) (sym (zero-add o)))

-- one run more: what was f's becomes f''s
pub joined-again : (s₀ : List ℕ) (to n : ℕ) (f f' g : ℕ → ℕ) (s s' : List ℕ) → Run s₀ to f n s → to + n ≤ length s₀
    → s' ≡ put s to (tabulate n (joined s to g)) → ((u : ℕ) → u < n → f u ⊕ g u ≡ f' u) → Run s₀ to f' n s'
joined-again s₀ to n f f' g s s' r fits e step =
    run_again s₀ to f f' n s s' (tabulate n (joined s to g)) r fits (length-tabulate n (joined s to g))
    (λ u h. get_d_tabulate n (joined s to g) u h ∙ ap (λ (x : ℕ). x ⊕ g u) (r.new u h) ∙ step u h) e
