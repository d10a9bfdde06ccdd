-- A stripe in which the strips of the targets below a disk are filled; the law of one more, and the end.
-- Assumes nothing.
use mathlib.Core.Path.{◌≡◌, sym, ap, ◌∙◌, subst}
use mathlib.Core.Logic.{◌⊎◌, inl, inr, ◌≢◌}
use mathlib.Core.List.{List}
use Prim.Native.Nat.{ℕ, ◌+◌, ◌*◌, ◌/◌, ◌%◌, ◌^◌, ◌≤◌, ◌<◌}
use native.Mathlib.Nat.{mod-lt, zero-add}
use native.Mathlib.Omega.{arith}
use lib.Arith.{digits_lt, digits_div}
use lib.Dec.{T}
use lib.ListN.{length, get_or, take}
use lib.Seq.{get_or-take, length-take-le}
use Rattle.std.specs.Prelude.{if◌then◌else◌}
use Rattle.gf2.specs.Sets.{has, over}
use Rattle.gf2.proofs.Tests.{below_suc, if_true, if_false}
use Rattle.gf2.proofs.Subsets.{power_in, power_out}
use Rattle.gf2.proofs.Sums.{over_cong}
use Rattle.flat.specs.Lists.{tabulate, put}
use Rattle.flat.specs.Strips.{byte_of}
use Rattle.flat.specs.Repairs.{filled}
use Rattle.flat.proofs.Lists.{length-tabulate, get_d_tabulate}
use Rattle.flat.proofs.Positions.{places, strip-within}
use Rattle.strips.proofs.OneStrip.{strip-put}
use Rattle.strip_dense.proofs.Patched.{Patched, patched_none, patched_same, patched_more, patched_all}

module _ (n l : ℕ) (E : ℕ → ℕ) (S : ℕ) (s₀ : List ℕ) where
  -- byte p, from the strips at entry
  abbrev fill_byte : ℕ → ℕ
  fill_byte p = over n (E (p / l)) (byte_of l s₀ (p % l))

  abbrev TargetTo : ℕ → ℕ → Type 0
  TargetTo d p = T (has S (p / l)) × (p / l < d)

  abbrev pub FilledTo : ℕ → List ℕ → Type 0
  FilledTo d s = Patched s₀ fill_byte (TargetTo d) s

  pub filled_none : FilledTo 0 s₀
  filled_none = patched_none s₀ fill_byte (TargetTo 0) (λ p x. let z : p / l < 0 = x.1 in omega arith)

  -- disk d is no target
  pub filled_skip : (d : ℕ) (s : List ℕ) → FilledTo d s → (T (has S d) → ⊥) → FilledTo (d + 1) s
  filled_skip d s r f =
      patched_same s₀ fill_byte (TargetTo d) (TargetTo (d + 1)) s r
      (λ p x. (x.0, less p x.0 (below_suc (p / l) d (let z : p / l < d + 1 = x.1 in omega arith))))
      (λ p x. (x.0, (let z : p / l < d = x.1 in omega arith)))
    where
      less : (p : ℕ) → T (has S (p / l)) → (p / l < d) ⊎ (p / l ≡ d) → p / l < d
      less p t (inl m) = m
      less p t (inr e) = absurd (f (subst (λ (x : ℕ). T (has S x)) e t))

  -- strips that are no targets are as at entry
  filled-read : (d : ℕ) (s : List ℕ) → FilledTo d s → n * l ≡ length s₀ → ((i : ℕ) → i < n → T (has (E d) i) → T (has S i) → ⊥)
      → (j : ℕ) → j < l → over n (E d) (byte_of l s j) ≡ over n (E d) (byte_of l s₀ j)
  unfolding byte_of
  filled-read d s r fits apart j h =
      over_cong n (E d) (byte_of l s j) (byte_of l s₀ j)
      (λ i m u. r.kept (i * l + j) (subst (λ (x : ℕ). i * l + j < x) fits (digits_lt m h)) (λ x. apart i m u (subst (λ (y : ℕ). T (has S y)) (digits_div i h) x.0)))

  -- disk d is a target, and its strip is filled from such strips
  pub filled-strip : (d : ℕ) (s s' : List ℕ) → 0 < l → FilledTo d s → T (has S d) → n * l ≡ length s₀
      → ((i : ℕ) → i < n → T (has (E d) i) → T (has S i) → ⊥) → s' ≡ filled n l (λ i. E d) (2 ^ d) s → FilledTo (d + 1) s'
  unfolding filled
  filled-strip d s s' z r t fits apart e =
      patched_more s₀ fill_byte (TargetTo d) (λ p. p / l ≡ d) (TargetTo (d + 1)) s s' r (ap length e ∙ length-tabulate (length s) fill)
      (λ p h q. at p h
      ∙ if_true (has (2 ^ d) (p / l)) (over n (E d) (byte_of l s (p % l))) (get_or s p 0) (subst (λ (x : ℕ). T (has (2 ^ d) x)) (sym q) (power_in d))
      ∙ filled-read d s r fits apart (p % l) (mod-lt p z) ∙ ap (λ (x : ℕ). over n (E x) (byte_of l s₀ (p % l))) (sym q))
      (λ p h f. at p h ∙ if_false (has (2 ^ d) (p / l)) (over n (E d) (byte_of l s (p % l))) (get_or s p 0) (λ u. f (power_out d (p / l) u)))
      (λ p x. split p x (below_suc (p / l) d (let m : p / l < d + 1 = x.1 in omega arith)))
      (λ p q. (subst (λ (x : ℕ). T (has S x)) (sym q) t, omega arith))
      (λ p x. (x.0, (let m : p / l < d = x.1 in omega arith)))
    where
      fill : ℕ → ℕ
      fill p = if has (2 ^ d) (p / l) then over n (E d) (byte_of l s (p % l)) else get_or s p 0

      at : (p : ℕ) → p < length s₀ → get_or s' p 0 ≡ fill p
      at p h = ap (λ (x : List ℕ). get_or x p 0) e ∙ get_d_tabulate (length s) fill p (omega (arith, r.long))

      split : (p : ℕ) → TargetTo (d + 1) p → (p / l < d) ⊎ (p / l ≡ d) → (p / l ≡ d) ⊎ (p / l ≢ d) × TargetTo d p
      split p x (inl m) = inr (λ q. omega arith, (x.0, m))
      split p x (inr q) = inl q

  -- the same by one block out of a copy of the strips at entry
  pub filled_aside : (w d : ℕ) (s s' local block : List ℕ) → 0 < l → l ≤ w → FilledTo d s → T (has S d) → n * l ≡ length s₀ → d < n
      → ((i : ℕ) → i < n → T (has (E d) i) → T (has S i) → ⊥)
      → ((t i : ℕ) → t < l → i < n → byte_of l local t i ≡ byte_of l s₀ t i)
      → block ≡ tabulate w (λ t. over n (E d) (byte_of l local (0 + t))) → s' ≡ put s (d * l) (take l block) → FilledTo (d + 1) s'
  filled_aside w d s s' local block z short r t fits m apart same e p =
      filled-strip d s s' z r t fits apart
      (strip-put n l (E d) d s s' (take l block) z (omega (arith, r.long, strip-within d n l m)) (length-take-le l block (omega (arith, long)))
      (λ j h. get_or-take l block j 0 h ∙ ap (λ (b : List ℕ). get_or b j 0) e ∙ get_d_tabulate w (λ t. over n (E d) (byte_of l local (0 + t))) j (omega arith)
      ∙ ap (λ (x : ℕ). over n (E d) (byte_of l local x)) (zero-add j)
      ∙ over_cong n (E d) (byte_of l local j) (byte_of l s₀ j) (λ i k u. same j i h k) ∙ sym (filled-read d s r fits apart j h))
      p)
    where
      long : length block ≡ w
      long = ap length e ∙ length-tabulate w (λ t. over n (E d) (byte_of l local (0 + t)))

  pub filled-all : (d : ℕ) (s : List ℕ) → FilledTo d s → n ≤ d → n * l ≡ length s₀ → s ≡ filled n l E S s₀
  unfolding filled
  filled-all d s r e m =
      patched_all s₀ fill_byte (TargetTo d) (λ p. has S (p / l)) s r
      (λ p h t. (t, omega (arith, places n l p (omega arith)))) (λ p x. x.0)
